-- Texts that are taken or refused, worked out by running the reader.
use Rattle.std.specs.Prelude.{nat_le, nat_lt}
use Rattle.std.proofs.Common.{◌≡◌, ◌≤◌, ◌<◌, ℕ, true, List, [], length, Some, None, refl, sym, ◌∙◌, arith}
use Rattle.std.proofs.lemmas.Bool.{leb-true, ltb-true}
use Rattle.ac_syntax.specs.declared.refusal.RefusalKind.{RefusalKind}
use Rattle.ac_syntax.specs.declared.refusal.RefusalKind.TheVariants.{Syntax, Limit}
use Rattle.ac_syntax.specs.Tokens.{cut_of}
use Rattle.ac_rules.specs.Scopes.{Scope}
use Rattle.ac_aggregate.specs.Asked.{Asked}
use Rattle.ac_aggregate.specs.Grammar.{Asks}
use Rattle.ac_aggregate.specs.Outcomes.{got, stuck}
use Rattle.ac_aggregate.specs.Reading.{read_by, question}
use Rattle.ac_aggregate.specs.Refusals.{first_fault, word_tokens, IsRefused, too_long, no_question, faulty, IsTaken}
use Rattle.ac_aggregate.proofs.Sound.{whole_sound}
use Rattle.ac_aggregate.proofs.Asking.{few, unread, malformed}

short : (word : List ℕ) → nat_le (length word) 4096 ≡ true → length word ≤ 4096
short word h = leb-true (length word) 4096 h

read_so : (word : List ℕ) (q : Asked) → (cut_of word).malformed ≡ None → read_by 16385 question (word_tokens word) ≡ got q [] → Asks q word
read_so word q whole read = record { whole = whole; derives = whole_sound 16385 q (word_tokens word) read }

pub takes_by : (scope : Scope) (word : List ℕ) (q : Asked) → nat_le (length word) 4096 ≡ true → (cut_of word).malformed ≡ None
    → read_by 16385 question (word_tokens word) ≡ got q [] → first_fault scope (word_tokens word) q ≡ None → IsTaken scope word q
takes_by scope word q within whole read none = record { short = short word within; asks = read_so word q whole read; faultless = none }

pub refuses_by : (scope : Scope) (word : List ℕ) (q : Asked) (kind : RefusalKind) → nat_le (length word) 4096 ≡ true → (cut_of word).malformed ≡ None
    → read_by 16385 question (word_tokens word) ≡ got q [] → first_fault scope (word_tokens word) q ≡ Some kind → IsRefused scope word kind
refuses_by scope word q kind within whole read is = faulty q kind (short word within) (read_so word q whole read) is

pub nothing_by : (scope : Scope) (word : List ℕ) → nat_le (length word) 4096 ≡ true → read_by 16385 question (word_tokens word) ≡ stuck → IsRefused scope word Syntax
nothing_by scope word within none =
    unread scope word (word_tokens word) (short word within) refl (omega (arith, few word, short word within)) (λ q read. absurd (cc (sym none ∙ read)))

pub malformed_by : (scope : Scope) (word : List ℕ) (line : ℕ) → nat_le (length word) 4096 ≡ true → (cut_of word).malformed ≡ Some line → IsRefused scope word Syntax
malformed_by scope word line within is = malformed scope word line (short word within) is

pub long_by : (scope : Scope) (word : List ℕ) → nat_lt 4096 (length word) ≡ true → IsRefused scope word Limit
long_by scope word long = too_long (ltb-true 4096 (length word) long)

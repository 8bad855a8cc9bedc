-- Each text is a question that is taken, or is refused.
use Rattle.std.proofs.Common.{◌≡◌, ◌≤◌, ◌<◌, ◌⊎◌, inl, inr, ℕ, List, [], ◌∷◌, length, Option, Some, None, refl, sym, ◌∙◌, arith}
use Rattle.std.proofs.lemmas.Bool.{cases_lt}
use Rattle.ac_syntax.specs.declared.refusal.RefusalKind.{RefusalKind}
use Rattle.ac_syntax.specs.declared.refusal.RefusalKind.TheVariants.{Syntax, Limit}
use Rattle.ac_syntax.specs.Tokens.{cut_of}
use Rattle.ac_rules.specs.Scopes.{Scope}
use Rattle.ac_aggregate.specs.Asked.{Asked}
use Rattle.ac_aggregate.specs.Grammar.{Asks}
use Rattle.ac_aggregate.specs.Outcomes.{Outcome, got, stuck}
use Rattle.ac_aggregate.specs.Reading.{read_by, question}
use Rattle.ac_aggregate.specs.Refusals.{first_fault, word_tokens, IsRefused, too_long, faulty, IsTaken}
use Rattle.ac_aggregate.proofs.Asking.{few, unread, malformed}
use Rattle.ac_aggregate.proofs.Sound.{whole_sound}

abbrev Judged : Scope → List ℕ → Type 0
Judged scope word = ((kind : RefusalKind) × IsRefused scope word kind) ⊎ ((q : Asked) × IsTaken scope word q)

by_fault : (scope : Scope) (word : List ℕ) (q : Asked) → length word ≤ 4096 → Asks q word → (fault : Option RefusalKind)
    → first_fault scope (word_tokens word) q ≡ fault → Judged scope word
by_fault scope word q short asks None is = inr (q, record { short = short; asks = asks; faultless = is })
by_fault scope word q short asks (Some kind) is = inl (kind, faulty q kind short asks is)

unread_so : (scope : Scope) (word : List ℕ) → length word ≤ 4096 → ((q : Asked) → read_by 16385 question (word_tokens word) ≡ got q [] → ⊥) → Judged scope word
unread_so scope word short none = inl (Syntax, unread scope word (word_tokens word) short refl (omega (arith, few word, short)) none)

by_outcome : (scope : Scope) (word : List ℕ) → length word ≤ 4096 → (cut_of word).malformed ≡ None → (o : Outcome Asked)
    → read_by 16385 question (word_tokens word) ≡ o → Judged scope word
by_outcome scope word short whole (got q []) is =
    by_fault scope word q short (record { whole = whole; derives = whole_sound 16385 q (word_tokens word) is }) _ refl
by_outcome scope word short whole (got q (t ∷ ts)) is = unread_so scope word short (λ p read. absurd (cc (sym is ∙ read)))
by_outcome scope word short whole stuck is = unread_so scope word short (λ p read. absurd (cc (sym is ∙ read)))

by_cut : (scope : Scope) (word : List ℕ) → length word ≤ 4096 → (line : Option ℕ) → (cut_of word).malformed ≡ line → Judged scope word
by_cut scope word short None is = by_outcome scope word short is _ refl
by_cut scope word short (Some line) is = inl (Syntax, malformed scope word line short is)

by_length : (scope : Scope) (word : List ℕ) → (4096 < length word) ⊎ (length word ≤ 4096) → Judged scope word
by_length scope word (inl long) = inl (Limit, too_long long)
by_length scope word (inr short) = by_cut scope word short _ refl

pub each_word : (scope : Scope) (word : List ℕ) → ((kind : RefusalKind) × IsRefused scope word kind) ⊎ ((q : Asked) × IsTaken scope word q)
each_word scope word = by_length scope word (cases_lt 4096 (length word))

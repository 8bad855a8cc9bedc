-- A text is one question that is taken, or is refused for one reason.
use Rattle.std.proofs.Common.{◌≡◌, ◌≤◌, ◌<◌, ◌+◌, ◌-◌, ◌⊎◌, inl, inr, ℕ, zero, suc, Bool, true, false, List, [], ◌∷◌, ◌++◌, length, Option, Some, None, Result, Ok, Err, IfOk, is_some, refl, sym, ap, ◌∙◌, subst, arith, length-append}
use Rattle.std.proofs.lemmas.Option.{none-some, same_Some}
use Rattle.ac_syntax.specs.declared.piece.Piece.{Piece}
use Rattle.ac_syntax.specs.declared.refusal.RefusalKind.{RefusalKind}
use Rattle.ac_syntax.specs.declared.refusal.RefusalKind.TheVariants.{Syntax, Limit, UnknownName, WrongType, Twice}
use Rattle.ac_syntax.specs.declared.token.Token.{Token}
use Rattle.ac_syntax.specs.declared.token.Placed.{Placed}
use Rattle.ac_syntax.specs.Tokens.{Cut, piece_at, line_after, with_piece, placed_at, cut_from, cut_of, tokens}
use Rattle.ac_rules.specs.Scopes.{Scope}
use Rattle.ac_aggregate.specs.declared.fault.AskFault.{AskFault}
use Rattle.ac_aggregate.specs.declared.fault.AskFault.TheVariants.{Refused, NoMemory}
use Rattle.ac_aggregate.specs.declared.question.Question.{Question}
use Rattle.ac_aggregate.specs.Asked.{Asked}
use Rattle.ac_aggregate.specs.Asking.{asked_by, IsAnswer, Takes, Refuses}
use Rattle.ac_aggregate.specs.Grammar.{Derives, questions, Asks}
use Rattle.ac_aggregate.specs.Outcomes.{Outcome, got, stuck}
use Rattle.ac_aggregate.specs.Reading.{read_by, question}
use Rattle.ac_aggregate.specs.Refusals.{first_fault, word_tokens, IsRefused, too_long, no_question, faulty, IsTaken}
use Rattle.ac_aggregate.proofs.Complete.{all_read}
use Rattle.ac_aggregate.proofs.OneQuestion.{asks_one}

-- a text has no more tokens than bytes

placed_few : (t : Option Token) (line : ℕ) (ps : List Placed) (n : ℕ) → length ps ≤ n → length (placed_at line t ++ ps) ≤ suc n
placed_few None line ps n h = omega (arith, h)
placed_few (Some t) line ps n h = omega (arith, h)

piece_few : (piece : Option Piece) (line : ℕ) (rest : ℕ → Cut) (n : ℕ) → ((skip : ℕ) → length (rest skip).placed ≤ n) → length (with_piece piece line rest).placed ≤ suc n
piece_few None line rest n h = omega arith
piece_few (Some piece) line rest n h = placed_few piece.token line (rest (piece.len - 1)).placed n (h (piece.len - 1))

few_from : (skip line : ℕ) (text : List ℕ) → length (cut_from skip line text).placed ≤ length text
few_from skip line [] = omega arith
few_from (suc skip) line (b ∷ rest) = omega (arith, few_from skip (line_after line b) rest)
few_from zero line (b ∷ rest) = piece_few (piece_at b rest) line (λ skip. cut_from skip (line_after line b) rest) (length rest) (λ skip. few_from skip (line_after line b) rest)

tokens_few : (placed : List Placed) → length (tokens placed) ≡ length placed
tokens_few [] = refl
tokens_few (p ∷ placed) = omega (arith, tokens_few placed)

pub few : (word : List ℕ) → length (word_tokens word) ≤ length word
few word = omega (arith, few_from 0 1 word, tokens_few (cut_of word).placed)

-- what isn't read to its end is no question
pub unread : (scope : Scope) (word : List ℕ) (ts : List Token) → length word ≤ 4096 → word_tokens word ≡ ts → length ts ≤ 4096
    → ((q : Asked) → read_by 16385 question ts ≡ got q [] → ⊥) → IsRefused scope word Syntax
unread scope word ts short is within none =
    no_question short (λ q asks. none q (all_read q ts 16385 (subst (Derives questions q) is asks.derives) (omega (arith, within))))

pub malformed : (scope : Scope) (word : List ℕ) (line : ℕ) → length word ≤ 4096 → (cut_of word).malformed ≡ Some line → IsRefused scope word Syntax
malformed scope word line short is = no_question short (λ q asks. none-some line (sym asks.whole ∙ is))

pub not_both : (scope : Scope) (word : List ℕ) (q : Asked) (kind : RefusalKind) → IsTaken scope word q → IsRefused scope word kind → ⊥
not_both scope word q kind taken (too_long long) = omega (arith, long, taken.short)
not_both scope word q kind taken (no_question short none) = none q taken.asks
not_both scope word q kind taken (faulty other kind_2 short asks is) =
    none-some kind_2 (sym taken.faultless ∙ ap (first_fault scope (word_tokens word)) (asks_one word q other taken.asks asks) ∙ is)

pub one_kind : (scope : Scope) (word : List ℕ) (kind other : RefusalKind) → IsRefused scope word kind → IsRefused scope word other → kind ≡ other
one_kind scope word kind other (too_long long) (too_long longer) = refl
one_kind scope word kind other (too_long long) (no_question short none) = absurd (omega (arith, long, short))
one_kind scope word kind other (too_long long) (faulty q k short asks is) = absurd (omega (arith, long, short))
one_kind scope word kind other (no_question short none) (too_long long) = absurd (omega (arith, long, short))
one_kind scope word kind other (no_question short none) (no_question short_2 none_2) = refl
one_kind scope word kind other (no_question short none) (faulty q k short_2 asks is) = absurd (none q asks)
one_kind scope word kind other (faulty q k short asks is) (too_long long) = absurd (omega (arith, long, short))
one_kind scope word kind other (faulty q k short asks is) (no_question short_2 none) = absurd (none q asks)
one_kind scope word kind other (faulty q k short asks is) (faulty p m short_2 asks_2 is_2) =
    same_Some k m (sym is ∙ ap (first_fault scope (word_tokens word)) (asks_one word q p asks asks_2) ∙ is_2)

pub refused_so : (scope : Scope) (word : List ℕ) (result : Result Question AskFault) (kind : RefusalKind) → IsAnswer scope word result → result ≡ Err (Refused kind)
    → IsRefused scope word kind
refused_so scope word result kind answer is = subst (IsAnswer scope word) is answer

pub takes : (scope : Scope) (word : List ℕ) (result : Result Question AskFault) (q : Asked) → IsAnswer scope word result → IsTaken scope word q → Takes result q
takes scope word (Ok made) q answer taken = inl (made, refl, asks_one word (asked_by made) q answer.asks taken.asks)
takes scope word (Err (Refused kind)) q answer taken = absurd (not_both scope word q kind taken answer)
takes scope word (Err NoMemory) q answer taken = inr refl

pub refuses : (scope : Scope) (word : List ℕ) (result : Result Question AskFault) (kind : RefusalKind) → IsAnswer scope word result → IsRefused scope word kind
    → Refuses result kind
refuses scope word (Ok made) kind answer refused = absurd (not_both scope word (asked_by made) kind answer refused)
refuses scope word (Err (Refused other)) kind answer refused = inl (ap (λ k. Err (Refused k)) (one_kind scope word other kind answer refused))
refuses scope word (Err NoMemory) kind answer refused = inr refl

-- what a question with these tokens comes to

pub faulty_by : (scope : Scope) (word : List ℕ) (ts : List Token) (q : Asked) (kind : RefusalKind) (fault : AskFault) → length word ≤ 4096 → (cut_of word).malformed ≡ None
    → word_tokens word ≡ ts → Derives questions q ts → Some kind ≡ first_fault scope ts q → fault ≡ Refused kind → IsAnswer scope word (Err fault)
faulty_by scope word ts q kind fault short whole is derives first told =
    subst (λ f. IsAnswer scope word (Err f)) (sym told)
    (faulty q kind short (record { whole = whole; derives = subst (Derives questions q) (sym is) derives }) (ap (λ ts. first_fault scope ts q) is ∙ sym first))

pub taken_by : (scope : Scope) (word : List ℕ) (ts : List Token) (q : Asked) → length word ≤ 4096 → (cut_of word).malformed ≡ None
    → word_tokens word ≡ ts → Derives questions q ts → None ≡ first_fault scope ts q → IsTaken scope word q
taken_by scope word ts q short whole is derives first =
    record {
      short = short;
      asks = record { whole = whole; derives = subst (Derives questions q) (sym is) derives };
      faultless = ap (λ ts. first_fault scope ts q) is ∙ sym first;
    }

pub unread_by : (scope : Scope) (word : List ℕ) (ts : List Token) (o : Outcome Asked) (fault : AskFault) → length word ≤ 4096 → word_tokens word ≡ ts → length ts ≤ 4096
    → read_by 16385 question ts ≡ o → ((q : Asked) → o ≡ got q [] → ⊥) → fault ≡ Refused Syntax → IsAnswer scope word (Err fault)
unread_by scope word ts o fault short is within read none told =
    subst (λ f. IsAnswer scope word (Err f)) (sym told) (unread scope word ts short is within (λ q e. none q (sym read ∙ e)))

pub malformed_by : (scope : Scope) (word : List ℕ) (line : Option ℕ) (fault : AskFault) → length word ≤ 4096 → line ≡ (cut_of word).malformed → is_some line ≡ true
    → fault ≡ Refused Syntax → IsAnswer scope word (Err fault)
malformed_by scope word None fault short is some told = absurd (cc some)
malformed_by scope word (Some line) fault short is some told = subst (λ f. IsAnswer scope word (Err f)) (sym told) (malformed scope word line short (sym is))

pub long_by : (scope : Scope) (word : List ℕ) (fault : AskFault) → 4096 < length word → fault ≡ Refused Limit → IsAnswer scope word (Err fault)
long_by scope word fault long told = subst (λ f. IsAnswer scope word (Err f)) (sym told) (too_long long)

pub taken_so : (scope : Scope) (word : List ℕ) (result : Result Question AskFault) → IsAnswer scope word result → IfOk result (λ q. IsTaken scope word (asked_by q))
taken_so scope word (Ok made) answer = answer
taken_so scope word (Err fault) answer = tt

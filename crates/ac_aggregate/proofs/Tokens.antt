-- A text by its tokens: whether they are read to their end, and how many they are.
use Rattle.std.proofs.Common.{◌≡◌, ◌≤◌, ◌==◌, ℕ, Bool, true, false, List, [], ◌∷◌, length, Option, Some, None, Result, is_some, refl, sym, ap, ◌∙◌, arith}
use Rattle.std.proofs.lemmas.Bool.{eqb-true, eqb-false}
use Rattle.std.proofs.lemmas.List.{nil_from_length}
use Rattle.ac_syntax.specs.declared.token.Token.{Token}
use Rattle.ac_syntax.specs.declared.token.Placed.{Placed}
use Rattle.ac_syntax.specs.Tokens.{cut_of, tokens}
use Rattle.ac_rules.specs.Scopes.{Scope}
use Rattle.ac_aggregate.specs.declared.fault.AskFault.{AskFault}
use Rattle.ac_aggregate.specs.declared.question.Question.{Question}
use Rattle.ac_aggregate.specs.Asked.{Asked}
use Rattle.ac_aggregate.specs.Asking.{IsAnswer}
use Rattle.ac_aggregate.specs.Grammar.{Derives, questions}
use Rattle.ac_aggregate.specs.Outcomes.{got}
use Rattle.ac_aggregate.specs.Reading.{read_by, question}
use Rattle.ac_aggregate.specs.Refusals.{word_tokens}
use Rattle.ac_aggregate.proofs.Asking.{few}
use Rattle.ac_aggregate.proofs.Sound.{whole_sound}

-- nothing is left
pub whole_by : (ts rest : List Token) (q : Asked) (empty : Bool) → read_by 16385 question ts ≡ got q rest → empty ≡ (length rest == 0) → empty ≡ true → Derives questions q ts
whole_by ts rest q empty read is none =
    whole_sound 16385 q ts (read ∙ ap (got q) (nil_from_length rest (eqb-true (length rest) 0 (sym is ∙ none))))

-- something is
pub rest_by : (rest : List Token) (q : Asked) (empty : Bool) → empty ≡ (length rest == 0) → empty ≡ false → (p : Asked) → got q rest ≡ got p [] → ⊥
rest_by rest q empty is some p same =
    let none : rest ≡ [] = cc same in
    eqb-false (length rest) 0 (sym is ∙ some) (ap length none)

pub few_by : (word : List ℕ) (placed : List Placed) (ts : List Token) → placed ≡ (cut_of word).placed → ts ≡ tokens placed → length word ≤ 4096 → length ts ≤ 4096
few_by word placed ts cut is short = omega (arith, few word, ap length is, ap (λ ps. length (tokens ps)) cut, short)

none_left : (o : Option ℕ) → is_some o ≡ false → o ≡ None
none_left None h = refl
none_left (Some line) h = absurd (cc h)

-- what these tokens come to is what the text comes to
pub answered_by : (scope : Scope) (word : List ℕ) (placed : List Placed) (malformed : Option ℕ) (ts : List Token) (result : Result Question AskFault) → length word ≤ 4096
    → placed ≡ (cut_of word).placed → malformed ≡ (cut_of word).malformed → is_some malformed ≡ false → ts ≡ tokens placed
    → ((other : List ℕ) → length other ≤ 4096 → (cut_of other).malformed ≡ None → word_tokens other ≡ ts → IsAnswer scope other result)
    → IsAnswer scope word result
answered_by scope word placed malformed ts result short cut bad some is answers =
    answers word short (sym bad ∙ none_left malformed some) (ap tokens (sym cut) ∙ sym is)

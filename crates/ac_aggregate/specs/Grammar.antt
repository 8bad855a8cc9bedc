-- The grammar of questions: which tokens derive which question.
use Rattle.std.specs.Prelude.{◌≡◌, ◌||◌, ℕ, codes, Bool, true, false, not, List, [], ◌∷◌, ◌++◌, None}
use Rattle.std.specs.List.{list_any}
use Rattle.std.specs.Str.{bytes_eq}
use Rattle.ac_syntax.specs.declared.token.Token.{Token}
use Rattle.ac_syntax.specs.declared.token.Token.TheVariants as token
use Rattle.ac_syntax.specs.declared.token.Mark.{Mark}
use Rattle.ac_syntax.specs.declared.token.Mark.TheVariants as mark
use Rattle.ac_syntax.specs.Tokens.{cut_of, tokens}
use Rattle.ac_syntax.specs.Grammar.{is_reserved}
use Rattle.ac_aggregate.specs.declared.oper.Comparison.{Comparison}
use Rattle.ac_aggregate.specs.declared.oper.Comparison.TheVariants as comparison
use Rattle.ac_aggregate.specs.declared.oper.Oper.{Oper}
use Rattle.ac_aggregate.specs.declared.oper.Oper.TheVariants as oper
use Rattle.ac_aggregate.specs.Asked.{Asked, literal, text, name, group, product, sum, all_of, each, reduced, always, compares, both, negated}

-- the words that name nothing in a question, beside those that name nothing in a script
abbrev pub question_words : List (List ℕ)
question_words = codes "when" ∷ codes "and" ∷ codes "not" ∷ codes "reduce" ∷ []

unfoldable pub is_name : List ℕ → Bool
is_name word = not (is_reserved word || list_any (bytes_eq word) question_words)

abbrev pub comparison_mark : Comparison → Mark
comparison_mark comparison.Equal = mark.Equal
comparison_mark comparison.NotEqual = mark.NotEqual
comparison_mark comparison.Less = mark.Less
comparison_mark comparison.LessEqual = mark.LessEqual
comparison_mark comparison.Greater = mark.Greater
comparison_mark comparison.GreaterEqual = mark.GreaterEqual

-- the string that names an operation
abbrev pub oper_text : Oper → List ℕ
oper_text oper.Sum = codes "+"
oper_text oper.Product = codes "*"
oper_text oper.Least = codes "min"
oper_text oper.Greatest = codes "max"

abbrev pub sign : (minus : Bool) → Mark
sign false = mark.Plus
sign true = mark.Minus

-- a number as it is spelled
abbrev pub signed : (minus : Bool) → ℕ → List Token
signed false n = token.Number n ∷ []
signed true n = token.Mark mark.Minus ∷ token.Number n ∷ []

-- the head of an aggregate, up to its condition
abbrev pub head : (generator object : List ℕ) → List Token
head generator object =
    token.Mark mark.BracketOpen ∷ token.Word (codes "for") ∷ token.Word generator ∷ token.Word (codes "of") ∷ token.Word object ∷ []

-- and its end, around what it gives
abbrev pub given_by : List Token → List Token
given_by us = token.Mark mark.Arrow ∷ (us ++ token.Mark mark.BracketClose ∷ [])

-- the end of a reduction, behind what is reduced
abbrev pub reduction_end : Oper → (minus : Bool) → ℕ → List Token
reduction_end by minus n =
    token.Mark mark.Tick ∷ token.Word (codes "reduce") ∷ token.Mark mark.Open ∷ token.Text (oper_text by) ∷ token.Mark mark.Comma
    ∷ (signed minus n ++ token.Mark mark.Close ∷ [])

pub data Level : Type 0 where
  factors : Level
  terms : Level
  expressions : Level
  atoms : Level
  conditions : Level
  aggregates : Level
  -- what is reduced
  sources : Level
  reductions : Level
  questions : Level

-- these tokens are this part of a question, at this level
pub data Derives : Level → Asked → List Token → Type 0 where
  a_literal : (minus : Bool) (n : ℕ) → Derives factors (literal minus n) (signed minus n)
  a_text : (bytes : List ℕ) → Derives factors (text bytes) (token.Text bytes ∷ [])
  a_name : (word : List ℕ) → is_name word ≡ true → Derives factors (name word) (token.Word word ∷ [])
  a_group : (e : Asked) (ts : List Token) → Derives expressions e ts →
      Derives factors (group e) (token.Mark mark.Open ∷ (ts ++ token.Mark mark.Close ∷ []))
  a_reduced_factor : (r : Asked) (ts : List Token) → Derives reductions r ts → Derives factors r ts
  a_factor : (e : Asked) (ts : List Token) → Derives factors e ts → Derives terms e ts
  a_product : (l r : Asked) (ts us : List Token) → Derives terms l ts → Derives factors r us →
      Derives terms (product l r) (ts ++ token.Mark mark.Star ∷ us)
  a_term : (e : Asked) (ts : List Token) → Derives terms e ts → Derives expressions e ts
  a_sum : (l r : Asked) (minus : Bool) (ts us : List Token) → Derives expressions l ts → Derives terms r us →
      Derives expressions (sum l minus r) (ts ++ token.Mark (sign minus) ∷ us)
  a_comparison : (l r : Asked) (by : Comparison) (ts us : List Token) → Derives expressions l ts → Derives expressions r us →
      Derives atoms (compares l by r) (ts ++ token.Mark (comparison_mark by) ∷ us)
  a_negation : (c : Asked) (ts : List Token) → Derives conditions c ts →
      Derives atoms (negated c) (token.Word (codes "not") ∷ token.Mark mark.Open ∷ (ts ++ token.Mark mark.Close ∷ []))
  an_atom : (c : Asked) (ts : List Token) → Derives atoms c ts → Derives conditions c ts
  a_conjunction : (l r : Asked) (ts us : List Token) → Derives conditions l ts → Derives atoms r us →
      Derives conditions (both l r) (ts ++ token.Word (codes "and") ∷ us)
  an_aggregate : (generator object : List ℕ) (e : Asked) (us : List Token) → is_name generator ≡ true → is_name object ≡ true →
      Derives expressions e us → Derives aggregates (each generator object always e) (head generator object ++ given_by us)
  a_filtered : (generator object : List ℕ) (c e : Asked) (ts us : List Token) → is_name generator ≡ true → is_name object ≡ true →
      Derives conditions c ts → Derives expressions e us →
      Derives aggregates (each generator object c e) (head generator object ++ token.Word (codes "when") ∷ (ts ++ given_by us))
  an_object : (word : List ℕ) → is_name word ≡ true → Derives sources (all_of word) (token.Word word ∷ [])
  a_source : (a : Asked) (ts : List Token) → Derives aggregates a ts → Derives sources a ts
  a_reduction : (source : Asked) (by : Oper) (minus : Bool) (n : ℕ) (ts : List Token) → Derives sources source ts →
      Derives reductions (reduced source by minus n) (ts ++ reduction_end by minus n)
  asks_aggregate : (a : Asked) (ts : List Token) → Derives aggregates a ts → Derives questions a ts
  asks_reduction : (r : Asked) (ts : List Token) → Derives reductions r ts → Derives questions r ts

-- a text is cut into tokens as a script's is, with no word of exceptions reserved, and they derive the question
pub record Asks (q : Asked) (word : List ℕ) : Type 0 where
  pub whole : (cut_of word).malformed ≡ None
  pub derives : Derives questions q (tokens (cut_of word).placed)

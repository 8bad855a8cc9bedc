-- What a question comes to: nothing where a number that is made lies outside the integers.
use Rattle.std.specs.Prelude.{ℕ, ℤ, pos, negsuc, neg_ℤ, ◌+ℤ◌, ◌-ℤ◌, ◌*ℤ◌, ◌^◌, ◌-◌, Bool, true, false, not, ◌&&◌, int_le, List, [], ◌∷◌, ◌++◌, map, filter_map, Option, Some, None, option_map, option_and_then, if◌then◌else◌}
use Rattle.std.specs.Cmp.Lexicographic.{slice_cmp}
use Rattle.std.specs.Ordering.{nat_cmp, int_cmp, is_eq, is_lt, is_le, is_gt, is_ge}
use Rattle.std.specs.declared.cmp.Ordering.{Ordering}
use Rattle.std.specs.declared.cmp.Ordering.TheVariants as ordering
use Rattle.ac_base.specs.declared.value.Value.{Value}
use Rattle.ac_base.specs.declared.value.Value.TheVariants as value
use Rattle.ac_aggregate.specs.declared.oper.Comparison.{Comparison}
use Rattle.ac_aggregate.specs.declared.oper.Comparison.TheVariants as comparison
use Rattle.ac_aggregate.specs.declared.oper.Oper.{Oper}
use Rattle.ac_aggregate.specs.declared.oper.Oper.TheVariants as oper
use Rattle.ac_calls.specs.declared.plains.Plain.{Plain}
use Rattle.ac_aggregate.specs.Asked.{Asked, literal, text, name, group, product, sum, all_of, each, reduced, always, compares, both, negated}
use Rattle.ac_aggregate.specs.Generators.{Generator, generator, innermost}
use Rattle.ac_aggregate.specs.Plains.{blank, variable, elements}

abbrev pub if_integer : ℤ → Option ℤ
if_integer z = if int_le (negsuc (2 ^ 63 - 1)) z && int_le z (pos (2 ^ 63 - 1)) then Some z else None

-- a number as it is spelled
abbrev pub integer_of : (minus : Bool) → ℕ → ℤ
integer_of false n = pos n
integer_of true n = neg_ℤ (pos n)

abbrev pub spelled_integer : (minus : Bool) → ℕ → Option ℤ
spelled_integer minus n = if_integer (integer_of minus n)

abbrev pub integer_in : Value → ℤ
integer_in (value.Int z) = z
integer_in (value.Text bytes) = pos 0

abbrev pub added : (minus : Bool) → ℤ → ℤ → Option ℤ
added false x y = if_integer (x +ℤ y)
added true x y = if_integer (x -ℤ y)

-- integers by their size, texts by their bytes
abbrev pub order : Value → Value → Ordering
order (value.Int x) (value.Int y) = int_cmp x y
order (value.Text x) (value.Text y) = slice_cmp nat_cmp x y
order (value.Int x) (value.Text y) = ordering.Equal
order (value.Text x) (value.Int y) = ordering.Equal

abbrev pub holds : Comparison → Ordering → Bool
holds comparison.Equal o = is_eq o
holds comparison.NotEqual o = not (is_eq o)
holds comparison.Less o = is_lt o
holds comparison.LessEqual o = is_le o
holds comparison.Greater o = is_gt o
holds comparison.GreaterEqual o = is_ge o

-- what is made of two, where there are both
abbrev pub joined : {A B C : Type 0} → (A → B → Option C) → Option A → Option B → Option C
joined f a b = option_and_then (λ x. option_and_then (f x) b) a

abbrev pub as_value : Option ℤ → Option Value
as_value z = option_map value.Int z

-- of two integers
abbrev pub number_from : (ℤ → ℤ → Option ℤ) → Value → Value → Option Value
number_from f x y = as_value (f (integer_in x) (integer_in y))

abbrev pub product_of : Option Value → Option Value → Option Value
product_of left right = joined (number_from (λ x y. if_integer (x *ℤ y))) left right

abbrev pub sum_of : (minus : Bool) → Option Value → Option Value → Option Value
sum_of minus left right = joined (number_from (added minus)) left right

abbrev pub compared_by : Comparison → Option Value → Option Value → Option Bool
compared_by by left right = joined (λ x y. Some (holds by (order x y))) left right

abbrev pub both_of : Option Bool → Option Bool → Option Bool
both_of left right = joined (λ x y. Some (x && y)) left right

abbrev pub negation_of : Option Bool → Option Bool
negation_of condition = option_map not condition

-- all of these, unless one of them is nothing
abbrev pub all_values : {A : Type 0} → List (Option A) → Option (List A)
all_values [] = Some []
all_values (None ∷ vs) = None
all_values (Some v ∷ vs) = option_map (λ ws. v ∷ ws) (all_values vs)

-- a value where the condition holds, and else none of those that are given
abbrev pub kept : (condition : Option Bool) → Option Value → Option (Option Value)
kept None gives = None
kept (Some false) gives = Some None
kept (Some true) gives = option_map Some gives

-- those that are kept, of all elements
abbrev pub all_kept : List (Option (Option Value)) → Option (List Value)
all_kept vs = option_map (filter_map (λ v. v)) (all_values vs)

abbrev pub least : ℤ → ℤ → ℤ
least x y = if int_le x y then x else y

abbrev pub greatest : ℤ → ℤ → ℤ
greatest x y = if int_le x y then y else x

abbrev pub combined : Oper → ℤ → ℤ → Option ℤ
combined oper.Sum x y = if_integer (x +ℤ y)
combined oper.Product x y = if_integer (x *ℤ y)
combined oper.Least x y = Some (least x y)
combined oper.Greatest x y = Some (greatest x y)

-- the fold from the left
abbrev pub folded : Oper → ℤ → List Value → Option ℤ
folded by start [] = Some start
folded by start (v ∷ vs) = option_and_then (λ s. folded by s vs) (combined by start (integer_in v))

-- a generator before a variable
abbrev pub value_named : List Plain → Option Value → List ℕ → Value
value_named ps (Some v) word = v
value_named ps None word = variable ps word

unfoldable mutual
  -- an expression, where the generators have these values
  pub value_of : List Plain → Asked → List (Generator Value) → Option Value
  value_of ps (literal minus n) gs = as_value (spelled_integer minus n)
  value_of ps (text bytes) gs = Some (value.Text bytes)
  value_of ps (name word) gs = Some (value_named ps (innermost gs word) word)
  value_of ps (group e) gs = value_of ps e gs
  value_of ps (product l r) gs = product_of (value_of ps l gs) (value_of ps r gs)
  value_of ps (sum l minus r) gs = sum_of minus (value_of ps l gs) (value_of ps r gs)
  value_of ps (all_of word) gs = Some blank
  value_of ps (each own object c e) gs = Some blank
  value_of ps (reduced source by minus n) gs =
      as_value (joined (folded by) (spelled_integer minus n) (values_of ps source gs))
  value_of ps always gs = Some blank
  value_of ps (compares l by r) gs = Some blank
  value_of ps (both l r) gs = Some blank
  value_of ps (negated c) gs = Some blank

  -- a condition
  pub truth_of : List Plain → Asked → List (Generator Value) → Option Bool
  truth_of ps (literal minus n) gs = Some true
  truth_of ps (text bytes) gs = Some true
  truth_of ps (name word) gs = Some true
  truth_of ps (group e) gs = Some true
  truth_of ps (product l r) gs = Some true
  truth_of ps (sum l minus r) gs = Some true
  truth_of ps (all_of word) gs = Some true
  truth_of ps (each own object c e) gs = Some true
  truth_of ps (reduced source by minus n) gs = Some true
  truth_of ps always gs = Some true
  truth_of ps (compares l by r) gs = compared_by by (value_of ps l gs) (value_of ps r gs)
  truth_of ps (both l r) gs = both_of (truth_of ps l gs) (truth_of ps r gs)
  truth_of ps (negated c) gs = negation_of (truth_of ps c gs)

  -- an aggregate, or an object: a filter and a map over the elements
  pub values_of : List Plain → Asked → List (Generator Value) → Option (List Value)
  values_of ps (literal minus n) gs = Some []
  values_of ps (text bytes) gs = Some []
  values_of ps (name word) gs = Some []
  values_of ps (group e) gs = Some []
  values_of ps (product l r) gs = Some []
  values_of ps (sum l minus r) gs = Some []
  values_of ps (all_of word) gs = Some (elements ps word)
  values_of ps (each own object c e) gs =
      all_kept (map (λ v. kept (truth_of ps c (generator own v ∷ gs)) (value_of ps e (generator own v ∷ gs))) (elements ps object))
  values_of ps (reduced source by minus n) gs = Some []
  values_of ps always gs = Some []
  values_of ps (compares l by r) gs = Some []
  values_of ps (both l r) gs = Some []
  values_of ps (negated c) gs = Some []

-- the object of an aggregate
abbrev pub object_in : Asked → List ℕ
object_in (each own object c e) = object
object_in _ = []

-- what an aggregate gives of one element
abbrev pub element_of : List Plain → Asked → List (Generator Value) → Value → Option (Option Value)
element_of ps (each own object c e) gs v = kept (truth_of ps c (generator own v ∷ gs)) (value_of ps e (generator own v ∷ gs))
element_of ps _ gs v = Some None

-- a fold with what one element gives, if it gives anything
abbrev pub stepped : Oper → ℤ → Option (Option Value) → Option ℤ
stepped by start None = None
stepped by start (Some None) = Some start
stepped by start (Some (Some v)) = combined by start (integer_in v)

-- values with what one element gives, if it gives anything
abbrev pub with_given : List Value → Option Value → List Value
with_given vs None = vs
with_given vs (Some v) = vs ++ v ∷ []

-- the answer
pub data Answer : Type 0 where
  number : ℤ → Answer
  listing : List Value → Answer
  overflow : Answer

abbrev pub answers_number : Option Value → Answer
answers_number None = overflow
answers_number (Some v) = number (integer_in v)

abbrev pub answers_listing : Option (List Value) → Answer
answers_listing None = overflow
answers_listing (Some vs) = listing vs

abbrev pub is_aggregate : Asked → Bool
is_aggregate (each own object c e) = true
is_aggregate _ = false

-- of an aggregate all its values, and of a reduction its number
abbrev pub ask_of : Asked → List Plain → Answer
ask_of q ps = if is_aggregate q then answers_listing (values_of ps q []) else answers_number (value_of ps q [])

-- Folds and lists that go on from what was made so far.
use Rattle.std.proofs.Common.{◌≡◌, ℤ, Option, Some, None, List, [], ◌∷◌, ◌++◌, refl, sym, ap, ◌∙◌, append_assoc}
use Rattle.std.specs.Prelude.{filter_map}
use Rattle.std.specs.Option.{option_map, option_and_then}
use Rattle.std.proofs.lemmas.Option.{none-some, same_Some}
use Rattle.ac_base.specs.declared.value.Value.{Value}
use Rattle.ac_aggregate.specs.declared.oper.Oper.{Oper}
use Rattle.ac_aggregate.specs.Values.{integer_in, combined, folded, all_values, all_kept, stepped, with_given}

-- the fold of what is kept, from a number on
abbrev pub goes_on : Oper → ℤ → List (Option (Option Value)) → Option ℤ
goes_on by s ks = option_and_then (folded by s) (all_kept ks)

abbrev kept_of : Option (List (Option Value)) → Option (List Value)
kept_of o = option_map (filter_map (λ v. v)) o

none_more : (by : Oper) (s : ℤ) (o : Option (List (Option Value)))
    → option_and_then (folded by s) (kept_of (option_map (λ ws. None ∷ ws) o)) ≡ option_and_then (folded by s) (kept_of o)
none_more by s None = refl
none_more by s (Some ws) = refl

some_more : (by : Oper) (s more : ℤ) (v : Value) (o : Option (List (Option Value))) → combined by s (integer_in v) ≡ Some more
    → option_and_then (folded by s) (kept_of (option_map (λ ws. Some v ∷ ws) o)) ≡ option_and_then (folded by more) (kept_of o)
some_more by s more v None h = refl
some_more by s more v (Some ws) h = ap (option_and_then (λ s. folded by s (filter_map (λ v. v) ws))) h

pub one_more : (by : Oper) (s more : ℤ) (k : Option (Option Value)) (ks : List (Option (Option Value))) → stepped by s k ≡ Some more
    → goes_on by s (k ∷ ks) ≡ goes_on by more ks
one_more by s more None ks h = absurd (none-some more h)
one_more by s more (Some None) ks h = none_more by s (all_values ks) ∙ ap (λ s. goes_on by s ks) (same_Some s more h)
one_more by s more (Some (Some v)) ks h = some_more by s more v (all_values ks) h

past_more : (by : Oper) (s : ℤ) (v : Value) (o : Option (List (Option Value))) → combined by s (integer_in v) ≡ None
    → option_and_then (folded by s) (kept_of (option_map (λ ws. Some v ∷ ws) o)) ≡ None
past_more by s v None h = refl
past_more by s v (Some ws) h = ap (option_and_then (λ s. folded by s (filter_map (λ v. v) ws))) h

pub past : (by : Oper) (s : ℤ) (k : Option (Option Value)) (ks : List (Option (Option Value))) → stepped by s k ≡ None → goes_on by s (k ∷ ks) ≡ None
past by s None ks h = refl
past by s (Some None) ks h = absurd (none-some s (sym h))
past by s (Some (Some v)) ks h = past_more by s v (all_values ks) h

-- what was made so far, and what is kept of the rest
abbrev pub appended : List Value → List (Option (Option Value)) → Option (List Value)
appended made ks = option_map (λ vs. made ++ vs) (all_kept ks)

skip_by : (made : List Value) (o : Option (List (Option Value)))
    → option_map (λ vs. made ++ vs) (kept_of o) ≡ option_map (λ vs. made ++ vs) (kept_of (option_map (λ ws. None ∷ ws) o))
skip_by made None = refl
skip_by made (Some ws) = refl

add_by : (made : List Value) (v : Value) (o : Option (List (Option Value)))
    → option_map (λ vs. (made ++ v ∷ []) ++ vs) (kept_of o) ≡ option_map (λ vs. made ++ vs) (kept_of (option_map (λ ws. Some v ∷ ws) o))
add_by made v None = refl
add_by made v (Some ws) = ap (λ vs. Some vs) (append_assoc made (v ∷ []) (filter_map (λ v. v) ws))

pub one_given : (made : List Value) (k : Option Value) (ks : List (Option (Option Value))) → appended (with_given made k) ks ≡ appended made (Some k ∷ ks)
one_given made None ks = skip_by made (all_values ks)
one_given made (Some v) ks = add_by made v (all_values ks)

all_by : (o : Option (List Value)) → option_map (λ vs. [] ++ vs) o ≡ o
all_by None = refl
all_by (Some vs) = refl

pub from_none : (ks : List (Option (Option Value))) → appended [] ks ≡ all_kept ks
from_none ks = all_by (all_kept ks)

-- the fold of all elements of an object

pub row_more : (by : Oper) (s more : ℤ) (v : Value) (vs : List Value) → combined by s (integer_in v) ≡ Some more → folded by s (v ∷ vs) ≡ folded by more vs
row_more by s more v vs h = ap (option_and_then (λ s. folded by s vs)) h

pub row_past : (by : Oper) (s : ℤ) (v : Value) (vs : List Value) → combined by s (integer_in v) ≡ None → folded by s (v ∷ vs) ≡ None
row_past by s v vs h = ap (option_and_then (λ s. folded by s vs)) h

-- An array's values in ascending order are those of its rows in order.
use Rattle.std.proofs.Common.{◌≡◌, ℕ, Bool, true, false, List, [], ◌∷◌, length, map, refl, sym, ap, ◌∙◌, if◌then◌else◌, IsPermutation}
use Rattle.std.specs.Cmp.{IsStrictWeakOrder}
use Rattle.std.specs.List.Sorted.{IsSortedBy, IsStableBy}
use Rattle.std.proofs.lemmas.List.{length-map}
use Rattle.ac_base.specs.declared.name.Name.{Name}
use Rattle.ac_base.specs.Order.{IsWeakOrder}
use Rattle.ac_base.specs.Rows.{Row, row, values}
use Rattle.ac_model.specs.Objects.{plains}
use Rattle.ac_model.specs.Rows.{sorted_in, sorted}
use Rattle.ac_model.proofs.Lengths.{length-sorted}
use Rattle.ac_model.proofs.Plains.{values-plains, length-plains}
use Rattle.ac_model.proofs.StableSorts.{strict_order, sort_is}

module _ {X : Type 0} (less : X → X → Bool) where
  -- the value before the first that it isn't after
  abbrev value_in : X → List X → List X
  value_in v [] = v ∷ []
  value_in v (w ∷ ws) = if less w v then w ∷ value_in v ws else v ∷ w ∷ ws

  abbrev values_sorted : List X → List X
  values_sorted [] = []
  values_sorted (v ∷ vs) = value_in v (values_sorted vs)

  values-if : (b : Bool) (xs ys : List (Row ℕ X)) → values (if b then xs else ys) ≡ (if b then values xs else values ys)
  values-if true xs ys = refl
  values-if false xs ys = refl

  values-sorted_in : (r : Row ℕ X) (rs : List (Row ℕ X)) → values (sorted_in less r rs) ≡ value_in r.value (values rs)
  values-sorted_in r [] = refl
  values-sorted_in r (s ∷ rs) =
      values-if (less s.value r.value) (s ∷ sorted_in less r rs) (r ∷ s ∷ rs) ∙ ap (λ vs. if less s.value r.value then s.value ∷ vs else r.value ∷ s.value ∷ values rs) (values-sorted_in r rs)

  -- the order of the values says nothing of the names
  values-sorted : (rs : List (Row ℕ X)) → values (sorted less rs) ≡ values_sorted (values rs)
  values-sorted [] = refl
  values-sorted (r ∷ rs) = values-sorted_in r (sorted less rs) ∙ ap (value_in r.value) (values-sorted rs)

  unnamed : X → Row ℕ X
  unnamed v = row 0 v

  values-unnamed : (vs : List X) → values (map unnamed vs) ≡ vs
  unfolding unnamed
  values-unnamed [] = refl
  values-unnamed (v ∷ vs) = ap (λ ws. v ∷ ws) (values-unnamed vs)

  pub strict : IsWeakOrder less → IsStrictWeakOrder less
  unfolding unnamed
  strict order = strict_order less order unnamed (λ v w. v) (λ v w. refl)

  module _ (order : IsWeakOrder less) (rs : List (Row Name X)) (vs to : List X) where
    pub sorted_is : vs ≡ values rs → IsPermutation vs to → IsSortedBy less to → IsStableBy less vs to → to ≡ values (sorted less (plains rs))
    unfolding unnamed
    sorted_is are moves up stable =
        let named : map unnamed to ≡ sorted less (map unnamed vs) = sort_is less order unnamed (λ v w. v) (λ v w. refl) vs to moves up stable in
        sym (values-unnamed to) ∙ ap values named ∙ values-sorted (map unnamed vs) ∙ ap values_sorted (values-unnamed vs ∙ are ∙ values-plains rs) ∙ sym (values-sorted (plains rs))

  pub sorted_long : (rs : List (Row Name X)) → length (values (sorted less (plains rs))) ≡ length rs
  sorted_long rs = length-map (sorted less (plains rs)) (λ (r : Row ℕ X). r.value) ∙ length-sorted less (plains rs) ∙ length-plains rs

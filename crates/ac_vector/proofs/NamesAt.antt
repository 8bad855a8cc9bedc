-- The names of rows by their places: in two lists of rows one after another, and after a change that keeps the names.
use Rattle.std.proofs.Common.{◌≡◌, ◌⊎◌, ℕ, zero, suc, ◌+◌, ◌<◌, List, [], ◌∷◌, ◌++◌, length, Some, None, sym, ap, ◌∙◌, inl, inr, arith}
use Rattle.std.specs.List.{slice_get}
use Rattle.std.specs.Option.{option_map}
use Rattle.std.proofs.lemmas.Option.{slice_get-map}
use Rattle.ac_base.specs.declared.name.Name.{Name}
use Rattle.ac_base.specs.Rows.{Row, names}
use Rattle.ac_pool.specs.NamedRows.{index_of, name_at, HasName}
use Rattle.ac_pool.proofs.Cuts.{cut, cut-row}

pub same_number : (i j : ℕ) → Some i ≡ Some j → i ≡ j
same_number i j e = cc

pub no_name : (a : Name) → None ≡ Some a → ⊥
no_name a e = cc

module _ {X : Type 0} where
  pub at_left : (xs ys : List (Row Name X)) (i : ℕ) (a : Name) → name_at xs i ≡ Some a → name_at (xs ++ ys) i ≡ Some a
  at_left [] ys i a e = absurd (no_name a e)
  at_left (x ∷ xs) ys zero a e = e
  at_left (x ∷ xs) ys (suc i) a e = at_left xs ys i a e

  pub at_right : (xs ys : List (Row Name X)) (k : ℕ) → name_at (xs ++ ys) (length xs + k) ≡ name_at ys k
  at_right [] ys k = let same : 0 + k ≡ k = omega arith in ap (λ i. name_at ys i) same
  at_right (x ∷ xs) ys k = let same : suc (length xs) + k ≡ suc (length xs + k) = omega arith in ap (λ i. name_at ((x ∷ xs) ++ ys) i) same ∙ at_right xs ys k

  -- the name stands in the first list or in the second
  pub at_either : (xs ys : List (Row Name X)) (i : ℕ) (a : Name) → name_at (xs ++ ys) i ≡ Some a → (name_at xs i ≡ Some a) ⊎ ((k : ℕ) × (i ≡ length xs + k) × (name_at ys k ≡ Some a))
  at_either [] ys i a e = inr (i, omega arith, e)
  at_either (x ∷ xs) ys zero a e = inl e
  at_either (x ∷ xs) ys (suc i) a e = elim (at_either xs ys i a e) [ inl h ↦ inl h | inr h ↦ let is = h.1 in inr (h.0, omega arith, h.2) ]

  pub at_within : (xs : List (Row Name X)) (i : ℕ) (a : Name) → name_at xs i ≡ Some a → i < length xs
  at_within [] i a e = absurd (no_name a e)
  at_within (x ∷ xs) zero a e = omega arith
  at_within (x ∷ xs) (suc i) a e = let less = at_within xs i a e in omega arith

  -- a name that has a row stands at its place
  pub at_index : (xs : List (Row Name X)) (a : Name) → HasName a xs → name_at xs (index_of a xs) ≡ Some a
  at_index xs a h = let k = cut a xs h in ap (option_map (λ (r : Row Name X). r.name)) (cut-row a xs k) ∙ ap Some (sym k.named)

  pub at_names : (xs ys : List (Row Name X)) → names xs ≡ names ys → (i : ℕ) → name_at xs i ≡ name_at ys i
  at_names xs ys e i = sym (slice_get-map (λ (r : Row Name X). r.name) xs i) ∙ ap (λ (ns : List Name). slice_get ns i) e ∙ slice_get-map (λ (r : Row Name X). r.name) ys i

-- Rows without their slots: what becomes of lists of them.
use Rattle.ac_base.specs.Rows.{Row, row, values}
use Rattle.ac_base.specs.declared.name.Name.{Name}
use Rattle.ac_model.specs.Objects.{plain_row, plains}
use Rattle.ac_model.specs.Rows.{cut, fresh}
use Rattle.std.proofs.Common.{List, ap, arith, drop, length, refl, reverse, suc, sym, take, zero, ℕ, ◌++◌, ◌+◌, ◌∙◌, ◌∷◌, ◌≡◌, []}
use Rattle.std.proofs.lemmas.List.{drop-map, reverse-append, take-map}
use Rattle.std.specs.Option.{option_map}
use Rattle.std.specs.Prelude.{slice_get}

module _ {X : Type 0} where
  pub length-plains : (xs : List (Row Name X)) → length (plains xs) ≡ length xs
  length-plains [] = refl
  length-plains (x ∷ xs) = ap suc (length-plains xs)

  pub plains-append : (xs ys : List (Row Name X)) → plains (xs ++ ys) ≡ plains xs ++ plains ys
  plains-append [] ys = refl
  plains-append (x ∷ xs) ys = ap (λ zs. row x.name.serial x.value ∷ zs) (plains-append xs ys)

  pub fresh-append : (next : ℕ) (vs : List X) (v : X) → fresh next (vs ++ v ∷ []) ≡ fresh next vs ++ (row (next + length vs) v ∷ [])
  fresh-append next [] v = let e : next ≡ next + 0 = omega arith in ap (λ n. row n v ∷ []) e
  fresh-append next (w ∷ vs) v = let e : (next + 1) + length vs ≡ next + suc (length vs) = omega arith in
      ap (λ zs. row next w ∷ zs) (fresh-append (next + 1) vs v ∙ ap (λ n. fresh (next + 1) vs ++ (row n v ∷ [])) e)

  pub plains-take : (i : ℕ) (rows : List (Row Name X)) → plains (take i rows) ≡ take i (plains rows)
  plains-take i rows = sym (take-map plain_row i rows)

  pub plains-drop : (i : ℕ) (rows : List (Row Name X)) → plains (drop i rows) ≡ drop i (plains rows)
  plains-drop i rows = sym (drop-map plain_row i rows)

  pub plains-cut : (rows : List (Row Name X)) (i n : ℕ) → plains (take i rows ++ drop (i + n) rows) ≡ cut (plains rows) i n
  plains-cut rows i n = plains-append (take i rows) (drop (i + n) rows) ∙ (λ j. plains-take i rows j ++ plains-drop (i + n) rows j)

  pub plains-reverse : (rows : List (Row Name X)) → plains (reverse rows) ≡ reverse (plains rows)
  plains-reverse [] = refl
  plains-reverse (r ∷ rows) =
      ap plains (reverse-append (r ∷ []) rows) ∙ plains-append (reverse rows) (r ∷ []) ∙ ap (λ zs. zs ++ plains (r ∷ [])) (plains-reverse rows) ∙ sym (reverse-append (plains (r ∷ [])) (plains rows))

  pub slice_get-plains : (rows : List (Row Name X)) (i : ℕ) → slice_get (plains rows) i ≡ option_map (λ (r : Row Name X). row r.name.serial r.value) (slice_get rows i)
  slice_get-plains [] i = refl
  slice_get-plains (r ∷ rows) zero = refl
  slice_get-plains (r ∷ rows) (suc i) = slice_get-plains rows i

module _ {T : Type 0} where
  pub values-plains : (rows : List (Row Name T)) → values rows ≡ values (plains rows)
  values-plains [] = refl
  values-plains (r ∷ rows) = ap (λ vs. r.value ∷ vs) (values-plains rows)

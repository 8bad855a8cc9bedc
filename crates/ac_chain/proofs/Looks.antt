-- What the calls that only look find among the rows.
use Rattle.std.proofs.Common.{◌≡◌, ℕ, zero, suc, ◌-◌, Bool, true, false, List, ◌∷◌, length, Some, None, refl, sym, ap, ◌∙◌, arith, ne_eqb, IsTrue, []}
use Rattle.std.specs.Prelude.{◌==◌, slice_get}
use Rattle.std.specs.Option.{option_map}
use Rattle.std.proofs.lemmas.List.{length-map}
use Rattle.ac_base.specs.declared.name.Name.{Name}
use Rattle.ac_pool.specs.NamedRows.{name_at, name_before}
use Rattle.ac_base.specs.Rows.{Row, values}
use Rattle.ac_model.specs.Objects.{plains}

pub bool_is : (b d : Bool) → (IsTrue b → IsTrue d) → (IsTrue d → IsTrue b) → b ≡ d
bool_is true d f g = sym (f refl)
bool_is false true f g = g refl
bool_is false false f g = refl

module _ {X : Type 0} where
  pub last_place : (rows : List (Row Name X)) → name_before rows (length rows) ≡ name_at rows (length (plains rows) - 1)
  last_place [] = refl
  last_place (r ∷ rows) = let e : length rows ≡ length (plains (r ∷ rows)) - 1 = simp (length-map) (omega arith) in ap (name_at (r ∷ rows)) e

  pub values_at : (rows : List (Row Name X)) (i : ℕ) → slice_get (values (plains rows)) i ≡ option_map (λ (r : Row Name X). r.value) (slice_get rows i)
  values_at [] i = refl
  values_at (r ∷ rows) zero = refl
  values_at (r ∷ rows) (suc i) = values_at rows i

  pub some_rows : (rows : List (Row Name X)) (i : ℕ) (a : Name) → Some a ≡ name_at rows i → (length (plains rows) == 0) ≡ false
  some_rows [] i a e = absurd (let q : Some a ≡ None = e in cc)
  some_rows (r ∷ rows) i a e = ne_eqb (length (plains (r ∷ rows))) 0 (λ z. let q : suc (length (plains rows)) ≡ 0 = z in omega arith)

  pub no_rows : (rows : List (Row Name X)) → None ≡ name_at rows 0 → rows ≡ []
  no_rows [] e = refl
  no_rows (r ∷ rows) e = absurd (let q : None ≡ Some r.name = e in cc)

  pub no_rows_before : (rows : List (Row Name X)) → None ≡ name_at rows (length (plains rows) - 1) → rows ≡ []
  no_rows_before [] e = refl
  no_rows_before (r ∷ rows) e = absurd (let at = last_named r rows in let q : None ≡ Some at.0 = e ∙ at.1 in cc)
    where
      last_named : (r : Row Name X) (rows : List (Row Name X)) → (b : Name) × (name_at (r ∷ rows) (length (plains (r ∷ rows)) - 1) ≡ Some b)
      last_named r [] = (r.name, refl)
      last_named r (q ∷ rows) = let one = last_named q rows in
          let e : length (plains (r ∷ q ∷ rows)) - 1 ≡ suc (length (plains (q ∷ rows)) - 1) = omega arith in
          (one.0, ap (name_at (r ∷ q ∷ rows)) e ∙ one.1)

-- A tree's nodes as plain rows, one after another.
use Rattle.std.proofs.Common.{◌≡◌, List, [], ◌∷◌, ◌++◌, map, refl, sym, ap, ◌∙◌, append_assoc}
use Rattle.std.proofs.lemmas.List.{append-nil}
use Rattle.ac_base.specs.declared.name.Name.{Name}
use Rattle.ac_base.specs.Rows.{Row}
use Rattle.ac_model.specs.Objects.{plain_row}

module _ {X B : Type 0} (f : X → B) where
  -- what becomes of the rows that are left
  abbrev pub still_copied : List (Row Name X) → List B
  still_copied [] = []
  still_copied (r ∷ rows) = f r.value ∷ still_copied rows

  -- each row once is each value once
  pub copied_rows : (rows : List (Row Name X)) → still_copied rows ≡ map f (map (λ (r : Row _ X). r.value) (map plain_row rows))
  copied_rows [] = refl
  copied_rows (r ∷ rows) = ap (λ ys. f r.value ∷ ys) (copied_rows rows)

  pub one_copied : (left rows : List (Row Name X)) (r : Row Name X) (now next all : List B) (b : B) → now ++ still_copied left ≡ all → left ≡ r ∷ rows →
      b ≡ f r.value → next ≡ now ++ b ∷ [] → next ++ still_copied rows ≡ all
  one_copied left rows r now next all b is cut copy e =
      ap (λ ys. ys ++ still_copied rows) e
      ∙ (append_assoc now (b ∷ []) (still_copied rows)
      ∙ (ap (λ x. now ++ x ∷ still_copied rows) copy ∙ (ap (λ rows. now ++ still_copied rows) (sym cut) ∙ is)))

  pub all_copied : (left : List (Row Name X)) (now all : List B) → now ++ still_copied left ≡ all → left ≡ [] → now ≡ all
  all_copied left now all is none = sym (append-nil now) ∙ (ap (λ rows. now ++ still_copied rows) (sym none) ∙ is)

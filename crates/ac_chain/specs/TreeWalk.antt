-- A walk over all nodes that knows at which depth it is, as a listing makes it.
use Rattle.std.specs.Prelude.{◌≡◌, ℕ, List, [], ◌∷◌, ◌++◌}
use Rattle.ac_base.specs.declared.cursor.Cursor.{Cursor}
use Rattle.ac_base.specs.declared.cursor.Cursor.TheVariants.{NoElement, At}
use Rattle.ac_base.specs.declared.name.Name.{Name}
use Rattle.ac_base.specs.Rows.{Row}
use Rattle.ac_model.specs.Objects.{Object}
use Rattle.ac_model.specs.Rows.{Node}

module _ {X : Type 0} where
  -- the cursor is at the first of these rows, with its depth, or at none
  abbrev pub StandsBefore : ℕ → List (Row Name (Node X)) → Cursor → ℕ → Type 0
  StandsBefore number [] c depth = c ≡ NoElement
  StandsBefore number (r ∷ rows) c depth = (c ≡ At number r.name) × (depth ≡ r.value.depth)

  -- it is at a row of the tree
  pub record IsMet (o : Object Name (Node X)) (c : Cursor) (depth : ℕ) : Type 0 where
    pub before : List (Row Name (Node X))
    pub at : Row Name (Node X)
    pub left : List (Row Name (Node X))
    pub is : o.rows ≡ before ++ at ∷ left
    pub stands : c ≡ At o.number at.name
    pub depth_is : depth ≡ at.value.depth

  -- and the walk goes on at what is left behind that row
  abbrev pub MeetsNext : Object Name (Node X) → (c next : Cursor) → (depth : ℕ) → Type 0
  MeetsNext o c next depth = (before : List (Row Name (Node X))) (at : Row Name (Node X)) (left : List (Row Name (Node X))) →
      o.rows ≡ before ++ at ∷ left → c ≡ At o.number at.name → StandsBefore o.number left next depth

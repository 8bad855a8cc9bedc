-- Rows on a stack, and what is left of two stacks of which the row was taken that comes first in a merge.
use Rattle.std.specs.Prelude.{◌≡◌, ℕ, ◌+◌, ◌⊎◌, Bool, true, false, List, [], ◌∷◌, ◌++◌, length, map, reverse, Option, Some, None}
use Rattle.ac_base.specs.declared.name.Name.{Name}
use Rattle.ac_base.specs.Rows.{Row, row, names, values}
use Rattle.ac_pool.specs.NamedRows.{HasName, IsOnce}
use Rattle.ac_model.specs.Objects.{plains}
use Rattle.ac_model.specs.Rows.{merged}
use Rattle.ac_vector.specs.ArrayFields.{slots_of}
use Rattle.ac_vector.specs.declared.weaving.Line.{Line}

module _ {X : Type 0} where
  abbrev pub line_row : Line X → Row Name X
  line_row l = row l.name l.value

  -- the rows on a stack, the uppermost first
  abbrev pub stacked : List (Line X) → List (Row Name X)
  stacked lines = map line_row (reverse lines)

  -- the second stack's uppermost row comes before the first one's
  abbrev pub is_second : (X → X → Bool) → List (Row Name X) → List (Row Name X) → Bool
  is_second less [] others = true
  is_second less (r ∷ rows) [] = false
  is_second less (r ∷ rows) (s ∷ others) = less s.value r.value

  -- what two stacks are without the row that comes first, or both are empty
  abbrev pub IsNext : (X → X → Bool) → (rows others : List (Row Name X)) → Option (Line X) → (rows_left others_left : List (Row Name X)) → Type 0
  IsNext less rows others None rows_left others_left = (rows ≡ []) × (others ≡ [])
  IsNext less rows others (Some l) rows_left others_left =
      ((is_second less rows others ≡ true) × (others ≡ line_row l ∷ others_left) × (rows_left ≡ rows))
      ⊎ ((is_second less rows others ≡ false) × (rows ≡ line_row l ∷ rows_left) × (others_left ≡ others))

  -- the same rows as those of two lists, in the order of both
  pub record IsWoven (less : X → X → Bool) (rows others now : List (Row Name X)) : Type 0 where
    pub merges : plains now ≡ merged less (plains rows) (plains others)
    pub there : (a : Name) → HasName a (rows ++ others) → HasName a now
    pub from : (a : Name) → HasName a now → HasName a (rows ++ others)
    pub alone : IsOnce (rows ++ others) → IsOnce now
    pub long : length now ≡ length rows + length others

  -- the same of the two lists that keep the names' slots and the values
  pub record Weaves (less : X → X → Bool) (rows others : List (Row Name X)) (ks : List ℕ) (vs : List X) : Type 0 where
    pub now : List (Row Name X)
    pub woven : IsWoven less rows others now
    pub named : ks ≡ slots_of (names now)
    pub valued : vs ≡ values now

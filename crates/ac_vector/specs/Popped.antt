-- What an array is without its last row, whose value was handed out.
use Rattle.std.specs.Prelude.{◌≡◌, ◌+◌, List, [], ◌∷◌, ◌++◌, Option, Some, None}
use Rattle.ac_base.specs.declared.name.Name.{Name}
use Rattle.ac_base.specs.Rows.{Row, row}
use Rattle.ac_chain.specs.Rows.{Chained, chained}

module _ {X : Type 0} where
  pub record Popped (c : Chained X) (v : X) (now : Chained X) : Type 0 where
    pub rest : List (Row Name X)
    pub name : Name
    pub rows : c.rows ≡ rest ++ row name v ∷ []
    pub left : now ≡ chained rest c.next_serial (c.spare + 1)

  -- the last row, if there was one
  abbrev pub IsPopped : Chained X → Option X → Chained X → Type 0
  IsPopped c None now = (c.rows ≡ []) × (now ≡ c)
  IsPopped c (Some v) now = Popped c v now

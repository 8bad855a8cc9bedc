-- What a cell is: nothing, or a serial with a value.
use Rattle.std.specs.Prelude.{◌≡◌, ℕ, get_or, List, Option, Some, None}

module _ {X : Type 0} where
  -- the serial in the cell, or 0 where nothing is kept there
  abbrev pub serial_in : Option (ℕ × X) → ℕ
  serial_in None = 0
  serial_in (Some e) = e.0

  abbrev pub serial_of : Option (ℕ × X) → Option ℕ
  serial_of None = None
  serial_of (Some e) = Some e.0

  -- the cell keeps a value
  abbrev pub IsFull : Option (ℕ × X) → Type 0
  IsFull cell = (e : ℕ × X) × (cell ≡ Some e)

  abbrev pub serial_at : List (Option (ℕ × X)) → ℕ → ℕ
  serial_at cells i = serial_in (get_or cells i None)

  abbrev pub IsKept : List (Option (ℕ × X)) → ℕ → Type 0
  IsKept cells i = IsFull (get_or cells i None)

-- The cells of a block as proofs know them: nothing where a cell was never written, and else the serial that stands there and the value behind it, if there is one.
use Rattle.std.specs.Prelude.{◌≡◌, ℕ, List, get_or, Option, Some, None}

module _ {X : Type 0} where
  abbrev pub with_serial : ℕ → Option X → Option (ℕ × X)
  with_serial s None = None
  with_serial s (Some x) = Some (s, x)

  -- what a cell keeps: a value under its serial
  abbrev pub kept : Option (ℕ × Option X) → Option (ℕ × X)
  kept None = None
  kept (Some c) = with_serial c.0 c.1

  abbrev pub value_of_place : Option (ℕ × Option X) → Option X
  value_of_place None = None
  value_of_place (Some c) = c.1

  abbrev pub serial_of_place : Option (ℕ × Option X) → ℕ
  serial_of_place None = 0
  serial_of_place (Some c) = c.0

  -- the serial that stands in the cell
  abbrev pub serial_at_place : List (Option (ℕ × Option X)) → ℕ → ℕ
  serial_at_place cells i = serial_of_place (get_or cells i None)

  -- the cell was written: it has a serial
  abbrev pub IsWritten : List (Option (ℕ × Option X)) → ℕ → Type 0
  IsWritten cells i = (c : ℕ × Option X) × (get_or cells i None ≡ Some c)

  -- a serial stands in the cell, and a value
  abbrev pub HoldsValue : List (Option (ℕ × Option X)) → ℕ → Type 0
  HoldsValue cells i = (e : ℕ × X) × (get_or cells i None ≡ Some (e.0, Some e.1))

  -- the value in the cell is v
  abbrev pub Holds : List (Option (ℕ × Option X)) → ℕ → X → Type 0
  Holds cells i v = value_of_place (get_or cells i None) ≡ Some v

  -- no value is in the cell
  abbrev pub IsBare : List (Option (ℕ × Option X)) → ℕ → Type 0
  IsBare cells i = value_of_place (get_or cells i None) ≡ None

  abbrev pub AreBare : List (Option (ℕ × Option X)) → Type 0
  AreBare cells = (i : ℕ) → IsBare cells i

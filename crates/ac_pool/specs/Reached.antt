-- The cells of a block that were written in ascending order.
use Rattle.std.specs.Prelude.{◌≡◌, ◌⊎◌, ℕ, ◌<◌, ◌≤◌, List, length, get_or, Option, Some, None}
use Rattle.ac_pool.specs.Places.{IsWritten, IsBare}

module _ {X : Type 0} where
  -- the serial of a cell tells whether a value is behind it: it is 0 where there is none
  abbrev pub IsMarked : ℕ → Option X → Type 0
  IsMarked s None = s ≡ 0
  IsMarked s (Some x) = 0 < s

  -- the cells below `reached` were written, and no other
  pub record IsReached (cells : List (Option (ℕ × Option X))) (reached : ℕ) : Type 0 where
    pub long : length cells ≡ 512
    pub within : reached ≤ 512
    pub written : (i : ℕ) → i < reached → IsWritten cells i
    pub fresh : (i : ℕ) → reached ≤ i → get_or cells i None ≡ None
    pub marked : (i : ℕ) (c : ℕ × Option X) → get_or cells i None ≡ Some c → IsMarked c.0 c.1

  -- the cells from `from` on to the one before `to` are free, with the serial 0
  pub record Reaches (before now : List (Option (ℕ × Option X))) (from to : ℕ) : Type 0 where
    pub long : length now ≡ length before
    pub inside : (i : ℕ) → from ≤ i → i < to → get_or now i None ≡ Some (0, None)
    pub outside : (i : ℕ) → (i < from) ⊎ (to ≤ i) → get_or now i None ≡ get_or before i None

  -- no value is in the cell, and the others are as before
  pub record Empties (before now : List (Option (ℕ × Option X))) (i : ℕ) : Type 0 where
    pub long : length now ≡ length before
    pub gone : IsBare now i
    pub others : (j : ℕ) → (j ≡ i → ⊥) → get_or now j None ≡ get_or before j None

  -- no value is in the cells before `to`, and the others are as before
  pub record IsEmptiedTo (before now : List (Option (ℕ × Option X))) (to : ℕ) : Type 0 where
    pub long : length now ≡ length before
    pub gone : (i : ℕ) → i < to → IsBare now i
    pub others : (i : ℕ) → to ≤ i → get_or now i None ≡ get_or before i None

-- What a run of slots that lie together has of what all slots keep.
use Rattle.std.specs.Prelude.{◌≡◌, ℕ, ◌+◌, ◌%◌, ◌<◌, ◌≤◌, List, [], length, get_or, drop, map, Option, Some, None}
use Rattle.std.specs.Option.{option_map}

module _ {X : Type 0} where
  -- the value in a cell
  abbrev pub kept_in : Option (ℕ × X) → Option X
  kept_in cell = option_map (λ (e : ℕ × X). e.1) cell

  abbrev pub values_in : List (Option (ℕ × X)) → List (Option X)
  values_in cells = map kept_in cells

  -- the values in a chunk's cells from the index on
  abbrev pub run_of : Option (List (Option (ℕ × X))) → ℕ → List (Option X)
  run_of None index = []
  run_of (Some cells) index = values_in (drop index cells)

  -- a chunk has no more cells than its own
  abbrev pub EndsBy : Option (List (Option (ℕ × X))) → Type 0
  EndsBy None = Unit {0}
  EndsBy (Some cells) = length cells ≤ 512

  -- the run has what is at the slot, and what is at each of the slots behind it, to the end of its chunk: where the run ends before, they keep nothing
  pub record LiesFrom (at : ℕ → Option X) (slot : ℕ) (run : List (Option X)) : Type 0 where
    pub first : at slot ≡ get_or run 0 None
    pub each : (k : ℕ) → k < length run → at (slot + k) ≡ get_or run k None
    pub whole : (k : ℕ) → slot % 512 + k < 512 → at (slot + k) ≡ get_or run k None
    pub within : slot % 512 + length run ≤ 512

  -- the run has the chunk's cells from the index on, but for empty ones at the end
  pub record IsRunOf (cells : List (Option X)) (index : ℕ) (run : List (Option X)) : Type 0 where
    pub each : (k : ℕ) → index + k < 512 → get_or cells (index + k) None ≡ get_or run k None
    pub within : index + length run ≤ 512

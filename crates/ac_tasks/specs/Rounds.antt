-- A round of a worker.
use Rattle.std.specs.Prelude.{◌≡◌, ◌<◌, ℕ, Bool, true, false, length}
use Rattle.ac_history.specs.Blocks.{Block, IsComplete, present, with_entries}
use Rattle.ac_history.specs.Histories.{entries_of, is_able, outcome}

-- the turn of a task that is able
pub record IsTurnOf (old new : Block) (task : ℕ) : Type 0 where
  pub there : task < length old.code
  pub able : is_able (present old) task ≡ true
  pub new_is : new ≡ with_entries old (entries_of (outcome (present old) task))

-- a task was turned, or none is able and nothing changed
abbrev pub IsRound : Block → Block → Bool → Type 0
IsRound old new true = (task : ℕ) × IsTurnOf old new task
IsRound old new false = IsComplete new × (new ≡ old)

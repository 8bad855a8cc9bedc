use Rattle.std.proofs.Common.{◌≡◌, ◌<◌, ℕ, Some, length}
use Rattle.std.specs.List.{slice_get}
use Rattle.ac_tasks.proofs.block.numbers.Given as goal

abbrev pub invariant-loop-task : goal.invariant-loop-task
invariant-loop-task l = (length l.workers.items ≡ l.task) × ((k : ℕ) → k < l.task → slice_get l.workers.items k ≡ Some k)

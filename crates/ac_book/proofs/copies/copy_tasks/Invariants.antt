use Rattle.std.proofs.Common.{◌≡◌, take, length, vec_len}
use Rattle.std.specs.Vec.{vec_capacity}
use Rattle.ac_book.proofs.copies.copy_tasks.Given as goal

abbrev pub invariant-loop-task : goal.invariant-loop-task
invariant-loop-task l = (l.made.items ≡ take l.task-index l.tasks) × (vec_len l.made ≡ l.task-index) × (vec_capacity l.made ≡ length l.tasks)

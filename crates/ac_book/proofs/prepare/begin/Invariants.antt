use Rattle.std.proofs.Common.{◌≡◌, ◌<◌, ◌^◌, ◌++◌, map, length}
use Rattle.std.specs.List.{All}
use Rattle.ac_history.specs.declared.code.TaskCode.{TaskCode}
use Rattle.ac_history.specs.States.{begun}
use Rattle.ac_book.proofs.prepare.begin.Given as goal

abbrev pub invariant-loop-task : goal.invariant-loop-task
invariant-loop-task l = (map begun l.fn.code.items ≡ l.made.items ++ map begun l.task-iterator.rest.items) × All (λ (t : TaskCode). length t.steps < 2 ^ 32) l.task-iterator.rest.items

use Rattle.std.proofs.Common.{◌≡◌, take}
use Rattle.std.specs.List.{sum_by}
use Rattle.ac_history.specs.declared.code.TaskCode.{TaskCode}
use Rattle.ac_book.specs.Running.{added_by}
use Rattle.ac_book.proofs.prepare.items_added.Given as goal

abbrev pub invariant-loop-task : goal.invariant-loop-task
invariant-loop-task l = l.total ≡ sum_by (λ (t : TaskCode). sum_by added_by t.steps) (take l.task-index l.code)

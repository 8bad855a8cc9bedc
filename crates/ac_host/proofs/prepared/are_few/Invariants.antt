use Rattle.std.proofs.Common.{◌<◌, ◌^◌, length, take}
use Rattle.std.specs.List.{All}
use Rattle.ac_history.specs.declared.code.TaskCode.{TaskCode}
use Rattle.ac_host.proofs.prepared.are_few.Given as goal

abbrev pub invariant-loop-task : goal.invariant-loop-task
invariant-loop-task l = All (λ (t : TaskCode). length t.steps < 2 ^ 32) (take l.task-index l.code)

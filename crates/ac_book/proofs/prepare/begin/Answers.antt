use Rattle.std.proofs.Common.{rules, ◌<◌, ◌^◌, map, length}
use Rattle.ac_history.specs.declared.code.TaskCode.{TaskCode}
use Rattle.ac_history.specs.States.{begun}
use Rattle.ac_book.proofs.Beginning.{one_more, fewer}
use Rattle.ac_book.proofs.prepare.begin.Goals as goal

pub loop-task-preserved : goal.loop-task-preserved
loop-task-preserved c =
    let left = c.in-Some.ensures.steps.0 in
    (one_more (map begun c.args.code.items) _ _ _ _ c.in-Some.task c.loop-task.invariant.0 left (search rules), fewer (λ (t : TaskCode). length t.steps < 2 ^ 32) _ _ c.in-Some.task left c.loop-task.invariant.1)

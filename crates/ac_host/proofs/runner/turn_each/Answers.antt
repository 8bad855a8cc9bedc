use Rattle.std.proofs.Common.{◌<◌, subst}
use Rattle.ac_host.proofs.Rounds.{turned_next, within_round}
use Rattle.ac_host.proofs.runner.turn_each.Goals as goal

pub turn-requires : goal.turn-requires
turn-requires c =
    within_round c.args.book.now c.loop-task.book c.loop-task.task c.loop-task.invariant
    (subst (λ n. c.loop-task.task < n) c.tasks-task-end.ensures c.loop-task-test.true)

pub loop-task-preserved : goal.loop-task-preserved
loop-task-preserved c =
    turned_next c.args.book.now c.loop-task.book c.turn.new.self c.loop-task.task c.loop-task.invariant c.turn.ensures.history

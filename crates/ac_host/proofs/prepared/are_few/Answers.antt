use Rattle.std.proofs.Common.{◌<◌, ◌^◌, arith, ap, length, subst}
use Rattle.std.proofs.lemmas.List.{take_all}
use Rattle.std.specs.List.{All}
use Rattle.std.proofs.lemmas.List.Elements.{All-more}
use Rattle.ac_history.specs.declared.code.TaskCode.{TaskCode}
use Rattle.ac_host.proofs.prepared.are_few.Goals as goal

abbrev has_few : TaskCode → Type 0
has_few t = length t.steps < 2 ^ 32

pub loop-task-preserved : goal.loop-task-preserved
loop-task-preserved c =
    let t = c.task-item.result in
    let few : length t.steps < 2 ^ 32 = omega (arith, c.if-items.false, ap length c.items.ensures) in
    All-more has_few c.args.code.now c.loop-task.task-index t c.loop-task-test.true c.loop-task.invariant (subst has_few c.task-item.is few)

pub returns-clause-steps : goal.returns-clause-steps
returns-clause-steps c is =
    subst (All has_few) (take_all c.loop-task.task-index c.args.code.now c.loop-task-test.false) c.loop-task.invariant

use Rattle.std.proofs.Common.{◌≡◌, take}
use Rattle.ac_history.specs.Blocks.{commands_in}
use Rattle.ac_book.proofs.prepare.steps_in.Given as goal

abbrev pub invariant-loop-task : goal.invariant-loop-task
invariant-loop-task l = l.total ≡ commands_in (take l.task-index l.code)

use Rattle.std.proofs.Common.{◌≡◌}
use Rattle.ac_history.specs.Blocks.{after_turns}
use Rattle.ac_history.specs.Orders.{each_below}
use Rattle.ac_host.proofs.runner.turn_each.Given as goal

abbrev pub invariant-loop-task : goal.invariant-loop-task
invariant-loop-task l = l.book ≡ after_turns l.initial.book (each_below l.task)

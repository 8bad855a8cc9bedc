use Rattle.std.proofs.Common.{map, length}
use Rattle.ac_script.specs.Arguments.{argument_view}
use Rattle.ac_script.proofs.Turns.{Continues}
use Rattle.ac_script.proofs.argument.listed.Given as goal

abbrev pub invariant-loop-after : goal.invariant-loop-after
invariant-loop-after l = Continues (map argument_view l.items.items) l.rest (argument_view l.fn.first) l.fn.tokens

abbrev pub decreases-loop-after : goal.decreases-loop-after
decreases-loop-after l = length l.rest

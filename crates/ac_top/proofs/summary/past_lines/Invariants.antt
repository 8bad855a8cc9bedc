use Rattle.std.proofs.Common.{◌≡◌, length}
use Rattle.ac_top.specs.Summary.{past_lines}
use Rattle.ac_top.proofs.summary.past_lines.Given as goal

abbrev pub invariant-loop-left : goal.invariant-loop-left
invariant-loop-left l = past_lines l.rest l.left ≡ past_lines l.text l.lines

abbrev pub decreases-loop-left : goal.decreases-loop-left
decreases-loop-left l = length l.rest

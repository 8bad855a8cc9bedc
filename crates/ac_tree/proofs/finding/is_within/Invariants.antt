use Rattle.ac_model.specs.Objects.{plains}
use Rattle.ac_model.specs.Outline.{is_in_subtree}
use Rattle.ac_tree.specs.TreeCursors.{serial_in}
use Rattle.ac_tree.specs.TreeRows.{rows_of}
use Rattle.ac_tree.proofs.Counting.{node_depth}
use Rattle.ac_tree.proofs.Within.{Climbing}
use Rattle.ac_tree.proofs.finding.is_within.Given as goal

abbrev pub invariant-loop-above : goal.invariant-loop-above
invariant-loop-above g l = Climbing l.fn.links l.fn.top (is_in_subtree (plains (rows_of l.fn.links).rows) l.fn.top.serial (serial_in l.fn.node)) l.above

abbrev pub decreases-loop-above : goal.decreases-loop-above
decreases-loop-above g l = node_depth l.fn.links l.above

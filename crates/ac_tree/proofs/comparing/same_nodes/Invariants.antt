use Rattle.std.proofs.Common.{◌-◌, length}
use Rattle.ac_chain.specs.Rows.{place_of}
use Rattle.ac_tree.specs.TreeRows.{rows_of}
use Rattle.ac_tree.proofs.Equals.{Compared}
use Rattle.ac_tree.proofs.comparing.same_nodes.Given as goal

abbrev pub invariant-loop-place : goal.invariant-loop-place
invariant-loop-place g l = Compared g.T.Elem.is_same l.fn.left l.fn.right l.place l.other l.depth l.level

abbrev pub decreases-loop-place : goal.decreases-loop-place
decreases-loop-place g l = length (rows_of l.fn.left).rows - place_of l.place (rows_of l.fn.left).rows

use Rattle.ac_tree.specs.Searching.{found_in, rows_up}
use Rattle.ac_tree.specs.TreeCursors.{serial_in}
use Rattle.ac_tree.specs.TreeRows.{rows_of}
use Rattle.ac_tree.proofs.Ancestors.{Rising}
use Rattle.ac_tree.proofs.Counting.{node_depth}
use Rattle.ac_tree.proofs.finding.found_up.Given as goal

abbrev pub invariant-loop-place : goal.invariant-loop-place
invariant-loop-place g l = Rising l.fn.links g.T.Elem.is_same l.fn.e (found_in g.T.Elem.is_same l.fn.e (rows_up (rows_of l.fn.links).rows (serial_in l.fn.node))) l.place

abbrev pub decreases-loop-place : goal.decreases-loop-place
decreases-loop-place g l = node_depth l.fn.links l.place

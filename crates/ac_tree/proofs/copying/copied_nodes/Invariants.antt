use Rattle.std.proofs.Common.{◌-◌, length}
use Rattle.ac_chain.specs.Rows.{place_of}
use Rattle.ac_tree.specs.TreeRows.{rows_of}
use Rattle.ac_tree.proofs.Levels.{Leveling}
use Rattle.ac_tree.proofs.copying.copied_nodes.Given as goal

abbrev pub invariant-loop-place : goal.invariant-loop-place
invariant-loop-place g l = Leveling l.fn.links l.place l.depth l.made.items

abbrev pub decreases-loop-place : goal.decreases-loop-place
decreases-loop-place g l = length (rows_of l.fn.links).rows - place_of l.place (rows_of l.fn.links).rows

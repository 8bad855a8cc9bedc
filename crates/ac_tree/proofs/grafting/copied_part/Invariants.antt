use Rattle.std.proofs.Common.{◌-◌, length}
use Rattle.ac_chain.specs.Rows.{place_of}
use Rattle.ac_tree.specs.Copying.{Part}
use Rattle.ac_tree.specs.TreeFields.{IsForest}
use Rattle.ac_tree.specs.TreeRows.{rows_of}
use Rattle.ac_tree.proofs.Subtrees.{Copying}
use Rattle.ac_tree.proofs.grafting.copied_part.Given as goal

abbrev pub invariant-loop-place : goal.invariant-loop-place
invariant-loop-place g l = (s : IsForest l.fn.links) (k : Part l.fn.links l.fn.from l.fn.level l.fn.count) → Copying l.fn.links s l.fn.from l.fn.level l.fn.count l.fn.first k l.place l.here l.made.items l.left

abbrev pub decreases-loop-place : goal.decreases-loop-place
decreases-loop-place g l = length (rows_of l.fn.links).rows - place_of l.place (rows_of l.fn.links).rows

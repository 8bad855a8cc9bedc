use Rattle.ac_tree.proofs.Counting.{node_depth}
use Rattle.ac_tree.proofs.Following.{Climbs}
use Rattle.ac_tree.proofs.preorder.past.Given as goal

abbrev pub invariant-loop-place : goal.invariant-loop-place
invariant-loop-place g l = Climbs l.fn.links l.fn.top l.fn.name l.place

abbrev pub decreases-loop-place : goal.decreases-loop-place
decreases-loop-place g l = node_depth l.fn.links l.place

use Rattle.ac_tree.proofs.Counting.{node_depth}
use Rattle.ac_tree.proofs.Levels.{Climbs_at}
use Rattle.ac_tree.proofs.copying.past_level.Given as goal

abbrev pub invariant-loop-place : goal.invariant-loop-place
invariant-loop-place g l = Climbs_at l.fn.links l.fn.name l.place l.depth

abbrev pub decreases-loop-place : goal.decreases-loop-place
decreases-loop-place g l = node_depth l.fn.links l.place

use Rattle.std.proofs.Common.{◌-◌}
use Rattle.ac_tree.proofs.Counting.{Depth_counted, node_depth}
use Rattle.ac_tree.proofs.counts.depth.Given as goal

abbrev pub invariant-loop-place : goal.invariant-loop-place
invariant-loop-place g l = Depth_counted l.fn.links l.fn.node l.place l.depth

abbrev pub decreases-loop-place : goal.decreases-loop-place
decreases-loop-place g l = node_depth l.fn.links l.fn.node - l.depth

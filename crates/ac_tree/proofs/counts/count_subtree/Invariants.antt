use Rattle.std.proofs.Common.{◌-◌}
use Rattle.ac_tree.proofs.Following.{Subtree_counted, nodes_in}
use Rattle.ac_tree.proofs.counts.count_subtree.Given as goal

abbrev pub invariant-loop-place : goal.invariant-loop-place
invariant-loop-place g l = Subtree_counted l.fn.links l.fn.node l.place l.count

abbrev pub decreases-loop-place : goal.decreases-loop-place
decreases-loop-place g l = nodes_in l.fn.links l.fn.node - l.count

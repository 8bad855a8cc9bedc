use Rattle.std.proofs.Common.{◌-◌}
use Rattle.ac_pool.specs.Contents.{live_count}
use Rattle.ac_tree.proofs.Counting.{Children_counted}
use Rattle.ac_tree.proofs.counts.count_children.Given as goal

abbrev pub invariant-loop-place : goal.invariant-loop-place
invariant-loop-place g l = Children_counted l.fn.links l.fn.parent l.place l.count

abbrev pub decreases-loop-place : goal.decreases-loop-place
decreases-loop-place g l = live_count l.fn.links.nodes - l.count

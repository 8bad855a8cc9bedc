use Rattle.std.proofs.Common.{◌+◌, ◌-◌, Some}
use Rattle.ac_pool.specs.Contents.{live_count}
use Rattle.ac_tree.proofs.WalkBack.{Descends}
use Rattle.ac_tree.proofs.Counting.{node_depth}
use Rattle.ac_tree.proofs.backward.end_of.Given as goal

abbrev pub invariant-loop-child : goal.invariant-loop-child
invariant-loop-child g l = Descends l.fn.links l.fn.name l.place

abbrev pub decreases-loop-child : goal.decreases-loop-child
decreases-loop-child g l = live_count l.fn.links.nodes + 1 - node_depth l.fn.links (Some l.place)

use Rattle.ac_pool.specs.Contents.{live_count}
use Rattle.ac_tree.proofs.Emptying.{Emptying}
use Rattle.ac_tree.proofs.clearing.remove_below.Given as goal

abbrev pub invariant-loop-place : goal.invariant-loop-place
invariant-loop-place g l = Emptying l.fn.links l.fn.top l.links l.place

abbrev pub decreases-loop-place : goal.decreases-loop-place
decreases-loop-place g l = live_count l.links.nodes

use Rattle.ac_tree.proofs.Emptying.{Descending, still_below}
use Rattle.ac_tree.proofs.clearing.first_leaf.Given as goal

abbrev pub invariant-loop-place : goal.invariant-loop-place
invariant-loop-place g l = Descending l.fn.links l.fn.from l.leaf l.place

abbrev pub decreases-loop-place : goal.decreases-loop-place
decreases-loop-place g l = still_below l.fn.links l.place

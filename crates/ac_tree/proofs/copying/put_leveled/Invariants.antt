use Rattle.std.proofs.Common.{length}
use Rattle.ac_tree.proofs.Refilling.{Filling}
use Rattle.ac_tree.proofs.copying.put_leveled.Given as goal

abbrev pub invariant-loop-item : goal.invariant-loop-item
invariant-loop-item g l = Filling l.fn.links l.fn.items.items l.links l.node l.depth l.items.items

abbrev pub decreases-loop-item : goal.decreases-loop-item
decreases-loop-item g l = length l.items.items

use Rattle.ac_setwork.proofs.Walking.{Copying, still}
use Rattle.ac_setwork.proofs.refilling.copies.Given as goal

abbrev pub invariant-loop-place : goal.invariant-loop-place
invariant-loop-place g l = Copying (g.I.Index.seen l.fn.index) l.made.items l.place

abbrev pub decreases-loop-place : goal.decreases-loop-place
decreases-loop-place g l = still (g.I.Index.seen l.fn.index) l.place

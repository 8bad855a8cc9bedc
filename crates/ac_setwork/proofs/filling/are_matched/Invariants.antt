use Rattle.ac_setwork.specs.Indexed.{plain_rows}
use Rattle.ac_setwork.proofs.Walking.{Matching, still}
use Rattle.ac_setwork.proofs.filling.are_matched.Given as goal

abbrev pub invariant-loop-place : goal.invariant-loop-place
invariant-loop-place g l = Matching (g.I.Index.seen l.fn.left) g.I.Index.order g.I.Index.is_equal (plain_rows (g.I.Index.seen l.fn.right)) l.place

abbrev pub decreases-loop-place : goal.decreases-loop-place
decreases-loop-place g l = still (g.I.Index.seen l.fn.left) l.place

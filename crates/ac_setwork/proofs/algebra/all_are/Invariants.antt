use Rattle.ac_model.specs.Objects.{plain}
use Rattle.ac_setwork.specs.SetSeen.{indexed, is_wanted}
use Rattle.ac_setwork.proofs.Checks.{Checking}
use Rattle.ac_setwork.proofs.Walking.{still}
use Rattle.ac_setwork.proofs.algebra.all_are.Given as goal

abbrev pub invariant-loop-place : goal.invariant-loop-place
invariant-loop-place g l =
    Checking (indexed (g.A.SetLike.seen l.fn.set)) (is_wanted g.A.SetLike.order (plain (g.A.SetLike.seen l.fn.other).object) l.fn.present) l.place

abbrev pub decreases-loop-place : goal.decreases-loop-place
decreases-loop-place g l = still (indexed (g.A.SetLike.seen l.fn.set)) l.place

use Rattle.ac_model.specs.Objects.{plain}
use Rattle.ac_setwork.specs.SetSeen.{indexed, is_wanted}
use Rattle.ac_setwork.proofs.Sifts.{Sifting}
use Rattle.ac_setwork.proofs.Walking.{still}
use Rattle.ac_setwork.proofs.algebra.sift.Given as goal

abbrev pub invariant-loop-place : goal.invariant-loop-place
invariant-loop-place g l =
    Sifting (is_wanted g.A.SetLike.order (plain (g.A.SetLike.seen l.fn.other).object) l.fn.present) (g.A.SetLike.seen l.fn.target) (g.A.SetLike.seen l.target) l.place

abbrev pub decreases-loop-place : goal.decreases-loop-place
decreases-loop-place g l = still (indexed (g.A.SetLike.seen l.target)) l.place

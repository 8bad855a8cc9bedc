use Rattle.std.proofs.Common.{false}
use Rattle.ac_model.specs.Objects.{plain}
use Rattle.ac_setwork.specs.SetSeen.{indexed, is_wanted}
use Rattle.ac_setwork.proofs.Checks.{Collecting}
use Rattle.ac_setwork.proofs.Walking.{still}
use Rattle.ac_setwork.proofs.algebra.additions.Given as goal

abbrev pub invariant-loop-place : goal.invariant-loop-place
invariant-loop-place g l =
    Collecting (indexed (g.A.SetLike.seen l.fn.source)) (is_wanted g.A.SetLike.order (plain (g.A.SetLike.seen l.fn.target).object) false) (λ made. made.items) l.found.0 l.found.1 l.place

abbrev pub decreases-loop-place : goal.decreases-loop-place
decreases-loop-place g l = still (indexed (g.A.SetLike.seen l.fn.source)) l.place

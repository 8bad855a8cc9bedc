use Rattle.std.proofs.Common.{subst}
use Rattle.ac_model.specs.Containers.{Container}
use Rattle.ac_model.specs.Keyed.{IsValidKeyed, ascending}
use Rattle.ac_model.specs.Objects.{plain}
use Rattle.ac_ordered.proofs.set.as_set.OrderedSetSetLike.law.Goals as goal

pub returns : goal.returns
returns g c = subst (λ (x : Container g.row.T.Denot). IsValidKeyed (ascending g.T.Rank.is_less) (plain x.object)) c.self.view_is c.law.ensures.valid

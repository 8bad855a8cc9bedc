use Rattle.std.proofs.Common.{subst}
use Rattle.ac_model.specs.Containers.{Container}
use Rattle.ac_model.specs.Keyed.{IsValidKeyed, by_arrival}
use Rattle.ac_model.specs.Objects.{plain}
use Rattle.ac_hashed.proofs.set.as_set.HashedSetSetLike.law.Goals as goal

pub returns : goal.returns
returns g c = subst (λ (x : Container g.row.T.Denot). IsValidKeyed (by_arrival g.T.Hashed.is_alike) (plain x.object)) c.self.view_is c.law.ensures.valid

use Rattle.std.proofs.Common.{◌≡◌, subst}
use Rattle.ac_model.specs.Containers.{Container}
use Rattle.ac_model.specs.Keyed.{by_arrival}
use Rattle.ac_model.specs.Objects.{plain}
use Rattle.ac_model.specs.Sets.{overlap_call}
use Rattle.ac_hashed.proofs.set.HashedSet.overlap_self.Goals as goal

pub returns : goal.returns
returns g c = subst (λ (x : Container g.row.T.Denot). c.overlap_self.result ≡ overlap_call (by_arrival g.T.Hashed.is_alike) (plain x.object) (plain x.object)) c.self.view_is c.overlap_self.ensures

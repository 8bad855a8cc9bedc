use Rattle.std.proofs.Common.{◌≡◌, subst}
use Rattle.ac_model.specs.Containers.{Container}
use Rattle.ac_model.specs.Keyed.{ascending}
use Rattle.ac_model.specs.Objects.{plain}
use Rattle.ac_model.specs.Sets.{overlap_call}
use Rattle.ac_ordered.proofs.set.OrderedSet.overlap_self.Goals as goal

pub returns : goal.returns
returns g c = subst (λ (x : Container g.row.T.Denot). c.overlap_self.result ≡ overlap_call (ascending g.T.Rank.is_less) (plain x.object) (plain x.object)) c.self.view_is c.overlap_self.ensures

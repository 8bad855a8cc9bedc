use Rattle.std.proofs.Common.{◌≡◌, subst}
use Rattle.ac_model.specs.Containers.{Container}
use Rattle.ac_model.specs.Keyed.{ascending}
use Rattle.ac_model.specs.Objects.{plain}
use Rattle.ac_model.specs.Sets.{is_subset_call}
use Rattle.ac_ordered.proofs.set.OrderedSet.is_subset_self.Goals as goal

pub returns : goal.returns
returns g c = subst (λ (x : Container g.row.T.Denot). c.is_subset_self.result ≡ is_subset_call (ascending g.T.Rank.is_less) (plain x.object) (plain x.object)) c.self.view_is c.is_subset_self.ensures

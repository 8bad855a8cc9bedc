use Rattle.std.proofs.Common.{◌≡◌, subst}
use Rattle.ac_model.specs.Containers.{Container}
use Rattle.ac_model.specs.Keyed.{by_arrival}
use Rattle.ac_setwork.specs.TableFields.{named_like}
use Rattle.ac_hashed.proofs.set.as_set.HashedSetSetLike.look.Goals as goal

pub returns : goal.returns
returns g c = subst (λ (x : Container g.row.T.Denot). c.look.result ≡ named_like (by_arrival g.T.Hashed.is_alike) x.object c.args.item.now) c.self.view_is c.look.ensures

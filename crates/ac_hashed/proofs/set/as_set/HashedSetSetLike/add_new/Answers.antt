use Rattle.std.proofs.Common.{◌≡◌, None, subst, sym}
use Rattle.ac_model.specs.Calls.{IsAfter}
use Rattle.ac_model.specs.Containers.{Container}
use Rattle.ac_model.specs.Keyed.{by_arrival, with_added}
use Rattle.ac_model.specs.Objects.{plain}
use Rattle.ac_setwork.specs.TableFields.{named_like}
use Rattle.ac_hashed.proofs.set.as_set.HashedSetSetLike.add_new.Goals as goal

pub add_new-requires-clause-absent : goal.add_new-requires-clause-absent
add_new-requires-clause-absent g c =
    subst (λ (x : Container g.row.T.Denot). named_like (by_arrival g.T.Hashed.is_alike) x.object c.args.item ≡ None) (sym c.self.view_is) c.requires.absent

pub returns-clause-added : goal.returns-clause-added
returns-clause-added g c =
    subst (λ (x : Container g.row.T.Denot). IsAfter x.object c.add_new.new.self.object (with_added (by_arrival g.T.Hashed.is_alike) (plain x.object) c.args.item)) c.self.view_is c.add_new.ensures.added

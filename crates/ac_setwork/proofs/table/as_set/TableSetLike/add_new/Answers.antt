use Rattle.std.proofs.Common.{◌≡◌, ◌+◌, ◌<◌, None, sym, subst}
use Rattle.ac_base.specs.FirstReason.{first_reason}
use Rattle.ac_model.specs.Containers.{Container}
use Rattle.ac_model.specs.Letters.{room_for_one}
use Rattle.ac_model.specs.Objects.{capacity_after, length_of, plain}
use Rattle.ac_setwork.specs.TableFields.{named_like}
use Rattle.ac_setwork.proofs.Unguarded.{added_here}
use Rattle.ac_setwork.proofs.table.as_set.TableSetLike.add_new.Goals as goal

pub invariant_of-self : goal.invariant_of-self
invariant_of-self g c =
    let i = c.self.inside in let order = g.I.Index.order in
    added_here order i.limit g.met.I.Index.closed i.guards (g.I.Index.seen i.index) (g.I.Index.seen c.add_new.new.self) c.args.item c.self.invariant
    (subst (λ (x : Container _). 0 < x.spare) (sym c.self.view_is) c.requires.spare)
    (subst (λ (x : Container _). first_reason (room_for_one (plain x.object)) ≡ None) (sym c.self.view_is) c.requires.room)
    (subst (λ (x : Container _). named_like order x.object c.args.item ≡ None) (sym c.self.view_is) c.requires.absent)
    (subst (λ (x : Container _). capacity_after x.object.limit x.object.capacity (length_of x.object + 1) ≡ x.object.capacity) (sym c.self.view_is) c.requires.capacity)
    c.add_new.ensures.added

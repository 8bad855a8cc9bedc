use Rattle.std.proofs.Common.{◌≤◌, length, map, subst}
use Rattle.std.specs.Prelude.{IfSome}
use Rattle.ac_model.specs.Containers.{Container, HasSlots, slots_of}
use Rattle.ac_model.specs.Objects.{length_of, plain_row}
use Rattle.ac_setwork.specs.Indexed.{slots}
use Rattle.ac_setwork.proofs.Slots.{bounded_slots, within_slots}
use Rattle.ac_setwork.proofs.table.Table.law.Goals as goal

pub returns-clause-slots : goal.returns-clause-slots
returns-clause-slots g c =
    let i = c.self.inside in let s = g.I.Index.seen i.index in
    subst (λ (x : Container _). HasSlots x.object.limit (length_of x.object) x.spare) c.self.view_is (bounded_slots i.limit s c.self.invariant.has_slots)

pub returns-clause-capacity : goal.returns-clause-capacity
returns-clause-capacity g c =
    let i = c.self.inside in let s = g.I.Index.seen i.index in
    subst (λ (x : Container _). IfSome x.object.capacity (λ capacity. capacity ≤ slots_of x)) c.self.view_is
    (within_slots i.limit s.capacity (length (map plain_row s.rows)) (slots s) c.self.invariant.valid.as_object.capacity_fits c.self.invariant.has_slots)

use Rattle.std.proofs.Common.{◌-◌, length, Ok, sym, ap, ◌∙◌, subst}
use Rattle.ac_model.specs.Calls.{Changing, Same}
use Rattle.ac_model.specs.Containers.{Container, slots_of}
use Rattle.ac_model.specs.Objects.{plain}
use Rattle.ac_model.specs.Ordered as ordered
use Rattle.ac_model.proofs.Reasons.{passed}
use Rattle.ac_setwork.specs.Indexed.{plain_rows}
use Rattle.ac_setwork.specs.TableFields.{object_of}
use Rattle.ac_setwork.proofs.Ends.{is_at, last_at, none_last, end_cut, none_cut}
use Rattle.ac_setwork.proofs.Tables.{taken_table, taken_slots}
use Rattle.ac_setwork.proofs.table.Table.delete_last.Goals as goal

pub remove-row-requires : goal.remove-row-requires
remove-row-requires g c =
    let s = g.I.Index.seen c.self.inside.index in (is_at s.rows (length (plain_rows s) - 1) c.in-Some.name c.self.invariant.valid.as_object.names_differ (sym (last_at s) ∙ sym c.last.ensures ∙ c.in-Some.is)).there

pub invariant_of-self : goal.invariant_of-self
invariant_of-self g c =
    let i = c.self.inside in let s = g.I.Index.seen i.index in
    taken_table g.I.Index.order i.guards i.limit g.met.I.Index.closed s (g.I.Index.seen c.remove-row.new.self) c.in-Some.name c.self.invariant
    (is_at s.rows (length (plain_rows s) - 1) c.in-Some.name c.self.invariant.valid.as_object.names_differ (sym (last_at s) ∙ sym c.last.ensures ∙ c.in-Some.is)).there c.remove-row.ensures.removed

pub returns-in-None-clause-changed : goal.returns-in-None-clause-changed
returns-in-None-clause-changed g c =
    let i = c.self.inside in let s = g.I.Index.seen i.index in
    subst (λ (x : Container _). Changing Same (ordered.delete_last_call (plain x.object)) x.object x.object (Ok tt)) c.self.view_is
    (none_cut g.I.Index.order i.guards i.limit s (length (plain_rows s) - 1) (none_last s.rows (sym c.last.ensures ∙ c.in-None.is)) (sym (passed _ _ c.in_ok-allowed.ensures c.forbids.ensures)))

pub returns-in-Some-clause-changed : goal.returns-in-Some-clause-changed
returns-in-Some-clause-changed g c =
    let i = c.self.inside in let s = g.I.Index.seen i.index in let s2 = g.I.Index.seen c.remove-row.new.self in
    subst (λ (x : Container _). Changing Same (ordered.delete_last_call (plain x.object)) x.object (object_of i.guards i.limit s2) (Ok tt)) c.self.view_is
    (end_cut g.I.Index.order i.guards i.limit s s2 (length (plain_rows s) - 1) c.in-Some.name (is_at s.rows (length (plain_rows s) - 1) c.in-Some.name c.self.invariant.valid.as_object.names_differ (sym (last_at s) ∙ sym c.last.ensures ∙ c.in-Some.is))
    (sym (passed _ _ c.in_ok-allowed.ensures c.forbids.ensures)) c.remove-row.ensures.removed)

pub returns-in-Some-clause-slots : goal.returns-in-Some-clause-slots
returns-in-Some-clause-slots g c =
    let i = c.self.inside in let s = g.I.Index.seen i.index in
    taken_slots g.I.Index.order i.guards i.limit s (g.I.Index.seen c.remove-row.new.self) c.in-Some.name
    (is_at s.rows (length (plain_rows s) - 1) c.in-Some.name c.self.invariant.valid.as_object.names_differ (sym (last_at s) ∙ sym c.last.ensures ∙ c.in-Some.is)).there c.remove-row.ensures.removed
    ∙ ap (λ (x : Container _). slots_of x) c.self.view_is

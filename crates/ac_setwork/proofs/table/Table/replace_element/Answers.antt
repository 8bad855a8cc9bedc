use Rattle.std.proofs.Common.{◌≡◌, None, sym, ap, ◌∙◌, subst}
use Rattle.ac_base.specs.declared.name.Name.{Name}
use Rattle.ac_model.specs.Calls.{IsAfter}
use Rattle.ac_model.specs.Containers.{Container, slots_of}
use Rattle.ac_model.specs.Cursors.{mark, name_in}
use Rattle.ac_model.specs.Keyed as keyed
use Rattle.ac_model.specs.Keyed.{with_reordered}
use Rattle.ac_model.specs.Objects.{plain, with_rows}
use Rattle.ac_setwork.specs.Indexed.{plain_rows}
use Rattle.ac_setwork.specs.TableFields.{object_of}
use Rattle.ac_setwork.proofs.Replacing.{IsReordered, reordered_table, reordered_slots, replaced_changed, replaced_stands}
use Rattle.ac_setwork.proofs.Tables.{becomes_after}
use Rattle.ac_setwork.proofs.table.Table.replace_element.Goals as goal

pub invariant_of-self : goal.invariant_of-self
invariant_of-self g c =
    let i = c.self.inside in let order = g.I.Index.order in let s = g.I.Index.seen i.index in let s2 = g.I.Index.seen c.set_row.new.self in
    reordered_table order i.guards i.limit g.met.I.Index.closed s s2 c.args.c c.args.row c.self.invariant
    (subst (λ (x : Container _). (keyed.replace_element_call order (plain x.object) (mark x.object c.args.c) c.args.row).reason ≡ None) (sym c.self.view_is) (sym c.refuses_replacement.ensures ∙ c.in-None.is))
    (subst (λ (n : Name). IsReordered order i.guards i.limit s s2 n c.args.row) c.name_in.ensures c.set_row.ensures)

pub returns-in-None-clause-changed : goal.returns-in-None-clause-changed
returns-in-None-clause-changed g c =
    let i = c.self.inside in let order = g.I.Index.order in let s = g.I.Index.seen i.index in let s2 = g.I.Index.seen c.set_row.new.self in let v = c.args.row in let new = object_of i.guards i.limit s2 in
    replaced_changed order c.args.self.now.object c.args.c v new (sym c.refuses_replacement.ensures ∙ c.in-None.is)
    (subst (λ (x : Container _). IsAfter x.object new (with_rows (plain x.object) (with_reordered order (plain x.object).rows (name_in c.args.c).serial v))) c.self.view_is
    (becomes_after order i.guards i.limit s s2 (with_reordered order (plain_rows s) (name_in c.args.c).serial v) s.spare (subst (λ (n : Name). IsReordered order i.guards i.limit s s2 n v) c.name_in.ensures c.set_row.ensures)))

pub returns-in-None-clause-slots : goal.returns-in-None-clause-slots
returns-in-None-clause-slots g c =
    let i = c.self.inside in let order = g.I.Index.order in let s = g.I.Index.seen i.index in let s2 = g.I.Index.seen c.set_row.new.self in
    let none = subst (λ (x : Container _). (keyed.replace_element_call order (plain x.object) (mark x.object c.args.c) c.args.row).reason ≡ None) (sym c.self.view_is) (sym c.refuses_replacement.ensures ∙ c.in-None.is) in
    reordered_slots order i.guards i.limit s s2 (name_in c.args.c) c.args.row (replaced_stands order (object_of i.guards i.limit s) c.args.c c.args.row none).there (subst (λ (n : Name). IsReordered order i.guards i.limit s s2 n c.args.row) c.name_in.ensures c.set_row.ensures)
    ∙ ap (λ (x : Container _). slots_of x) c.self.view_is

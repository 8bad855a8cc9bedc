use Rattle.std.proofs.Common.{◌≡◌, None, Ok, IsTrue, sym, ap, ◌∙◌, subst}
use Rattle.ac_base.specs.declared.cursor.Cursor.TheVariants.{NoElement}
use Rattle.ac_base.specs.declared.name.Name.{Name}
use Rattle.ac_model.specs.Calls.{Changing, Marks}
use Rattle.ac_model.specs.Containers.{Container, slots_of}
use Rattle.ac_model.specs.Cursors.{mark, name_in}
use Rattle.ac_model.specs.Keyed as keyed
use Rattle.ac_model.specs.Objects.{plain}
use Rattle.ac_model.proofs.Reasons.{passed}
use Rattle.ac_setwork.specs.Indexed.{is_there}
use Rattle.ac_setwork.specs.TableFields.{object_of}
use Rattle.ac_setwork.proofs.Tables.{IsTaken, taken_table, taken_slots, delete_stands, delete_changed}
use Rattle.ac_setwork.proofs.table.Table.delete.Goals as goal

pub remove-row-requires : goal.remove-row-requires
remove-row-requires g c =
    let i = c.self.inside in let s = g.I.Index.seen i.index in let q = c.args.q.now in
    let none = subst (λ (x : Container _). (keyed.delete_call (plain x.object) (mark x.object q)).reason ≡ None) (sym c.self.view_is) (sym (passed _ _ c.in_ok-allowed.ensures c.refuses_deletion.ensures)) in
    subst (λ (n : Name). IsTrue (is_there s n)) (sym c.name_in.ensures) (delete_stands g.I.Index.order i.guards i.limit s q none).there

pub invariant_of-self : goal.invariant_of-self
invariant_of-self g c =
    let i = c.self.inside in let s = g.I.Index.seen i.index in let s2 = g.I.Index.seen c.remove-row.new.self in let q = c.args.q.now in let order = g.I.Index.order in
    let none = subst (λ (x : Container _). (keyed.delete_call (plain x.object) (mark x.object q)).reason ≡ None) (sym c.self.view_is) (sym (passed _ _ c.in_ok-allowed.ensures c.refuses_deletion.ensures)) in
    taken_table order i.guards i.limit g.met.I.Index.closed s s2 (name_in q) c.self.invariant (delete_stands order i.guards i.limit s q none).there
    (subst (λ (n : Name). IsTaken order i.guards i.limit s s2 n) c.name_in.ensures c.remove-row.ensures.removed)

pub returns-clause-changed : goal.returns-clause-changed
returns-clause-changed g c =
    let i = c.self.inside in let s = g.I.Index.seen i.index in let s2 = g.I.Index.seen c.remove-row.new.self in let q = c.args.q.now in let order = g.I.Index.order in
    let none = subst (λ (x : Container _). (keyed.delete_call (plain x.object) (mark x.object q)).reason ≡ None) (sym c.self.view_is) (sym (passed _ _ c.in_ok-allowed.ensures c.refuses_deletion.ensures)) in (
      subst (λ (x : Container _). Changing (λ (_ : Unit {0}) m. Marks (object_of i.guards i.limit s2) NoElement m) (keyed.delete_call (plain x.object) (mark x.object q)) x.object (object_of i.guards i.limit s2) (Ok tt)) c.self.view_is
          (delete_changed order i.guards i.limit s s2 q none (subst (λ (n : Name). IsTaken order i.guards i.limit s s2 n) c.name_in.ensures c.remove-row.ensures.removed)),
      tt,
    )

pub returns-clause-slots : goal.returns-clause-slots
returns-clause-slots g c =
    let i = c.self.inside in let s = g.I.Index.seen i.index in let s2 = g.I.Index.seen c.remove-row.new.self in let q = c.args.q.now in let order = g.I.Index.order in
    let none = subst (λ (x : Container _). (keyed.delete_call (plain x.object) (mark x.object q)).reason ≡ None) (sym c.self.view_is) (sym (passed _ _ c.in_ok-allowed.ensures c.refuses_deletion.ensures)) in
    taken_slots order i.guards i.limit s s2 (name_in q) (delete_stands order i.guards i.limit s q none).there (subst (λ (n : Name). IsTaken order i.guards i.limit s s2 n) c.name_in.ensures c.remove-row.ensures.removed)
    ∙ ap (λ (x : Container _). slots_of x) c.self.view_is

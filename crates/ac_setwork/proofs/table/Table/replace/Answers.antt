use Rattle.std.proofs.Common.{◌≡◌, Some, Ok, refl, sym, ◌∙◌, subst}
use Rattle.ac_base.specs.declared.reason.Reason.TheVariants.{KeyAbsent}
use Rattle.ac_base.specs.Tampering.{forbids}
use Rattle.ac_model.specs.Calls.{Changing, Same}
use Rattle.ac_model.specs.Containers.{Container}
use Rattle.ac_model.specs.Keyed as keyed
use Rattle.ac_model.specs.Objects.{plain}
use Rattle.ac_model.proofs.Reasons.{passed}
use Rattle.ac_setwork.specs.TableFields.{object_of}
use Rattle.ac_setwork.proofs.Tables.{replaced_table, replace_changed, replace_absent}
use Rattle.ac_setwork.proofs.table.Table.replace.Goals as goal

pub invariant_of-self : goal.invariant_of-self
invariant_of-self g c =
    let i = c.self.inside in
    replaced_table g.I.Index.order i.guards i.limit g.met.I.Index.closed (g.I.Index.seen i.index) (g.I.Index.seen c.replace.new.self) c.args.row c.in-Some.name c.self.invariant (sym c.look_like.ensures ∙ c.in-Some.is) c.replace.ensures

pub returns-in-None-clause-changed : goal.returns-in-None-clause-changed
returns-in-None-clause-changed g c =
    let i = c.self.inside in let order = g.I.Index.order in
    let why = replace_absent order i.guards i.limit (forbids c.args.class i.guards.cursor_guards i.guards.element_guards) (g.I.Index.seen i.index) c.args.row (sym c.look_like.ensures ∙ c.in-None.is) (sym (passed _ _ c.in_ok-allowed.ensures c.forbids.ensures)) in
    (subst (λ (x : Container _). (keyed.replace_call (forbids c.args.class x.object.cursor_guards x.object.element_guards) order (plain x.object) c.args.row).reason ≡ Some KeyAbsent) c.self.view_is why, refl)

pub returns-in-Some-clause-changed : goal.returns-in-Some-clause-changed
returns-in-Some-clause-changed g c =
    let i = c.self.inside in let order = g.I.Index.order in let s2 = g.I.Index.seen c.replace.new.self in
    subst (λ (x : Container _). Changing Same (keyed.replace_call (forbids c.args.class x.object.cursor_guards x.object.element_guards) order (plain x.object) c.args.row) x.object (object_of i.guards i.limit s2) (Ok tt)) c.self.view_is
    (replace_changed order i.guards i.limit (forbids c.args.class i.guards.cursor_guards i.guards.element_guards) (g.I.Index.seen i.index) s2 c.args.row c.in-Some.name (sym c.look_like.ensures ∙ c.in-Some.is) (sym (passed _ _ c.in_ok-allowed.ensures c.forbids.ensures)) c.replace.ensures)

use Rattle.std.proofs.Common.{◌≡◌, Ok, Some, sym, ap, ◌∙◌, subst}
use Rattle.ac_base.specs.declared.reason.Reason.TheVariants.{KeyChanged}
use Rattle.ac_model.specs.Calls.{ChangingAlways, IsAfter, Same}
use Rattle.ac_model.specs.Containers.{Container, slots_of}
use Rattle.ac_model.specs.Cursors.{IsNamed}
use Rattle.ac_model.specs.Objects.{plain}
use Rattle.ac_model.specs.Rows.{with_value}
use Rattle.ac_setwork.specs.Indexed.{plain_rows}
use Rattle.ac_setwork.specs.KeyCalls.{settle_call}
use Rattle.ac_setwork.specs.TableFields.{object_of}
use Rattle.ac_setwork.proofs.Tables.{becomes_after, replaced_slots, replaced_table, taken_after, taken_slots, taken_table}
use Rattle.ac_setwork.proofs.Updates.{kept_found, settled_gone, settled_kept}
use Rattle.ac_setwork.proofs.table.Table.settle.Goals as goal

pub at-requires : goal.at-requires
at-requires g c = subst (λ (x : Container _). IsNamed x.object c.args.name) (sym c.self.view_is) c.requires

pub replace-requires : goal.replace-requires
replace-requires g c =
    let i = c.self.inside in let there = subst (λ (x : Container _). IsNamed x.object c.args.name) (sym c.self.view_is) c.requires in
    kept_found g.I.Index.order g.I.Keyed.key_of g.I.Keyed.keys g.met.I.Keyed.order_by_key i.guards i.limit (g.I.Index.seen i.index) c.args.name c.at.result.now c.args.copy c.alike.result c.self.invariant there c.at.ensures c.alike.ensures c.if-alike.true

pub invariant_of-self : goal.invariant_of-self
invariant_of-self g c =
    let i = c.self.inside in let there = subst (λ (x : Container _). IsNamed x.object c.args.name) (sym c.self.view_is) c.requires in let s = g.I.Index.seen i.index in
    replaced_table g.I.Index.order i.guards i.limit g.met.I.Index.closed s (g.I.Index.seen c.replace.new.self) c.args.copy c.args.name c.self.invariant
    (kept_found g.I.Index.order g.I.Keyed.key_of g.I.Keyed.keys g.met.I.Keyed.order_by_key i.guards i.limit s c.args.name c.at.result.now c.args.copy c.alike.result c.self.invariant there c.at.ensures c.alike.ensures c.if-alike.true) c.replace.ensures

pub returns-then-alike-clause-changed : goal.returns-then-alike-clause-changed
returns-then-alike-clause-changed g c =
    let i = c.self.inside in let s = g.I.Index.seen i.index in let s2 = g.I.Index.seen c.replace.new.self in let key = g.I.Keyed.key_of in let keys = g.I.Keyed.keys in
    subst (λ (x : Container _). ChangingAlways Same (settle_call key keys c.args.name.serial c.args.copy (plain x.object)) x.object (object_of i.guards i.limit s2) (Ok tt)) c.self.view_is
    (settled_kept key keys (object_of i.guards i.limit s) (object_of i.guards i.limit s2) c.args.name.serial c.at.result.now c.args.copy c.alike.result c.at.ensures c.alike.ensures c.if-alike.true
    (becomes_after g.I.Index.order i.guards i.limit s s2 (with_value (plain_rows s) c.args.name.serial c.args.copy) s.spare c.replace.ensures))

pub returns-then-alike-clause-slots : goal.returns-then-alike-clause-slots
returns-then-alike-clause-slots g c =
    let i = c.self.inside in
    replaced_slots g.I.Index.order i.guards i.limit (g.I.Index.seen i.index) (g.I.Index.seen c.replace.new.self) c.args.copy c.args.name c.replace.ensures ∙ ap (λ (x : Container _). slots_of x) c.self.view_is

pub remove-row-requires : goal.remove-row-requires
remove-row-requires g c = subst (λ (x : Container _). IsNamed x.object c.args.name) (sym c.self.view_is) c.requires

pub invariant_of-self-2 : goal.invariant_of-self-2
invariant_of-self-2 g c =
    let i = c.self.inside in let there = subst (λ (x : Container _). IsNamed x.object c.args.name) (sym c.self.view_is) c.requires in
    taken_table g.I.Index.order i.guards i.limit g.met.I.Index.closed (g.I.Index.seen i.index) (g.I.Index.seen c.remove-row.new.self) c.args.name c.self.invariant there c.remove-row.ensures.removed

pub returns-clause-changed : goal.returns-clause-changed
returns-clause-changed g c =
    let i = c.self.inside in let s = g.I.Index.seen i.index in let s2 = g.I.Index.seen c.remove-row.new.self in let key = g.I.Keyed.key_of in let keys = g.I.Keyed.keys in
    subst (λ (x : Container _). ((settle_call key keys c.args.name.serial c.args.copy (plain x.object)).reason ≡ Some KeyChanged)
    × IsAfter x.object (object_of i.guards i.limit s2) (settle_call key keys c.args.name.serial c.args.copy (plain x.object)).after) c.self.view_is
    (settled_gone key keys (object_of i.guards i.limit s) (object_of i.guards i.limit s2) c.args.name.serial c.at.result.now c.args.copy c.alike.result c.at.ensures c.alike.ensures c.if-alike.false
    (taken_after g.I.Index.order i.guards i.limit s s2 c.args.name c.remove-row.ensures.removed))

pub returns-clause-slots : goal.returns-clause-slots
returns-clause-slots g c =
    let i = c.self.inside in let there = subst (λ (x : Container _). IsNamed x.object c.args.name) (sym c.self.view_is) c.requires in
    taken_slots g.I.Index.order i.guards i.limit (g.I.Index.seen i.index) (g.I.Index.seen c.remove-row.new.self) c.args.name there c.remove-row.ensures.removed ∙ ap (λ (x : Container _). slots_of x) c.self.view_is

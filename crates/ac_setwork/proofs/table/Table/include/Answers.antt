use Rattle.std.proofs.Common.{sym, ap, ◌∙◌, subst, Ok, refl, arith}
use Rattle.ac_model.specs.Objects.{plain}
use Rattle.ac_model.specs.Calls.{Changing, Same}
use Rattle.ac_model.specs.Keyed as keyed
use Rattle.ac_model.proofs.Changes.{done_grows}
use Rattle.ac_setwork.specs.TableFields.{object_of, named_like}
use Rattle.ac_model.specs.Containers.{Container, Grows, slots_of}
use Rattle.ac_setwork.proofs.Tables.{replaced_table, replaced_slots, include_found, include_absent, include_refused}
use Rattle.ac_setwork.proofs.table.Table.include.Goals as goal

pub invariant_of-self : goal.invariant_of-self
invariant_of-self g c =
    let i = c.self.inside in let order = g.I.Index.order in
    replaced_table order i.guards i.limit g.met.I.Index.closed (g.I.Index.seen i.index) (g.I.Index.seen c.replace.new.self) c.args.row c.in-Some.name c.self.invariant
    (ap (λ (x : Container _). named_like order x.object c.args.row) c.self.view_is ∙ sym c.name_like.ensures ∙ c.in-Some.is) c.replace.ensures

pub returns-in-None-forbids : goal.returns-in-None-forbids
returns-in-None-forbids g c =
    let i = c.self.inside in let order = g.I.Index.order in let new = object_of i.guards i.limit (g.I.Index.seen c.replace.new.self) in
    record {
      changed = subst (λ (x : Container _). Changing Same (keyed.include_call order (plain x.object) c.args.row) x.object new (Ok tt)) c.self.view_is
          (include_found order i.guards i.limit (g.I.Index.seen i.index) (g.I.Index.seen c.replace.new.self) c.args.row c.in-Some.name
          (ap (λ (x : Container _). named_like order x.object c.args.row) c.self.view_is ∙ sym c.name_like.ensures ∙ c.in-Some.is) (sym c.forbids.ensures ∙ c.in-None-forbids.is) c.replace.ensures);
      slots =
          let same = replaced_slots order i.guards i.limit (g.I.Index.seen i.index) (g.I.Index.seen c.replace.new.self) c.args.row c.in-Some.name c.replace.ensures ∙ ap (λ (x : Container _). slots_of x) c.self.view_is in
          omega (arith, same);
    }

pub returns-in-Some-refuses_new : goal.returns-in-Some-refuses_new
returns-in-Some-refuses_new g c =
    let o = c.args.self.now.object in
    record { changed = (include_refused g.I.Index.order o o c.args.row (sym c.name_like.ensures ∙ c.in-None.is) ∙ sym c.refuses_new.ensures ∙ c.in-Some-refuses_new.is, refl); slots = refl }

pub returns-in-None-refuses_new : goal.returns-in-None-refuses_new
returns-in-None-refuses_new g c =
    let o = c.args.self.now.object in let new = c.add.new.self.object in let order = g.I.Index.order in
    record {
      changed = subst (λ r. Changing Same (keyed.include_call order (plain o) c.args.row) o new r) (sym c.done.ensures)
          (include_absent order o new c.args.row c.add.result (sym c.name_like.ensures ∙ c.in-None.is) (sym c.refuses_new.ensures ∙ c.in-None-refuses_new.is) c.add.ensures.changed);
      slots = subst (λ r. Grows r c.args.self.now c.add.new.self) (sym c.done.ensures) (done_grows c.add.result c.args.self.now c.add.new.self c.add.ensures.slots);
    }

use Rattle.std.proofs.Common.{◌≡◌, ◌∷◌, [], None, IsTrue, refl, sym, ap, ◌∙◌, subst}
use Rattle.ac_base.specs.declared.name.Name.{Name}
use Rattle.ac_model.specs.Calls.{IsAfter}
use Rattle.ac_model.specs.Containers.{Container, slots_of}
use Rattle.ac_model.specs.Cursors.{mark, needs_cursor}
use Rattle.ac_model.specs.Letters.{tampers_elements}
use Rattle.ac_model.specs.Objects.{plain}
use Rattle.ac_model.proofs.Reasons.{none_first, none_others}
use Rattle.ac_setwork.specs.Indexed.{is_there}
use Rattle.ac_setwork.specs.TableCalls.{element_set}
use Rattle.ac_setwork.specs.TableFields.{object_of}
use Rattle.ac_setwork.proofs.Elements.{IsSet, element_after, element_slots, element_stands, element_table}
use Rattle.ac_setwork.proofs.table.Table.set_element.Goals as goal

pub set_element-requires : goal.set_element-requires
set_element-requires g c =
    let i = c.self.inside in let s = g.I.Index.seen i.index in
    subst (λ (n : Name). IsTrue (is_there s n)) (sym c.name_in.ensures) (element_stands g.I.Index.order i.guards i.limit g.I.Mapped.with_element s s c.args.c c.args.element
    (subst (λ (x : Container _). needs_cursor x.object c.args.c ≡ None) (sym c.self.view_is) (none_first (needs_cursor c.args.self.now.object c.args.c) [] (none_others (tampers_elements (plain c.args.self.now.object)) (needs_cursor c.args.self.now.object c.args.c ∷ []) (sym (c.refuses_element.ensures c.args.element) ∙ c.in-None.is)))))

pub invariant_of-self : goal.invariant_of-self
invariant_of-self g c =
    let i = c.self.inside in let s = g.I.Index.seen i.index in let s2 = g.I.Index.seen c.set_element.new.self in let order = g.I.Index.order in let with = g.I.Mapped.with_element in
    element_table order i.guards i.limit with s s2 c.args.c c.args.element g.met.I.Index.closed g.met.I.Mapped.same_key c.self.invariant
    (subst (λ (x : Container _). needs_cursor x.object c.args.c ≡ None) (sym c.self.view_is) (none_first (needs_cursor c.args.self.now.object c.args.c) [] (none_others (tampers_elements (plain c.args.self.now.object)) (needs_cursor c.args.self.now.object c.args.c ∷ []) (sym (c.refuses_element.ensures c.args.element) ∙ c.in-None.is))))
    (subst (λ (n : Name). IsSet order i.guards i.limit with s s2 c.args.c c.args.element n) c.name_in.ensures c.set_element.ensures)

pub returns-in-None-clause-changed : goal.returns-in-None-clause-changed
returns-in-None-clause-changed g c =
    let i = c.self.inside in let s = g.I.Index.seen i.index in let s2 = g.I.Index.seen c.set_element.new.self in let order = g.I.Index.order in let with = g.I.Mapped.with_element in (
      sym (c.refuses_element.ensures c.args.element) ∙ c.in-None.is,
      subst (λ (x : Container _). IsAfter x.object (object_of i.guards i.limit s2) (element_set with (plain x.object) (mark x.object c.args.c) c.args.element)) c.self.view_is
          (element_after order i.guards i.limit with s s2 c.args.c c.args.element (subst (λ (x : Container _). needs_cursor x.object c.args.c ≡ None) (sym c.self.view_is) (none_first (needs_cursor c.args.self.now.object c.args.c) [] (none_others (tampers_elements (plain c.args.self.now.object)) (needs_cursor c.args.self.now.object c.args.c ∷ []) (sym (c.refuses_element.ensures c.args.element) ∙ c.in-None.is))))
          (subst (λ (n : Name). IsSet order i.guards i.limit with s s2 c.args.c c.args.element n) c.name_in.ensures c.set_element.ensures)),
      refl,
    )

pub returns-in-None-clause-slots : goal.returns-in-None-clause-slots
returns-in-None-clause-slots g c =
    let i = c.self.inside in let s = g.I.Index.seen i.index in let s2 = g.I.Index.seen c.set_element.new.self in let order = g.I.Index.order in let with = g.I.Mapped.with_element in
    element_slots order i.guards i.limit with s s2 c.args.c c.args.element (subst (λ (n : Name). IsSet order i.guards i.limit with s s2 c.args.c c.args.element n) c.name_in.ensures c.set_element.ensures)
    ∙ ap (λ (x : Container _). slots_of x) c.self.view_is

use Rattle.std.proofs.Common.{◌≡◌, ◌∷◌, None, sym, subst}
use Rattle.ac_base.specs.FirstReason.{first_reason}
use Rattle.ac_model.specs.Calls.{Changing, Same}
use Rattle.ac_model.specs.Common.{assign_call}
use Rattle.ac_model.specs.Containers.{Container, Grows, container}
use Rattle.ac_model.specs.Letters.{room, tampers_cursors}
use Rattle.ac_model.specs.Objects.{plain}
use Rattle.ac_model.proofs.Reasons.{passed}
use Rattle.ac_setwork.specs.TableFields.{object_of}
use Rattle.ac_setwork.proofs.Assigning.{as_contents, assign_changes, assign_reason, keyed_values, refilled_grows, refilled_table}
use Rattle.ac_setwork.proofs.table.Table.assign.Goals as goal

pub refill-requires-clause-keyed : goal.refill-requires-clause-keyed
refill-requires-clause-keyed g c = let j = c.source.inside in keyed_values g.I.Index.order j.guards j.limit (g.I.Index.seen j.index) c.source.invariant

pub invariant_of-self : goal.invariant_of-self
invariant_of-self g c =
    let i = c.self.inside in let j = c.source.inside in let s = g.I.Index.seen i.index in let from = g.I.Index.seen j.index in let s2 = g.I.Index.seen c.refill.new.index in let len = c.len.result in
    let none = subst (λ (x : Container _). first_reason (tampers_cursors (plain x.object) ∷ room (plain x.object) len len) ≡ None) (sym c.self.view_is) (sym (passed _ _ c.in_ok-allowed.ensures c.refuses_refill.ensures)) in
    refilled_table g.I.Index.order i.guards i.limit s s2 (plain (object_of j.guards j.limit from)) g.met.I.Index.closed c.refill.result c.self.invariant c.source.invariant.valid
    (assign_reason g.I.Index.order i.guards i.limit s j.guards j.limit from len c.len.ensures none) (as_contents g.I.Index.order i.guards i.limit s s2 from c.refill.result c.refill.ensures.ok) c.refill.ensures.err

pub returns-clause-changed : goal.returns-clause-changed
returns-clause-changed g c =
    let i = c.self.inside in let j = c.source.inside in let s = g.I.Index.seen i.index in let from = g.I.Index.seen j.index in let s2 = g.I.Index.seen c.refill.new.index in let len = c.len.result in
    let none = subst (λ (x : Container _). first_reason (tampers_cursors (plain x.object) ∷ room (plain x.object) len len) ≡ None) (sym c.self.view_is) (sym (passed _ _ c.in_ok-allowed.ensures c.refuses_refill.ensures)) in
    let new = object_of i.guards i.limit s2 in
    subst (λ (x : Container _). Changing Same (assign_call (plain x.object) (plain c.args.source.now.object)) x.object new c.as_fault.result) c.self.view_is
    (subst (λ (x : Container _). Changing Same (assign_call (plain (object_of i.guards i.limit s)) (plain x.object)) (object_of i.guards i.limit s) new c.as_fault.result) c.source.view_is
    (subst (λ r. Changing Same (assign_call (plain (object_of i.guards i.limit s)) (plain (object_of j.guards j.limit from))) (object_of i.guards i.limit s) new r) (sym c.as_fault.ensures)
    (assign_changes g.I.Index.order i.guards i.limit s s2 (plain (object_of j.guards j.limit from)) c.refill.result
    (assign_reason g.I.Index.order i.guards i.limit s j.guards j.limit from len c.len.ensures none) (as_contents g.I.Index.order i.guards i.limit s s2 from c.refill.result c.refill.ensures.ok) c.refill.ensures.err)))

pub returns-clause-slots : goal.returns-clause-slots
returns-clause-slots g c =
    let i = c.self.inside in let j = c.source.inside in let s = g.I.Index.seen i.index in let from = g.I.Index.seen j.index in let s2 = g.I.Index.seen c.refill.new.index in
    let new = container (object_of i.guards i.limit s2) s2.spare in
    subst (λ (x : Container _). Grows c.as_fault.result x new) c.self.view_is (subst (λ r. Grows r (container (object_of i.guards i.limit s) s.spare) new) (sym c.as_fault.ensures)
    (refilled_grows g.I.Index.order i.guards i.limit s s2 (plain (object_of j.guards j.limit from)) c.refill.result (as_contents g.I.Index.order i.guards i.limit s s2 from c.refill.result c.refill.ensures.ok) c.refill.ensures.err))

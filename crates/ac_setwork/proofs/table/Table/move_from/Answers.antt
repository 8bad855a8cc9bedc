use Rattle.std.proofs.Common.{◌≡◌, None, sym, subst}
use Rattle.ac_model.specs.Calls.{ChangingBoth, Same, both}
use Rattle.ac_model.specs.Common.{move_from_call}
use Rattle.ac_model.specs.Containers.{Container, Grows, container}
use Rattle.ac_model.specs.Objects.{plain}
use Rattle.ac_model.proofs.Reasons.{passed}
use Rattle.ac_setwork.specs.TableFields.{object_of}
use Rattle.ac_setwork.proofs.Assigning.{as_contents, drained_table, keyed_values, move_changes, move_reason, refilled_grows, refilled_table}
use Rattle.ac_setwork.proofs.table.Table.move_from.Goals as goal

pub move_all-requires-clause-keyed : goal.move_all-requires-clause-keyed
move_all-requires-clause-keyed g c = let j = c.source.inside in keyed_values g.I.Index.order j.guards j.limit (g.I.Index.seen j.index) c.source.invariant

pub invariant_of-self : goal.invariant_of-self
invariant_of-self g c =
    let i = c.self.inside in let j = c.source.inside in let s = g.I.Index.seen i.index in let from = g.I.Index.seen j.index in let s2 = g.I.Index.seen c.move_all.new.index in
    let none = subst (λ (x : Container _). (move_from_call (plain x.object) (plain (object_of j.guards j.limit from))).reason ≡ None) (sym c.self.view_is)
    (subst (λ (x : Container _). (move_from_call (plain c.args.self.now.object) (plain x.object)).reason ≡ None) (sym c.source.view_is) (sym (passed _ _ c.in_ok-allowed.ensures c.refuses_move.ensures))) in
    refilled_table g.I.Index.order i.guards i.limit s s2 (plain (object_of j.guards j.limit from)) g.met.I.Index.closed c.move_all.result c.self.invariant c.source.invariant.valid
    (move_reason (plain (object_of i.guards i.limit s)) (plain (object_of j.guards j.limit from)) none) (as_contents g.I.Index.order i.guards i.limit s s2 from c.move_all.result c.move_all.ensures.ok) c.move_all.ensures.err

pub invariant_of-source : goal.invariant_of-source
invariant_of-source g c =
    let j = c.source.inside in
    drained_table g.I.Index.order j.guards j.limit (g.I.Index.seen j.index) (g.I.Index.seen c.move_all.new.source) g.met.I.Index.closed c.move_all.result c.source.invariant c.move_all.ensures.source_ok c.move_all.ensures.source_err

pub returns-clause-changed : goal.returns-clause-changed
returns-clause-changed g c =
    let i = c.self.inside in let j = c.source.inside in let s = g.I.Index.seen i.index in let from = g.I.Index.seen j.index in let s2 = g.I.Index.seen c.move_all.new.index in let from2 = g.I.Index.seen c.move_all.new.source in
    let target = object_of i.guards i.limit s in let source = object_of j.guards j.limit from in let new = both (object_of i.guards i.limit s2) (object_of j.guards j.limit from2) in
    let none = subst (λ (x : Container _). (move_from_call (plain x.object) (plain source)).reason ≡ None) (sym c.self.view_is)
    (subst (λ (x : Container _). (move_from_call (plain c.args.self.now.object) (plain x.object)).reason ≡ None) (sym c.source.view_is) (sym (passed _ _ c.in_ok-allowed.ensures c.refuses_move.ensures))) in
    subst (λ (x : Container _). ChangingBoth Same (move_from_call (plain x.object) (plain c.args.source.now.object)) (both x.object c.args.source.now.object) new c.as_fault.result) c.self.view_is
    (subst (λ (x : Container _). ChangingBoth Same (move_from_call (plain target) (plain x.object)) (both target x.object) new c.as_fault.result) c.source.view_is
    (subst (λ r. ChangingBoth Same (move_from_call (plain target) (plain source)) (both target source) new r) (sym c.as_fault.ensures)
    (move_changes g.I.Index.order j.guards j.limit from from2 i.guards i.limit s s2 c.move_all.result none (as_contents g.I.Index.order i.guards i.limit s s2 from c.move_all.result c.move_all.ensures.ok) c.move_all.ensures.err
    c.move_all.ensures.source_ok c.move_all.ensures.source_err)))

pub returns-clause-slots : goal.returns-clause-slots
returns-clause-slots g c =
    let i = c.self.inside in let j = c.source.inside in let s = g.I.Index.seen i.index in let from = g.I.Index.seen j.index in let s2 = g.I.Index.seen c.move_all.new.index in
    let new = container (object_of i.guards i.limit s2) s2.spare in
    subst (λ (x : Container _). Grows c.as_fault.result x new) c.self.view_is (subst (λ r. Grows r (container (object_of i.guards i.limit s) s.spare) new) (sym c.as_fault.ensures)
    (refilled_grows g.I.Index.order i.guards i.limit s s2 (plain (object_of j.guards j.limit from)) c.move_all.result (as_contents g.I.Index.order i.guards i.limit s s2 from c.move_all.result c.move_all.ensures.ok) c.move_all.ensures.err))

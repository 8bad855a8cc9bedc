use Rattle.std.proofs.Common.{Some, length, sym, ap, ◌∙◌, subst}
use Rattle.ac_model.specs.Objects.{plain}
use Rattle.ac_model.specs.Calls.{Changing, Same}
use Rattle.ac_model.specs.Common.{assign_call}
use Rattle.ac_model.specs.Containers.{Container}
use Rattle.ac_chain.specs.Rows.{slots_in}
use Rattle.ac_chain.specs.Sequence.{object_of}
use Rattle.ac_chain.proofs.SequenceRefills.{refill_sequence, refill_changes, refill_reason, refill_within}
use Rattle.ac_model.proofs.Reasons.{passed}
use Rattle.ac_vector.proofs.Capacities.{widens_result}
use Rattle.ac_vector.proofs.Refills.{refill_counts, refill_kept}
use Rattle.ac_vector.proofs.vector.Vector.assign.Goals as goal

pub invariant_of-self : goal.invariant_of-self
invariant_of-self g c =
    let i = c.self.inside in let s = c.source.inside in let f = c.refill in
    refill_sequence i.limit i.rows f.new.array s.rows.rows f.result c.self.invariant c.source.invariant.within_greatest
    (refill_within i.guards i.limit (Some (slots_in i.rows)) i.rows c.args.self.now.object (ap (λ (x : Container _). x.object) c.self.view_is) c.len.result (length s.rows.rows) c.len.ensures.count (sym (passed _ _ c.in_ok-allowed.ensures c.refuses_refill.ensures)))
    f.ensures.put f.ensures.refused (refill_kept f.result i.rows f.new.array (length s.rows.rows) f.ensures.slots f.ensures.refused) f.ensures.sound

pub returns-clause-changed : goal.returns-clause-changed
returns-clause-changed g c =
    let i = c.self.inside in let s = c.source.inside in let f = c.refill in let o = c.args.self.now.object in let from = c.args.source.now.object in
    let seen = ap (λ (x : Container _). x.object) c.source.view_is in
    let within = refill_within i.guards i.limit (Some (slots_in i.rows)) i.rows o (ap (λ (x : Container _). x.object) c.self.view_is) c.len.result (length s.rows.rows) c.len.ensures.count (sym (passed _ _ c.in_ok-allowed.ensures c.refuses_refill.ensures)) in
    subst (λ r. Changing Same (assign_call (plain o) (plain from)) o (object_of i.guards i.limit (Some (slots_in f.new.array)) f.new.array) r) (sym c.as_fault.ensures)
    (refill_changes i.guards i.limit (Some (slots_in i.rows)) (Some (slots_in f.new.array)) i.rows f.new.array o (ap (λ (x : Container _). x.object) c.self.view_is) s.guards s.limit (Some (slots_in s.rows)) s.rows from seen f.result
    (sym (refill_reason s.guards s.limit (Some (slots_in s.rows)) s.rows o from seen c.len.result c.len.ensures.count) ∙ sym (passed _ _ c.in_ok-allowed.ensures c.refuses_refill.ensures))
    (widens_result f.result i.limit i.rows f.new.array (length s.rows.rows) c.self.invariant within (refill_counts f.result i.rows f.new.array s.rows.rows f.ensures.put) f.ensures.slots f.ensures.refused) f.ensures.put f.ensures.refused)

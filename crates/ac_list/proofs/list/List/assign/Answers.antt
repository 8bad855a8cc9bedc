use Rattle.std.proofs.Common.{None, length, sym, ap, ◌∙◌, subst}
use Rattle.ac_model.specs.Objects.{plain}
use Rattle.ac_model.specs.Calls.{Changing, Same}
use Rattle.ac_model.specs.Common.{assign_call}
use Rattle.ac_model.specs.Containers.{Container}
use Rattle.ac_chain.specs.Sequence.{object_of}
use Rattle.ac_chain.proofs.SequenceRefills.{refill_sequence, refill_changes, refill_reason, refill_within}
use Rattle.ac_chain.proofs.SequenceGrows.{widens_none}
use Rattle.ac_model.proofs.Reasons.{passed}
use Rattle.ac_list.proofs.list.List.assign.Goals as goal

pub invariant_of-self : goal.invariant_of-self
invariant_of-self g c =
    let i = c.self.inside in let s = c.source.inside in let f = c.refill in
    refill_sequence i.limit i.chain f.new.chain s.chain.rows f.result c.self.invariant c.source.invariant.within_greatest
    (refill_within i.guards i.limit None i.chain c.args.self.now.object (ap (λ (x : Container _). x.object) c.self.view_is) c.len.result (length s.chain.rows) c.len.ensures.count (sym (passed _ _ c.in_ok-allowed.ensures c.refuses_refill.ensures)))
    f.ensures.put f.ensures.refused f.ensures.slots f.ensures.sound

pub returns-clause-changed : goal.returns-clause-changed
returns-clause-changed g c =
    let i = c.self.inside in let s = c.source.inside in let f = c.refill in let o = c.args.self.now.object in let from = c.args.source.now.object in
    let seen = ap (λ (x : Container _). x.object) c.source.view_is in
    subst (λ r. Changing Same (assign_call (plain o) (plain from)) o (object_of i.guards i.limit None f.new.chain) r) (sym c.as_fault.ensures)
    (refill_changes i.guards i.limit None None i.chain f.new.chain o (ap (λ (x : Container _). x.object) c.self.view_is) s.guards s.limit None s.chain from seen f.result
    (sym (refill_reason s.guards s.limit None s.chain o from seen c.len.result c.len.ensures.count) ∙ sym (passed _ _ c.in_ok-allowed.ensures c.refuses_refill.ensures)) (widens_none f.result i.limit (length f.new.chain.rows)) f.ensures.put f.ensures.refused)

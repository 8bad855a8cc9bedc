use Rattle.std.proofs.Common.{length, Some, refl, sym, ap, subst}
use Rattle.ac_model.specs.Objects.{plain}
use Rattle.ac_model.specs.Common as common
use Rattle.ac_model.specs.Containers.{Container}
use Rattle.ac_model.specs.Calls.{ChangingBoth, Same, both}
use Rattle.ac_chain.specs.Rows.{slots_in}
use Rattle.ac_chain.specs.Sequence.{object_of}
use Rattle.ac_chain.proofs.SequenceRefills.{refill_sequence}
use Rattle.ac_chain.proofs.Moved.{cleared_fewer, cleared_slots}
use Rattle.ac_chain.proofs.SequenceMoves.{sequence_less, more_slots, less_slots, transferred, emptied, move_fits, moved}
use Rattle.ac_model.proofs.Reasons.{passed}
use Rattle.ac_vector.proofs.Capacities.{widens_result}
use Rattle.ac_vector.proofs.Drains.{emptied_slots}
use Rattle.ac_vector.proofs.Refills.{refill_counts, refill_kept}
use Rattle.ac_vector.proofs.vector.Vector.move_from.Goals as goal

pub invariant_of-self : goal.invariant_of-self
invariant_of-self g c =
    let i = c.self.inside in let j = c.source.inside in let o = c.args.self.now.object in let p = c.args.source.now.object in let view = ap (λ (x : Container _). x.object) c.self.view_is in let seen = ap (λ (x : Container _). x.object) c.source.view_is in
    let f = move_fits i.guards j.guards i.limit j.limit (Some (slots_in i.rows)) (Some (slots_in j.rows)) i.rows j.rows o p view seen (passed _ _ c.in_ok-allowed.ensures c.refuses_move.ensures) in let t = c.move_all in
    refill_sequence i.limit i.rows t.new.target j.rows.rows t.result c.self.invariant f.few f.within t.ensures.put t.ensures.refused_target (refill_kept t.result i.rows t.new.target (length j.rows.rows) t.ensures.slots t.ensures.refused_target) t.ensures.target

pub invariant_of-source : goal.invariant_of-source
invariant_of-source g c =
    let j = c.source.inside in let t = c.move_all in
    sequence_less j.limit j.rows t.new.source t.result c.source.invariant (cleared_fewer j.rows t.new.source) (cleared_slots j.rows t.new.source) t.ensures.cleared t.ensures.refused_source t.ensures.source

pub returns-clause-changed : goal.returns-clause-changed
returns-clause-changed g c =
    let i = c.self.inside in let j = c.source.inside in let o = c.args.self.now.object in let p = c.args.source.now.object in let view = ap (λ (x : Container _). x.object) c.self.view_is in let seen = ap (λ (x : Container _). x.object) c.source.view_is in
    let t = c.move_all in let none = (passed _ _ c.in_ok-allowed.ensures c.refuses_move.ensures) in
    let f = move_fits i.guards j.guards i.limit j.limit (Some (slots_in i.rows)) (Some (slots_in j.rows)) i.rows j.rows o p view seen none in
    let risen = widens_result t.result i.limit i.rows t.new.target (length j.rows.rows) c.self.invariant f.within (refill_counts t.result i.rows t.new.target j.rows.rows t.ensures.put) t.ensures.slots t.ensures.refused_target in
    subst (λ n. ChangingBoth Same (common.move_from_call (plain o) (plain p)) (both o p) (both (object_of i.guards i.limit (Some (slots_in t.new.target)) t.new.target) (object_of j.guards j.limit (Some n) t.new.source)) c.as_fault.result)
    (sym (emptied_slots t.result j.rows t.new.source t.ensures.cleared t.ensures.refused_source))
    (transferred i.guards j.guards i.limit j.limit (Some (slots_in i.rows)) (Some (slots_in j.rows)) i.rows j.rows o p view seen t.new.target t.new.source (Some (slots_in t.new.target)) (common.move_from_call (plain o) (plain p)) t.result c.as_fault.result c.as_fault.ensures refl none risen
    (moved i.guards j.guards i.limit j.limit (Some (slots_in i.rows)) (Some (slots_in j.rows)) i.rows j.rows o p view seen t.new.target (Some (slots_in t.new.target)))
    (emptied i.guards j.guards i.limit j.limit (Some (slots_in i.rows)) (Some (slots_in j.rows)) i.rows j.rows o p view seen t.new.source) t.ensures.put t.ensures.cleared t.ensures.refused_target t.ensures.refused_source)

pub returns-clause-slots : goal.returns-clause-slots
returns-clause-slots g c =
    let i = c.self.inside in let t = c.move_all in
    more_slots i.guards i.limit (Some (slots_in i.rows)) (Some (slots_in t.new.target)) i.rows t.new.target c.args.self.now c.self.view_is t.result c.as_fault.result c.as_fault.ensures (λ h. h) t.ensures.grown t.ensures.refused_target

pub returns-clause-source : goal.returns-clause-source
returns-clause-source g c =
    let j = c.source.inside in let t = c.move_all in
    less_slots j.guards j.limit (Some (slots_in j.rows)) j.rows t.new.source c.args.source.now c.source.view_is t.result (cleared_slots j.rows t.new.source) t.ensures.cleared t.ensures.refused_source

use Rattle.std.proofs.Common.{length, None, refl, ap}
use Rattle.ac_model.specs.Objects.{plain}
use Rattle.ac_model.specs.Common as common
use Rattle.ac_model.specs.Containers.{Container}
use Rattle.ac_chain.proofs.SequenceRefills.{refill_sequence}
use Rattle.ac_chain.proofs.Moved.{cleared_fewer, cleared_slots}
use Rattle.ac_chain.proofs.SequenceMoves.{sequence_less, more_slots, less_slots, transferred, emptied, move_fits, moved}
use Rattle.ac_chain.proofs.SequenceGrows.{widens_none}
use Rattle.ac_model.proofs.Reasons.{passed}
use Rattle.ac_list.proofs.list.List.move_from.Goals as goal

pub invariant_of-self : goal.invariant_of-self
invariant_of-self g c =
    let i = c.self.inside in let j = c.source.inside in let o = c.args.self.now.object in let p = c.args.source.now.object in let view = ap (λ (x : Container _). x.object) c.self.view_is in let seen = ap (λ (x : Container _). x.object) c.source.view_is in
    let f = move_fits i.guards j.guards i.limit j.limit None None i.chain j.chain o p view seen (passed _ _ c.in_ok-allowed.ensures c.refuses_move.ensures) in let t = c.move_all in
    refill_sequence i.limit i.chain t.new.target j.chain.rows t.result c.self.invariant f.few f.within t.ensures.put t.ensures.refused_target t.ensures.slots t.ensures.target

pub invariant_of-source : goal.invariant_of-source
invariant_of-source g c =
    let j = c.source.inside in let t = c.move_all in
    sequence_less j.limit j.chain t.new.source t.result c.source.invariant (cleared_fewer j.chain t.new.source) (cleared_slots j.chain t.new.source) t.ensures.cleared t.ensures.refused_source t.ensures.source

pub returns-clause-changed : goal.returns-clause-changed
returns-clause-changed g c =
    let i = c.self.inside in let j = c.source.inside in let o = c.args.self.now.object in let p = c.args.source.now.object in let view = ap (λ (x : Container _). x.object) c.self.view_is in let seen = ap (λ (x : Container _). x.object) c.source.view_is in
    let t = c.move_all in let none = (passed _ _ c.in_ok-allowed.ensures c.refuses_move.ensures) in
    transferred i.guards j.guards i.limit j.limit None None i.chain j.chain o p view seen t.new.target t.new.source None (common.move_from_call (plain o) (plain p)) t.result c.as_fault.result c.as_fault.ensures refl none (widens_none t.result i.limit (length t.new.target.rows))
    (moved i.guards j.guards i.limit j.limit None None i.chain j.chain o p view seen t.new.target None) (emptied i.guards j.guards i.limit j.limit None None i.chain j.chain o p view seen t.new.source) t.ensures.put t.ensures.cleared t.ensures.refused_target t.ensures.refused_source

pub returns-clause-slots : goal.returns-clause-slots
returns-clause-slots g c =
    let i = c.self.inside in let t = c.move_all in
    more_slots i.guards i.limit None None i.chain t.new.target c.args.self.now c.self.view_is t.result c.as_fault.result c.as_fault.ensures (λ h. h) t.ensures.grown t.ensures.refused_target

pub returns-clause-source : goal.returns-clause-source
returns-clause-source g c =
    let j = c.source.inside in let t = c.move_all in
    less_slots j.guards j.limit None j.chain t.new.source c.args.source.now c.source.view_is t.result (cleared_slots j.chain t.new.source) t.ensures.cleared t.ensures.refused_source

use Rattle.std.proofs.Common.{None, refl, ap, length}
use Rattle.ac_model.specs.Objects.{plain}
use Rattle.ac_model.specs.Lists as lists
use Rattle.ac_model.specs.Cursors.{mark}
use Rattle.ac_model.specs.Containers.{Container}
use Rattle.ac_chain.proofs.Transfers.{put_all_length}
use Rattle.ac_chain.proofs.Moved.{cleared_fewer, cleared_slots}
use Rattle.ac_chain.proofs.SequenceMoves.{sequence_more, sequence_less, more_slots, less_slots, transferred, emptied}
use Rattle.ac_chain.proofs.SequenceStanding.{placed_live}
use Rattle.ac_chain.proofs.SequenceSplices.{splice_fits, spliced}
use Rattle.ac_chain.proofs.SequenceGrows.{widens_none}
use Rattle.ac_model.proofs.Reasons.{passed}
use Rattle.ac_list.proofs.list.List.splice.Goals as goal

pub move_before-requires-clause-place : goal.move_before-requires-clause-place
move_before-requires-clause-place g c =
    let i = c.self.inside in let j = c.source.inside in let o = c.args.self.now.object in let p = c.args.source.now.object in let view = ap (λ (x : Container _). x.object) c.self.view_is in let seen = ap (λ (x : Container _). x.object) c.source.view_is in
    placed_live i.guards i.limit None i.chain o view c.args.b c.place_in.result c.place_in.ensures (splice_fits i.guards j.guards i.limit j.limit i.chain j.chain o p view seen c.args.b (passed _ _ c.in_ok-allowed.ensures c.refuses_splice_of_all.ensures)).place

pub move_before-requires-clause-few : goal.move_before-requires-clause-few
move_before-requires-clause-few g c =
    let i = c.self.inside in let j = c.source.inside in let o = c.args.self.now.object in let p = c.args.source.now.object in let view = ap (λ (x : Container _). x.object) c.self.view_is in let seen = ap (λ (x : Container _). x.object) c.source.view_is in
    (splice_fits i.guards j.guards i.limit j.limit i.chain j.chain o p view seen c.args.b (passed _ _ c.in_ok-allowed.ensures c.refuses_splice_of_all.ensures)).fits.few

pub move_before-requires-clause-unspent : goal.move_before-requires-clause-unspent
move_before-requires-clause-unspent g c =
    let i = c.self.inside in let j = c.source.inside in let o = c.args.self.now.object in let p = c.args.source.now.object in let view = ap (λ (x : Container _). x.object) c.self.view_is in let seen = ap (λ (x : Container _). x.object) c.source.view_is in
    (splice_fits i.guards j.guards i.limit j.limit i.chain j.chain o p view seen c.args.b (passed _ _ c.in_ok-allowed.ensures c.refuses_splice_of_all.ensures)).fits.unspent

pub invariant_of-self : goal.invariant_of-self
invariant_of-self g c =
    let i = c.self.inside in let j = c.source.inside in let o = c.args.self.now.object in let p = c.args.source.now.object in let view = ap (λ (x : Container _). x.object) c.self.view_is in let seen = ap (λ (x : Container _). x.object) c.source.view_is in
    let t = c.move_before in
    sequence_more i.limit i.chain t.new.target (length j.chain.rows) t.result c.self.invariant (splice_fits i.guards j.guards i.limit j.limit i.chain j.chain o p view seen c.args.b (passed _ _ c.in_ok-allowed.ensures c.refuses_splice_of_all.ensures)).fits
    (put_all_length i.chain t.new.target j.chain c.place_in.result) t.ensures.put t.ensures.slots t.ensures.refused_target t.ensures.target

pub invariant_of-source : goal.invariant_of-source
invariant_of-source g c =
    let j = c.source.inside in let t = c.move_before in
    sequence_less j.limit j.chain t.new.source t.result c.source.invariant (cleared_fewer j.chain t.new.source) (cleared_slots j.chain t.new.source) t.ensures.cleared t.ensures.refused_source t.ensures.source

pub returns-clause-changed : goal.returns-clause-changed
returns-clause-changed g c =
    let i = c.self.inside in let j = c.source.inside in let o = c.args.self.now.object in let p = c.args.source.now.object in let view = ap (λ (x : Container _). x.object) c.self.view_is in let seen = ap (λ (x : Container _). x.object) c.source.view_is in
    let t = c.move_before in let none = (passed _ _ c.in_ok-allowed.ensures c.refuses_splice_of_all.ensures) in
    transferred i.guards j.guards i.limit j.limit None None i.chain j.chain o p view seen t.new.target t.new.source None (lists.splice_call (plain o) (mark o c.args.b) (plain p)) t.result c.as_fault.result c.as_fault.ensures refl none (widens_none t.result i.limit (length t.new.target.rows))
    (λ risen. spliced i.guards j.guards i.limit j.limit i.chain j.chain o p view seen t.new.target c.args.b c.place_in.result c.self.invariant.sound none c.place_in.ensures) (emptied i.guards j.guards i.limit j.limit None None i.chain j.chain o p view seen t.new.source) t.ensures.put t.ensures.cleared t.ensures.refused_target t.ensures.refused_source

pub returns-clause-slots : goal.returns-clause-slots
returns-clause-slots g c =
    let i = c.self.inside in let t = c.move_before in
    more_slots i.guards i.limit None None i.chain t.new.target c.args.self.now c.self.view_is t.result c.as_fault.result c.as_fault.ensures (λ h. h.most) t.ensures.slots t.ensures.refused_target

pub returns-clause-source : goal.returns-clause-source
returns-clause-source g c =
    let j = c.source.inside in let t = c.move_before in
    less_slots j.guards j.limit None j.chain t.new.source c.args.source.now c.source.view_is t.result (cleared_slots j.chain t.new.source) t.ensures.cleared t.ensures.refused_source

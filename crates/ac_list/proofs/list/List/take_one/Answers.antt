use Rattle.std.proofs.Common.{None, ap}
use Rattle.ac_model.specs.Containers.{Container}
use Rattle.ac_chain.proofs.SequenceLooks.{live_needed}
use Rattle.ac_chain.proofs.Moved.{one_length, removed_fewer, removed_slots}
use Rattle.ac_chain.proofs.SequenceMoves.{sequence_more, sequence_less, less_slots}
use Rattle.ac_chain.proofs.SequenceStanding.{placed_live}
use Rattle.ac_chain.proofs.SequenceSplices.{one_fits, one_slots, one_spliced}
use Rattle.ac_model.proofs.Reasons.{passed}
use Rattle.ac_list.proofs.list.List.take_one.Goals as goal

pub move_one-name-requires-clause-place : goal.move_one-name-requires-clause-place
move_one-name-requires-clause-place g c =
    let i = c.self.inside in let j = c.source.inside in let o = c.args.self.now.object in let p = c.args.source.now.object in let view = ap (λ (x : Container _). x.object) c.self.view_is in let seen = ap (λ (x : Container _). x.object) c.source.view_is in
    placed_live i.guards i.limit None i.chain o view c.args.b c.place_in.result c.place_in.ensures (one_fits i.guards j.guards i.limit j.limit i.chain j.chain o p view seen c.args.b c.args.q (passed _ _ c.in_ok-allowed.ensures c.refuses_splice_of_one.ensures)).place

pub move_one-name-requires-clause-name : goal.move_one-name-requires-clause-name
move_one-name-requires-clause-name g c =
    let i = c.self.inside in let j = c.source.inside in let o = c.args.self.now.object in let p = c.args.source.now.object in let view = ap (λ (x : Container _). x.object) c.self.view_is in let seen = ap (λ (x : Container _). x.object) c.source.view_is in
    (live_needed j.guards j.limit None j.chain p seen c.args.q c.name_in.result c.name_in.ensures (one_fits i.guards j.guards i.limit j.limit i.chain j.chain o p view seen c.args.b c.args.q (passed _ _ c.in_ok-allowed.ensures c.refuses_splice_of_one.ensures)).position)

pub move_one-name-requires-clause-few : goal.move_one-name-requires-clause-few
move_one-name-requires-clause-few g c =
    let i = c.self.inside in let j = c.source.inside in let o = c.args.self.now.object in let p = c.args.source.now.object in let view = ap (λ (x : Container _). x.object) c.self.view_is in let seen = ap (λ (x : Container _). x.object) c.source.view_is in
    (one_fits i.guards j.guards i.limit j.limit i.chain j.chain o p view seen c.args.b c.args.q (passed _ _ c.in_ok-allowed.ensures c.refuses_splice_of_one.ensures)).fits.few

pub move_one-name-requires-clause-unspent : goal.move_one-name-requires-clause-unspent
move_one-name-requires-clause-unspent g c =
    let i = c.self.inside in let j = c.source.inside in let o = c.args.self.now.object in let p = c.args.source.now.object in let view = ap (λ (x : Container _). x.object) c.self.view_is in let seen = ap (λ (x : Container _). x.object) c.source.view_is in
    (one_fits i.guards j.guards i.limit j.limit i.chain j.chain o p view seen c.args.b c.args.q (passed _ _ c.in_ok-allowed.ensures c.refuses_splice_of_one.ensures)).fits.unspent

pub invariant_of-self : goal.invariant_of-self
invariant_of-self g c =
    let i = c.self.inside in let j = c.source.inside in let o = c.args.self.now.object in let p = c.args.source.now.object in let view = ap (λ (x : Container _). x.object) c.self.view_is in let seen = ap (λ (x : Container _). x.object) c.source.view_is in
    let t = c.move_one-name in
    sequence_more i.limit i.chain t.new.target 1 t.result c.self.invariant (one_fits i.guards j.guards i.limit j.limit i.chain j.chain o p view seen c.args.b c.args.q (passed _ _ c.in_ok-allowed.ensures c.refuses_splice_of_one.ensures)).fits
    (one_length i.chain t.new.target j.chain c.place_in.result c.name_in.result (live_needed j.guards j.limit None j.chain p seen c.args.q c.name_in.result c.name_in.ensures (one_fits i.guards j.guards i.limit j.limit i.chain j.chain o p view seen c.args.b c.args.q (passed _ _ c.in_ok-allowed.ensures c.refuses_splice_of_one.ensures)).position)) t.ensures.put t.ensures.slots t.ensures.refused_target t.ensures.target

pub invariant_of-source : goal.invariant_of-source
invariant_of-source g c =
    let i = c.self.inside in let j = c.source.inside in let o = c.args.self.now.object in let p = c.args.source.now.object in let view = ap (λ (x : Container _). x.object) c.self.view_is in let seen = ap (λ (x : Container _). x.object) c.source.view_is in
    let t = c.move_one-name in
    let live = (live_needed j.guards j.limit None j.chain p seen c.args.q c.name_in.result c.name_in.ensures (one_fits i.guards j.guards i.limit j.limit i.chain j.chain o p view seen c.args.b c.args.q (passed _ _ c.in_ok-allowed.ensures c.refuses_splice_of_one.ensures)).position) in
    sequence_less j.limit j.chain t.new.source t.result c.source.invariant (removed_fewer j.chain t.new.source c.name_in.result c.source.invariant.sound live t.ensures.source)
    (removed_slots j.chain t.new.source c.name_in.result c.source.invariant.sound live t.ensures.source) t.ensures.removed t.ensures.refused_source t.ensures.source

pub returns-clause-changed : goal.returns-clause-changed
returns-clause-changed g c =
    let i = c.self.inside in let j = c.source.inside in let o = c.args.self.now.object in let p = c.args.source.now.object in let view = ap (λ (x : Container _). x.object) c.self.view_is in let seen = ap (λ (x : Container _). x.object) c.source.view_is in
    let t = c.move_one-name in let e = t.ensures in
    one_spliced i.guards j.guards i.limit j.limit i.chain j.chain o p view seen t.new.target t.new.source c.args.b c.args.q c.place_in.result c.name_in.result t.result c.cursor_of.result c.number.result c.self.invariant.sound c.source.invariant.sound (passed _ _ c.in_ok-allowed.ensures c.refuses_splice_of_one.ensures)
    c.place_in.ensures c.name_in.ensures c.number.ensures c.cursor_of.ensures e.put e.first e.removed e.refused_target e.refused_source e.source

pub returns-clause-slots : goal.returns-clause-slots
returns-clause-slots g c =
    let i = c.self.inside in let t = c.move_one-name in
    one_slots i.guards i.limit i.chain t.new.target c.args.self.now c.self.view_is t.result c.cursor_of.result c.number.result c.cursor_of.ensures t.ensures.slots t.ensures.refused_target

pub returns-clause-source : goal.returns-clause-source
returns-clause-source g c =
    let i = c.self.inside in let j = c.source.inside in let o = c.args.self.now.object in let p = c.args.source.now.object in let view = ap (λ (x : Container _). x.object) c.self.view_is in let seen = ap (λ (x : Container _). x.object) c.source.view_is in
    let t = c.move_one-name in
    less_slots j.guards j.limit None j.chain t.new.source c.args.source.now c.source.view_is t.result (removed_slots j.chain t.new.source c.name_in.result c.source.invariant.sound (live_needed j.guards j.limit None j.chain p seen c.args.q c.name_in.result c.name_in.ensures (one_fits i.guards j.guards i.limit j.limit i.chain j.chain o p view seen c.args.b c.args.q (passed _ _ c.in_ok-allowed.ensures c.refuses_splice_of_one.ensures)).position) t.ensures.source) t.ensures.removed t.ensures.refused_source

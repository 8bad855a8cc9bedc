use Rattle.std.proofs.Common.{sym}
use Rattle.ac_model.proofs.Reasons.{passed}
use Rattle.ac_chain.proofs.SequenceLooks.{live_needed, previous_looks}
use Rattle.ac_model.specs.Containers.{guards_of}
use Rattle.ac_chain.proofs.calls.looking.previous.Goals as goal

pub prev-requires : goal.prev-requires
prev-requires g c =
    let o = g.S.Sequence.seen c.args.s.now in let k = g.S.Rows.Walked.seen c.rows.result.now in let r = c.rows.ensures in
    live_needed (guards_of o) o.object.limit o.object.capacity k o.object r.object c.args.b c.name_in.result c.name_in.ensures (sym (passed _ _ c.in_ok-allowed.ensures c.needs.ensures))

pub returns : goal.returns
returns g c =
    let o = g.S.Sequence.seen c.args.s.now in let k = g.S.Rows.Walked.seen c.rows.result.now in let r = c.rows.ensures in
    previous_looks (guards_of o) o.object.limit o.object.capacity k o.object r.object r.sequence.sound c.args.b c.name_in.result c.prev.result c.named.result
    (sym (passed _ _ c.in_ok-allowed.ensures c.needs.ensures)) c.name_in.ensures c.prev.ensures.name c.named.ensures

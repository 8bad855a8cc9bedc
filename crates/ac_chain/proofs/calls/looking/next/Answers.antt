use Rattle.std.proofs.Common.{sym}
use Rattle.ac_model.proofs.Reasons.{passed}
use Rattle.ac_chain.proofs.SequenceLooks.{live_needed, next_looks}
use Rattle.ac_model.specs.Containers.{guards_of}
use Rattle.ac_chain.proofs.calls.looking.next.Goals as goal

pub next-requires : goal.next-requires
next-requires g c =
    let o = g.S.Sequence.seen c.args.s.now in let k = g.S.Rows.Walked.seen c.rows.result.now in let r = c.rows.ensures in
    live_needed (guards_of o) o.object.limit o.object.capacity k o.object r.object c.args.b c.name_in.result c.name_in.ensures (sym (passed _ _ c.in_ok-allowed.ensures c.needs.ensures))

pub returns : goal.returns
returns g c =
    let o = g.S.Sequence.seen c.args.s.now in let k = g.S.Rows.Walked.seen c.rows.result.now in let r = c.rows.ensures in
    next_looks (guards_of o) o.object.limit o.object.capacity k o.object r.object r.sequence.sound c.args.b c.name_in.result c.next.result c.named.result
    (sym (passed _ _ c.in_ok-allowed.ensures c.needs.ensures)) c.name_in.ensures c.next.ensures.name c.named.ensures

use Rattle.std.proofs.Common.{sym}
use Rattle.ac_model.proofs.Reasons.{passed}
use Rattle.ac_chain.proofs.SequenceLooks.{live_needed, element_looks}
use Rattle.ac_model.specs.Containers.{guards_of}
use Rattle.ac_chain.proofs.calls.looking.element.Goals as goal

pub at-requires : goal.at-requires
at-requires g c =
    let o = g.S.Sequence.seen c.args.s.now in let k = g.S.Rows.Walked.seen c.rows.result.now in let r = c.rows.ensures in
    live_needed (guards_of o) o.object.limit o.object.capacity k o.object r.object c.args.c c.name_in.result c.name_in.ensures (sym (passed _ _ c.in_ok-allowed.ensures c.needs.ensures))

pub returns : goal.returns
returns g c =
    let o = g.S.Sequence.seen c.args.s.now in let k = g.S.Rows.Walked.seen c.rows.result.now in let r = c.rows.ensures in
    element_looks (guards_of o) o.object.limit o.object.capacity k o.object r.object r.sequence.sound c.args.c c.name_in.result c.at.result
    (sym (passed _ _ c.in_ok-allowed.ensures c.needs.ensures)) c.name_in.ensures c.at.ensures.value

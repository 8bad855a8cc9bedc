use Rattle.std.proofs.Common.{sym, ◌∙◌}
use Rattle.ac_model.proofs.Reasons.{allowed_none}
use Rattle.ac_chain.proofs.SequenceFinds.{start_live, find_looks}
use Rattle.ac_model.specs.Containers.{guards_of}
use Rattle.ac_chain.proofs.calls.finding.find.Goals as goal

pub found_from-requires-clause-from : goal.found_from-requires-clause-from
found_from-requires-clause-from g c =
    let o = g.S.Sequence.seen c.args.s.now in let k = g.S.Rows.Walked.seen c.rows-rows.result.now in let r = c.rows-rows.ensures in
    start_live (guards_of o) o.object.limit o.object.capacity k o.object r.object r.sequence.sound c.args.b c.start_of-start.result (sym c.may.ensures ∙ (allowed_none c.may.result c.in_ok-allowed.ensures)) c.start_of-start.ensures

pub found_from-requires-clause-sound : goal.found_from-requires-clause-sound
found_from-requires-clause-sound g c = c.rows-rows.ensures.sequence.sound

pub returns : goal.returns
returns g c =
    let o = g.S.Sequence.seen c.args.s.now in let k = g.S.Rows.Walked.seen c.rows-rows.result.now in let r = c.rows-rows.ensures in
    find_looks (guards_of o) o.object.limit o.object.capacity k o.object r.object r.sequence.sound g.T.Elem.is_same c.args.e.now c.args.b
    c.start_of-start.result c.found_from.result c.named.result (sym c.may.ensures ∙ (allowed_none c.may.result c.in_ok-allowed.ensures)) c.start_of-start.ensures (c.found_from.ensures) c.named.ensures

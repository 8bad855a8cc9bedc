use Rattle.std.proofs.Common.{sym, ◌∙◌}
use Rattle.ac_model.proofs.Reasons.{allowed_none}
use Rattle.ac_chain.proofs.SequenceFinds.{end_live, reverse_find_looks}
use Rattle.ac_model.specs.Containers.{guards_of}
use Rattle.ac_chain.proofs.calls.finding.reverse_find.Goals as goal

pub found_back-requires-clause-from : goal.found_back-requires-clause-from
found_back-requires-clause-from g c =
    let o = g.S.Sequence.seen c.args.s.now in let k = g.S.Rows.Walked.seen c.rows-rows.result.now in let r = c.rows-rows.ensures in
    end_live (guards_of o) o.object.limit o.object.capacity k o.object r.object r.sequence.sound c.args.b c.end_of-end.result (sym c.may.ensures ∙ (allowed_none c.may.result c.in_ok-allowed.ensures)) c.end_of-end.ensures

pub found_back-requires-clause-sound : goal.found_back-requires-clause-sound
found_back-requires-clause-sound g c = c.rows-rows.ensures.sequence.sound

pub returns : goal.returns
returns g c =
    let o = g.S.Sequence.seen c.args.s.now in let k = g.S.Rows.Walked.seen c.rows-rows.result.now in let r = c.rows-rows.ensures in
    reverse_find_looks (guards_of o) o.object.limit o.object.capacity k o.object r.object r.sequence.sound g.T.Elem.is_same c.args.e.now c.args.b
    c.end_of-end.result c.found_back.result c.named.result (sym c.may.ensures ∙ (allowed_none c.may.result c.in_ok-allowed.ensures)) c.end_of-end.ensures (c.found_back.ensures) c.named.ensures

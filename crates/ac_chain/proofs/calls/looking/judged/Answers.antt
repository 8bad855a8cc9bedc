use Rattle.std.proofs.Common.{ap, ◌∙◌}
use Rattle.ac_base.specs.Guards.{GuardCounts}
use Rattle.ac_chain.proofs.SequenceLooks as looks
use Rattle.ac_model.specs.Containers.{guards_of}
use Rattle.ac_chain.proofs.calls.looking.judged.Goals as goal

pub returns : goal.returns
returns g c =
    let o = g.S.Sequence.seen c.args.s.now in let k = g.S.Rows.Walked.seen c.rows.result.now in let r = c.rows.ensures in
    looks.judged (guards_of o) o.object.limit o.object.capacity k o.object r.object c.number.result c.args.object c.args.name c.is_live.result c.judge.result
    (c.number.ensures ∙ ap (λ (x : GuardCounts). x.number) c.guards.ensures) c.is_live.ensures.live c.judge.ensures

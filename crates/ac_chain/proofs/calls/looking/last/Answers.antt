use Rattle.ac_chain.proofs.SequenceLooks.{marks_last}
use Rattle.ac_model.specs.Containers.{guards_of}
use Rattle.ac_chain.proofs.calls.looking.last.Goals as goal

pub returns : goal.returns
returns g c =
    let o = g.S.Sequence.seen c.args.s.now in let k = g.S.Rows.Walked.seen c.rows.result.now in let r = c.rows.ensures in
    marks_last (guards_of o) o.object.limit o.object.capacity k o.object r.object c.last.result c.named.result c.last.ensures.name c.named.ensures

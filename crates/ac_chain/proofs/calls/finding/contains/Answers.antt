use Rattle.ac_chain.proofs.Finds.{first_live}
use Rattle.ac_chain.proofs.SequenceFinds.{contains_is}
use Rattle.ac_model.specs.Containers.{guards_of}
use Rattle.ac_chain.proofs.calls.finding.contains.Goals as goal

pub found_from-requires-clause-from : goal.found_from-requires-clause-from
found_from-requires-clause-from g c = first_live (g.S.Rows.Walked.seen c.rows-rows.result.now) c.first-first.result 0 c.first-first.ensures.name

pub found_from-requires-clause-sound : goal.found_from-requires-clause-sound
found_from-requires-clause-sound g c = c.rows-rows.ensures.sequence.sound

pub returns : goal.returns
returns g c =
    let o = g.S.Sequence.seen c.args.s.now in let k = g.S.Rows.Walked.seen c.rows-rows.result.now in let r = c.rows-rows.ensures in
    contains_is (guards_of o) o.object.limit o.object.capacity k o.object r.object g.T.Elem.is_same c.args.e.now
    c.first-first.result c.found_from.result c.is_some.result c.first-first.ensures.name (c.found_from.ensures) c.is_some.ensures

use Rattle.ac_chain.proofs.SequenceLooks.{live_name, first_element_looks, first_element_empty}
use Rattle.ac_model.specs.Containers.{guards_of}
use Rattle.ac_chain.proofs.calls.looking.first_element.Goals as goal

pub at-requires : goal.at-requires
at-requires g c =
    let o = g.S.Sequence.seen c.args.s.now in let k = g.S.Rows.Walked.seen c.rows-rows.result.now in let r = c.rows-rows.ensures in
    live_name (guards_of o) o.object.limit o.object.capacity k o.object r.object 0 c.in-Some.name r.sequence.sound c.in-Some.ensures.name

pub returns-in-Some : goal.returns-in-Some
returns-in-Some g c =
    let o = g.S.Sequence.seen c.args.s.now in let k = g.S.Rows.Walked.seen c.rows-rows.result.now in let r = c.rows-rows.ensures in
    first_element_looks (guards_of o) o.object.limit o.object.capacity k o.object r.object c.in-Some.name c.at.result r.sequence.sound c.in-Some.ensures.name c.at.ensures.value

pub returns-in-None : goal.returns-in-None
returns-in-None g c =
    let o = g.S.Sequence.seen c.args.s.now in let k = g.S.Rows.Walked.seen c.rows-rows.result.now in let r = c.rows-rows.ensures in
    first_element_empty (guards_of o) o.object.limit o.object.capacity k o.object r.object c.in-None.ensures.name

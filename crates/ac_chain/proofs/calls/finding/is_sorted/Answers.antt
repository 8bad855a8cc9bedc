use Rattle.std.proofs.Common.{ap, ◌∙◌}
use Rattle.ac_model.specs.Rows as model
use Rattle.ac_chain.proofs.SequenceCompares.{contents_are, none_ascends}
use Rattle.ac_model.specs.Containers.{guards_of}
use Rattle.ac_chain.proofs.calls.finding.is_sorted.Goals as goal

pub is_ascending-requires-clause-sound : goal.is_ascending-requires-clause-sound
is_ascending-requires-clause-sound g c = c.rows-rows.ensures.sequence.sound

pub returns-in-Some : goal.returns-in-Some
returns-in-Some g c =
    let o = g.S.Sequence.seen c.args.s.now in let k = g.S.Rows.Walked.seen c.rows-rows.result.now in let r = c.rows-rows.ensures in
    c.is_ascending.ensures ∙ ap (model.is_ascending g.T.Rank.is_less) (contents_are (guards_of o) o.object.limit o.object.capacity k o.object r.object)

pub returns-in-None : goal.returns-in-None
returns-in-None g c =
    let o = g.S.Sequence.seen c.args.s.now in let k = g.S.Rows.Walked.seen c.rows-rows.result.now in let r = c.rows-rows.ensures in
    none_ascends (guards_of o) o.object.limit o.object.capacity k o.object r.object g.T.Rank.is_less c.in-None.ensures.name

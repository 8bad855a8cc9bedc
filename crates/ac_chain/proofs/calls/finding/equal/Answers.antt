use Rattle.std.proofs.Common.{◌∙◌}
use Rattle.ac_model.specs.Sequences.{are_equal}
use Rattle.ac_chain.proofs.SequenceCompares.{contents_are}
use Rattle.ac_model.specs.Containers.{guards_of}
use Rattle.ac_chain.proofs.calls.finding.equal.Goals as goal

pub returns : goal.returns
returns g c =
    let o = g.S.Sequence.seen c.args.left.now in let p = g.S.Sequence.seen c.args.right.now in
    let left = contents_are (guards_of o) o.object.limit o.object.capacity (g.S.Rows.Walked.seen c.rows.result.now) o.object c.rows.ensures.object in
    let right = contents_are (guards_of p) p.object.limit p.object.capacity (g.S.Rows.Walked.seen c.rows-2.result.now) p.object c.rows-2.ensures.object in
    c.are_equal.ensures ∙ (λ t. are_equal g.T.Elem.is_same (left t) (right t))

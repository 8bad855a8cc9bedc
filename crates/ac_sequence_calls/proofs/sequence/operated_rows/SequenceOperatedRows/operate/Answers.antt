use Rattle.ac_calls.specs.Replied.{told}
use Rattle.ac_sequence_calls.specs.declared.sequence.Sequence.TheVariants.{List, Vector}
use Rattle.ac_sequence_calls.proofs.EitherOperations.{operated}
use Rattle.ac_sequence_calls.proofs.sequence.operated_rows.SequenceOperatedRows.operate.Goals as goal

pub returns-in-List-clause-replied : goal.returns-in-List-clause-replied
returns-in-List-clause-replied g c =
    let list = g.L.SequenceLike.seen in
    let vector = g.V.SequenceLike.seen in
    let call = c.operate_list in
    operated list vector g.L.Element.ScriptElement.tools c.args.operation c.args.args.now c.args.self.now (List c.in-List.list)
    (list call.new.list.sequence) (told call.new.reply call.result) c.in-List.is c.requires.agree call.ensures

pub returns-in-Vector-clause-replied : goal.returns-in-Vector-clause-replied
returns-in-Vector-clause-replied g c =
    let list = g.L.SequenceLike.seen in
    let vector = g.V.SequenceLike.seen in
    let call = c.operate_vector in
    operated list vector g.L.Element.ScriptElement.tools c.args.operation c.args.args.now c.args.self.now (Vector c.in-Vector.vector)
    (vector call.new.vector.sequence) (told call.new.reply call.result) c.in-Vector.is c.requires.agree call.ensures

use Rattle.ac_calls.specs.Replied.{told}
use Rattle.ac_sequence_calls.specs.declared.sequence.Sequence.TheVariants.{List, Vector}
use Rattle.ac_sequence_calls.proofs.EitherOperations.{operated_with}
use Rattle.ac_sequence_calls.proofs.sequence.operated_rows.SequenceOperatedRows.operate_with.Goals as goal

pub returns-in-List-source-clause-replied : goal.returns-in-List-source-clause-replied
returns-in-List-source-clause-replied g c =
    let list = g.L.SequenceLike.seen in
    let vector = g.V.SequenceLike.seen in
    let call = c.operate_list_with in
    operated_with list vector g.L.Element.ScriptElement.tools c.args.operation c.args.args.now
    c.args.self.now (List c.in-List.list) c.args.source.now (List c.in-List-source.other)
    (list call.new.list.sequence) (list call.new.source.sequence) (told call.new.reply call.result) c.in-List.is c.in-List-source.is
    c.requires.agree c.requires.agree_with_source call.ensures

pub returns-in-Vector-source-2-clause-replied : goal.returns-in-Vector-source-2-clause-replied
returns-in-Vector-source-2-clause-replied g c =
    let list = g.L.SequenceLike.seen in
    let vector = g.V.SequenceLike.seen in
    let call = c.operate_vector_with in
    operated_with list vector g.L.Element.ScriptElement.tools c.args.operation c.args.args.now
    c.args.self.now (Vector c.in-Vector.vector) c.args.source.now (Vector c.in-Vector-source-2.other)
    (vector call.new.vector.sequence) (vector call.new.source.sequence) (told call.new.reply call.result) c.in-Vector.is c.in-Vector-source-2.is
    c.requires.agree c.requires.agree_with_source call.ensures

use Rattle.std.proofs.Common.{◌∙◌}
use Rattle.ac_aggregate.specs.Reading.{question}
use Rattle.ac_aggregate.proofs.Steps.{stepped, behind}
use Rattle.ac_aggregate.proofs.part_reader.whole.Goals as goal

pub returns-in-Some : goal.returns-in-Some
returns-in-Some c =
    rw (stepped c.args.steps question c.args.tokens.now c.if-steps-eq0.false ∙ behind _ _ _ _ (rw c.in-Some.is at c.in_ok-s.ensures)) c.question_of.ensures

use Rattle.std.proofs.Common.{rules, subst, sym}
use Rattle.ac_model.specs.Objects.{plain}
use Rattle.ac_calls.specs.Arguments.{marked}
use Rattle.ac_calls.specs.Holdings.{of_vector}
use Rattle.ac_calls.specs.Replied.{IsMade, told}
use Rattle.ac_calls.specs.Replies.{itself}
use Rattle.ac_calls.proofs.Made.{unchanged}
use Rattle.ac_sequence_calls.specs.SequenceCalls.{SequenceOperated, SequenceReplied}
use Rattle.ac_sequence_calls.proofs.SequenceOperations.{none_of_vector}
use Rattle.ac_sequence_calls.proofs.sequence_operations.operate_vector.Goals as goal

pub returns-in-Sequence : goal.returns-in-Sequence
returns-in-Sequence g c =
    let tools = g.V.Element.ScriptElement.tools in
    let seen = g.V.SequenceLike.seen in
    let old = seen c.args.vector.now.sequence in
    let call = c.sequence_call in
    let now = seen call.new.sequence in
    let made = told call.new.reply call.result in
    subst (λ op. SequenceOperated tools of_vector op c.args.args.now old now made) (sym c.in-Sequence.is)
    (subst (λ b. SequenceReplied tools b c.in-Sequence.call c.args.args.now old now made) g.met.V.VectorLike.keeps_names call.ensures)

pub returns-in_default : goal.returns-in_default
returns-in_default g c =
    let old = g.V.SequenceLike.seen c.args.vector.now.sequence in
    let none = c.in_default in
    subst (λ r. IsMade r old old c.says.result)
    (sym (none_of_vector g.V.Element.ScriptElement.tools (plain old.object) itself (marked old.object c.args.args.now) c.args.operation
    none.not-Common none.not-Sequence none.not-Capacity none.not-Vector))
    (record {
      goes = search rules;
      reason = search rules;
      after = unchanged old.object;
      source = search rules;
      says = search (rules, c.says.ensures.said);
      variable = search (rules, c.says.ensures.variable);
    })

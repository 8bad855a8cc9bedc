use Rattle.std.proofs.Common.{rules, refl, subst, sym}
use Rattle.ac_model.specs.Objects.{plain}
use Rattle.ac_calls.specs.Arguments.{marked}
use Rattle.ac_calls.specs.Holdings.{of_vector}
use Rattle.ac_calls.specs.Replied.{IsMadeWith, told}
use Rattle.ac_calls.specs.Replies.{another}
use Rattle.ac_calls.proofs.Made.{unchanged}
use Rattle.ac_sequence_calls.specs.SequenceCalls.{SequenceOperatedWith, SequenceRepliedWith}
use Rattle.ac_sequence_calls.proofs.SequenceOperations.{none_of_vector}
use Rattle.ac_sequence_calls.proofs.sequence_operations.operate_vector_with.Goals as goal

pub returns-in-Sequence : goal.returns-in-Sequence
returns-in-Sequence g c =
    let tools = g.V.Element.ScriptElement.tools in
    let seen = g.V.SequenceLike.seen in
    let old = seen c.args.vector.now.sequence in
    let source = seen c.args.source.now.sequence in
    let call = c.sequence_call_with in
    let now = seen call.new.sequence in
    let source_now = seen call.new.source in
    let made = told call.new.reply call.result in
    subst (λ op. SequenceOperatedWith tools of_vector op c.args.args.now old source now source_now made) (sym c.in-Sequence.is)
    (subst (λ b. SequenceRepliedWith tools b c.in-Sequence.call c.args.args.now old source now source_now made) g.met.V.VectorLike.keeps_names call.ensures)

pub returns-in_default : goal.returns-in_default
returns-in_default g c =
    let old = g.V.SequenceLike.seen c.args.vector.now.sequence in
    let source = g.V.SequenceLike.seen c.args.source.now.sequence in
    let none = c.in_default in
    subst (λ r. IsMadeWith r old source old source c.says.result)
    (sym (none_of_vector g.V.Element.ScriptElement.tools (plain old.object) (another (plain source.object) (marked source.object c.args.args.now))
    (marked old.object c.args.args.now) c.args.operation none.not-Common none.not-Sequence none.not-Capacity none.not-Vector))
    (record {
      goes = search rules;
      reason = search rules;
      after = unchanged old.object;
      source_after = refl;
      says = search (rules, c.says.ensures.said);
      variable = search (rules, c.says.ensures.variable);
    })

use Rattle.std.proofs.Common.{rules, subst, sym}
use Rattle.ac_model.specs.Objects.{plain}
use Rattle.ac_calls.specs.Arguments.{marked}
use Rattle.ac_calls.specs.Holdings.{of_list}
use Rattle.ac_calls.specs.Replied.{IsMade, told}
use Rattle.ac_calls.specs.Replies.{itself}
use Rattle.ac_calls.proofs.Made.{unchanged}
use Rattle.ac_sequence_calls.specs.SequenceCalls.{SequenceOperated, SequenceReplied}
use Rattle.ac_sequence_calls.proofs.SequenceOperations.{none_of_list}
use Rattle.ac_sequence_calls.proofs.sequence_operations.operate_list.Goals as goal

pub returns-in-Sequence : goal.returns-in-Sequence
returns-in-Sequence g c =
    let tools = g.L.Element.ScriptElement.tools in
    let seen = g.L.SequenceLike.seen in
    let old = seen c.args.list.now.sequence in
    let call = c.sequence_call in
    let now = seen call.new.sequence in
    let made = told call.new.reply call.result in
    subst (λ op. SequenceOperated tools of_list op c.args.args.now old now made) (sym c.in-Sequence.is)
    (subst (λ b. SequenceReplied tools b c.in-Sequence.call c.args.args.now old now made) g.met.L.ListLike.moves_names call.ensures)

pub returns-in_default : goal.returns-in_default
returns-in_default g c =
    let old = g.L.SequenceLike.seen c.args.list.now.sequence in
    let none = c.in_default in
    subst (λ r. IsMade r old old c.says.result)
    (sym (none_of_list g.L.Element.ScriptElement.tools (plain old.object) itself (marked old.object c.args.args.now) c.args.operation
    none.not-Common none.not-Sequence none.not-List))
    (record {
      goes = search rules;
      reason = search rules;
      after = unchanged old.object;
      source = search rules;
      says = search (rules, c.says.ensures.said);
      variable = search (rules, c.says.ensures.variable);
    })

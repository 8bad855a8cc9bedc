-- The calls of lists on objects of a script.
use Rattle.std.specs.Prelude.{ℕ}
use Rattle.ac_model.specs.Objects.{Object}
use Rattle.ac_model.specs.Lists as list
use Rattle.ac_syntax.specs.declared.operation.Operation.{Operation}
use Rattle.ac_syntax.specs.declared.operation.Operation.TheVariants as operation
use Rattle.ac_syntax.specs.declared.operation.ListCall.{ListCall}
use Rattle.ac_syntax.specs.declared.operation.ListCall.TheVariants as list_call
use Rattle.ac_calls.specs.Elements.{Tools}
use Rattle.ac_calls.specs.Answers.{answers_ok}
use Rattle.ac_calls.specs.Replies.{Arguments, Source, by_source, Reply, changes_ok, changes_variable, changes_both, changes_both_variable, tells}
use Rattle.ac_calls.specs.SequenceReplies.{sequence_own, common_reply, sequence_reply}

module _ {T : Type 0} (tools : Tools T) (o : Object ℕ T) (source : Source (Object ℕ T)) (args : Arguments) where
  abbrev pub list_alone_reply : ListCall → Reply (Object ℕ T)
  list_alone_reply list_call.SwapLinks = changes_ok (list.swap_links_call o args.first.cursor args.second.cursor)
  list_alone_reply list_call.Splice =
      by_source source (changes_ok (list.splice_self_call o args.first.cursor)) (λ s _. changes_both (list.splice_call o args.first.cursor s))
  list_alone_reply list_call.SpliceOne =
      by_source source (changes_variable 2 (list.splice_one_self_call o args.first.cursor args.third.cursor))
      (λ s seen_args. changes_both_variable 2 (list.splice_one_call o args.first.cursor s seen_args.third.cursor))
  list_alone_reply list_call.SpliceWithin = changes_ok (list.splice_within_call o args.first.cursor args.second.cursor)

  -- an operation of another kind's objects is none of a list's
  abbrev pub list_reply : Operation → Reply (Object ℕ T)
  list_reply (operation.Common c) = common_reply o source args (sequence_own tools o) c
  list_reply (operation.Sequence c) = sequence_reply tools o source args (list.reverse_elements_call o) (list.sort_call tools.less o) c
  list_reply (operation.List c) = list_alone_reply c
  list_reply _ = tells o answers_ok

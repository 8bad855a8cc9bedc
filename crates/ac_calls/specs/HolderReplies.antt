-- The calls of holders on objects of a script, and what a name that stands for a holder's element means.
use Rattle.std.specs.Prelude.{◌==◌, List, ℕ, Option, Some, None, option_to_list, if◌then◌else◌}
use Rattle.ac_base.specs.declared.value.Value.{Value}
use Rattle.ac_model.specs.Calls.{Call, Look, Done}
use Rattle.ac_model.specs.Holders as holder
use Rattle.ac_model.specs.Holders.{Holder}
use Rattle.ac_syntax.specs.Canonical.{literal_text}
use Rattle.ac_syntax.specs.declared.operation.Operation.{Operation}
use Rattle.ac_syntax.specs.declared.operation.Operation.TheVariants as operation
use Rattle.ac_syntax.specs.declared.operation.HolderCall.{HolderCall}
use Rattle.ac_syntax.specs.declared.operation.HolderCall.TheVariants as holder_call
use Rattle.ac_calls.specs.Elements.{Tools}
use Rattle.ac_calls.specs.Answers.{answers_ok, answers_truth, answers_list}
use Rattle.ac_calls.specs.Listings.{bracketed}
use Rattle.ac_calls.specs.Replies.{Arguments, Source, without, itself, another, by_source, Reply, changes_ok, changes_both, looks, tells, value_answer, as_value}

-- where a holder of its kind is named, it is the source. No argument is a cursor, so that it sees all of them as they are
abbrev pub holder_source : {T : Type 0} → Holder T → Option (Holder T) → Arguments → Source (Holder T)
holder_source h None args = without
holder_source h (Some s) args = if h.number == s.number then itself else another s args

module _ {T : Type 0} (tools : Tools T) where
  -- Element, as a value: what a name that stands for the element is, and why the head of a view is refused
  abbrev pub holder_element : Holder T → Look (Option Value)
  holder_element h = as_value tools (holder.element_call h)

  -- a write through such a name
  abbrev pub holder_write : Holder T → Value → Call (Holder T) Done
  holder_write h v = holder.write_call tools.size h (tools.from_value v)

  -- the text that Print answers
  abbrev pub holder_listing : Holder T → List ℕ
  holder_listing h = bracketed (λ e. literal_text (tools.to_value e)) (option_to_list h.element)

module _ {T : Type 0} (tools : Tools T) (h : Holder T) (source : Source (Holder T)) (args : Arguments) where
  abbrev pub holder_alone_reply : HolderCall → Reply (Holder T)
  holder_alone_reply holder_call.IsEmpty = tells h (answers_truth (holder.is_empty_call h))
  holder_alone_reply holder_call.Element = looks h value_answer (holder_element tools h)
  holder_alone_reply holder_call.ReplaceElement =
      changes_ok (holder.replace_element_call tools.size h (tools.from_value args.first.value))
  holder_alone_reply holder_call.Clear = changes_ok (holder.clear_call h)
  holder_alone_reply holder_call.Assign =
      by_source source (changes_ok (holder.assign_self_call h)) (λ s _. changes_ok (holder.assign_call tools.size h s))
  holder_alone_reply holder_call.MoveFrom =
      by_source source (changes_ok (holder.move_from_self_call h)) (λ s _. changes_both (holder.move_from_call tools.size h s))
  holder_alone_reply holder_call.Swap =
      by_source source (changes_ok (holder.swap_self_call h)) (λ s _. changes_both (holder.swap_call tools.size h s))
  holder_alone_reply holder_call.Equal = tells h (answers_truth (holder.equal_call tools.same h (by_source source h (λ s _. s))))
  holder_alone_reply holder_call.Print = tells h (answers_list (holder_listing tools h))

  -- an operation of another kind's objects is none of a holder's
  abbrev pub holder_reply : Operation → Reply (Holder T)
  holder_reply (operation.Holder c) = holder_alone_reply c
  holder_reply _ = tells h answers_ok

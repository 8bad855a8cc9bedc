-- The calls of vectors and lists, and those that all kinds with rows have, on objects of a script.
use Rattle.std.specs.Prelude.{ℕ, Bool, List, Option}
use Rattle.ac_base.specs.declared.value.Value.{Value}
use Rattle.ac_model.specs.Objects.{Object, contents}
use Rattle.ac_model.specs.Letters.{Mark}
use Rattle.ac_model.specs.Calls.{Call, Look, Done}
use Rattle.ac_model.specs.Common as common
use Rattle.ac_model.specs.Sequences as sequence
use Rattle.ac_syntax.specs.Canonical.{literal_text}
use Rattle.ac_syntax.specs.declared.operation.CommonCall.{CommonCall}
use Rattle.ac_syntax.specs.declared.operation.CommonCall.TheVariants as common_call
use Rattle.ac_syntax.specs.declared.operation.CapacityCall.{CapacityCall}
use Rattle.ac_syntax.specs.declared.operation.CapacityCall.TheVariants as capacity_call
use Rattle.ac_syntax.specs.declared.operation.SequenceCall.{SequenceCall}
use Rattle.ac_syntax.specs.declared.operation.SequenceCall.TheVariants as sequence_call
use Rattle.ac_calls.specs.Elements.{Tools}
use Rattle.ac_calls.specs.Answers.{answers_integer, answers_truth, answers_place, answers_list}
use Rattle.ac_calls.specs.Listings.{bracketed}
use Rattle.ac_calls.specs.Replies.{Arguments, Source, by_source, Reply, changes_ok, changes_variable, changes_both, looks, tells, value_answer, as_value}

-- the calls on an object that each kind means in its own way. A value of the script stands for an element
pub record OwnCalls (V : Type 0) : Type 0 where
  pub equal : Object ℕ V → Bool
  pub element : Mark → Look (Option Value)
  pub replace_element : Mark → Value → Call (Object ℕ V) Done
  -- through a name that stands for the element
  pub write : Mark → Value → Call (Object ℕ V) Done
  pub listing : List ℕ

abbrev pub sequence_own : {T : Type 0} → Tools T → Object ℕ T → OwnCalls T
sequence_own tools o = record {
  equal = λ s. sequence.equal_call tools.same o s;
  element = λ c. as_value tools (sequence.element_call o c);
  replace_element = λ c v. sequence.replace_element_call o c (tools.from_value v);
  write = λ c v. sequence.write_call o c (tools.from_value v);
  listing = bracketed (λ e. literal_text (tools.to_value e)) (contents o);
}

module _ {V : Type 0} (o : Object ℕ V) (source : Source (Object ℕ V)) (args : Arguments) where
  -- of all kinds with rows
  abbrev pub common_reply : OwnCalls V → CommonCall → Reply (Object ℕ V)
  common_reply own common_call.IsEmpty = tells o (answers_truth (common.is_empty_call o))
  common_reply own common_call.Clear = changes_ok (common.clear_call o)
  common_reply own common_call.Assign = by_source source (changes_ok (common.assign_self_call o)) (λ s _. changes_ok (common.assign_call o s))
  common_reply own common_call.MoveFrom =
      by_source source (changes_ok (common.move_from_self_call o)) (λ s _. changes_both (common.move_from_call o s))
  common_reply own common_call.Equal = tells o (answers_truth (own.equal (by_source source o (λ s _. s))))
  common_reply own common_call.HasElement = tells o (answers_truth (common.has_element_call o args.first.cursor))
  common_reply own common_call.Element = looks o value_answer (own.element args.first.cursor)
  common_reply own common_call.ReplaceElement = changes_ok (own.replace_element args.first.cursor args.second.value)
  common_reply own common_call.Print = tells o (answers_list own.listing)
  common_reply own common_call.Length = tells o (answers_integer (common.length_call o))

module _ {V : Type 0} (o : Object ℕ V) (args : Arguments) where
  -- of what has a Capacity
  abbrev pub capacity_reply : CapacityCall → Reply (Object ℕ V)
  capacity_reply capacity_call.Capacity = tells o (answers_integer (common.capacity_call o))
  capacity_reply capacity_call.ReserveCapacity = changes_ok (common.reserve_capacity_call o args.first.count)

module _ {T : Type 0} (tools : Tools T) (o : Object ℕ T) (source : Source (Object ℕ T)) (args : Arguments) where
  -- of vectors and lists. `reverses` and `sorts` are what differs between the two
  abbrev pub sequence_reply : (reverses sorts : Call (Object ℕ T) Done) → SequenceCall → Reply (Object ℕ T)
  sequence_reply reverses sorts sequence_call.Append = changes_ok (sequence.append_call o (tools.from_value args.first.value) args.second.count)
  sequence_reply reverses sorts sequence_call.Prepend = changes_ok (sequence.prepend_call o (tools.from_value args.first.value) args.second.count)
  sequence_reply reverses sorts sequence_call.Insert =
      changes_ok (sequence.insert_call o args.first.cursor (tools.from_value args.second.value) args.third.count)
  sequence_reply reverses sorts sequence_call.InsertPos =
      changes_variable 2 (sequence.insert_pos_call o args.first.cursor (tools.from_value args.second.value) args.fourth.count)
  sequence_reply reverses sorts sequence_call.Delete = changes_variable 0 (sequence.delete_call o args.first.cursor args.second.count)
  sequence_reply reverses sorts sequence_call.DeleteFirst = changes_ok (sequence.delete_first_call o args.first.count)
  sequence_reply reverses sorts sequence_call.DeleteLast = changes_ok (sequence.delete_last_call o args.first.count)
  sequence_reply reverses sorts sequence_call.First = tells o (answers_place (sequence.first_call o))
  sequence_reply reverses sorts sequence_call.Last = tells o (answers_place (sequence.last_call o))
  sequence_reply reverses sorts sequence_call.FirstElement = looks o value_answer (as_value tools (sequence.first_element_call o))
  sequence_reply reverses sorts sequence_call.LastElement = looks o value_answer (as_value tools (sequence.last_element_call o))
  sequence_reply reverses sorts sequence_call.Next = looks o answers_place (sequence.next_call o args.first.cursor)
  sequence_reply reverses sorts sequence_call.Previous = looks o answers_place (sequence.previous_call o args.first.cursor)
  sequence_reply reverses sorts sequence_call.Find =
      looks o answers_place (sequence.find_call tools.same o (tools.from_value args.first.value) args.second.cursor)
  sequence_reply reverses sorts sequence_call.ReverseFind =
      looks o answers_place (sequence.reverse_find_call tools.same o (tools.from_value args.first.value) args.second.cursor)
  sequence_reply reverses sorts sequence_call.Contains = tells o (answers_truth (sequence.contains_call tools.same o (tools.from_value args.first.value)))
  sequence_reply reverses sorts sequence_call.Swap = changes_ok (sequence.swap_call o args.first.cursor args.second.cursor)
  sequence_reply reverses sorts sequence_call.ReverseElements = changes_ok reverses
  sequence_reply reverses sorts sequence_call.Sort = changes_ok sorts
  sequence_reply reverses sorts sequence_call.IsSorted = tells o (answers_truth (sequence.is_sorted_call tools.less o))
  sequence_reply reverses sorts sequence_call.Merge =
      by_source source (changes_ok (sequence.merge_self_call o)) (λ s _. changes_both (sequence.merge_call tools.less o s))

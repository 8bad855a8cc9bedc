-- The calls of vectors on objects of a script.
use Rattle.std.specs.Prelude.{ℕ}
use Rattle.ac_model.specs.Objects.{Object}
use Rattle.ac_model.specs.Vectors as vector
use Rattle.ac_syntax.specs.declared.operation.Operation.{Operation}
use Rattle.ac_syntax.specs.declared.operation.Operation.TheVariants as operation
use Rattle.ac_syntax.specs.declared.operation.VectorCall.{VectorCall}
use Rattle.ac_syntax.specs.declared.operation.VectorCall.TheVariants as vector_call
use Rattle.ac_calls.specs.Elements.{Tools}
use Rattle.ac_calls.specs.Answers.{answers_ok, answers_integer, answers_place}
use Rattle.ac_calls.specs.Replies.{Arguments, Source, by_source, Reply, changes_ok, changes_variable, looks, tells, value_answer, as_value}
use Rattle.ac_calls.specs.SequenceReplies.{sequence_own, common_reply, sequence_reply, capacity_reply}

module _ {T : Type 0} (tools : Tools T) (o : Object ℕ T) (source : Source (Object ℕ T)) (args : Arguments) where
  -- a copy of the vector itself is one of its elements as they stand before the call
  abbrev pub vector_alone_reply : VectorCall → Reply (Object ℕ T)
  vector_alone_reply vector_call.SetLength = changes_ok (vector.set_length_call o tools.blank args.first.count)
  vector_alone_reply vector_call.ToCursor = tells o (answers_place (vector.to_cursor_call o args.first.count))
  vector_alone_reply vector_call.ToIndex = looks o answers_integer (vector.to_index_call o args.first.cursor)
  vector_alone_reply vector_call.FirstIndex = tells o (answers_integer (vector.first_index_call o))
  vector_alone_reply vector_call.LastIndex = tells o (answers_integer (vector.last_index_call o))
  vector_alone_reply vector_call.ElementIndex = looks o value_answer (as_value tools (vector.element_index_call o args.first.count))
  vector_alone_reply vector_call.ReplaceIndex =
      changes_ok (vector.replace_index_call o args.first.count (tools.from_value args.second.value))
  vector_alone_reply vector_call.SwapIndex = changes_ok (vector.swap_index_call o args.first.count args.second.count)
  vector_alone_reply vector_call.InsertIndex =
      changes_ok (vector.insert_index_call o args.first.count (tools.from_value args.second.value) args.third.count)
  vector_alone_reply vector_call.InsertVectorIndex =
      by_source source (changes_ok (vector.insert_vector_index_call o args.first.count o))
      (λ s _. changes_ok (vector.insert_vector_index_call o args.first.count s))
  vector_alone_reply vector_call.InsertVector =
      by_source source (changes_ok (vector.insert_vector_call o args.first.cursor o))
      (λ s _. changes_ok (vector.insert_vector_call o args.first.cursor s))
  vector_alone_reply vector_call.InsertVectorPos =
      by_source source (changes_variable 2 (vector.insert_vector_pos_call o args.first.cursor o))
      (λ s _. changes_variable 2 (vector.insert_vector_pos_call o args.first.cursor s))
  vector_alone_reply vector_call.AppendVector =
      by_source source (changes_ok (vector.append_vector_call o o)) (λ s _. changes_ok (vector.append_vector_call o s))
  vector_alone_reply vector_call.PrependVector =
      by_source source (changes_ok (vector.prepend_vector_call o o)) (λ s _. changes_ok (vector.prepend_vector_call o s))
  vector_alone_reply vector_call.DeleteIndex = changes_ok (vector.delete_index_call o args.first.count args.second.count)
  vector_alone_reply vector_call.FindIndex =
      looks o answers_integer (vector.find_index_call tools.same o (tools.from_value args.first.value) args.second.count)
  vector_alone_reply vector_call.ReverseFindIndex =
      looks o answers_integer (vector.reverse_find_index_call tools.same o (tools.from_value args.first.value) args.second.last_index)

  -- an operation of another kind's objects is none of a vector's
  abbrev pub vector_reply : Operation → Reply (Object ℕ T)
  vector_reply (operation.Common c) = common_reply o source args (sequence_own tools o) c
  vector_reply (operation.Sequence c) =
      sequence_reply tools o source args (vector.reverse_elements_call o) (vector.sort_call tools.less o) c
  vector_reply (operation.Capacity c) = capacity_reply o args c
  vector_reply (operation.Vector c) = vector_alone_reply c
  vector_reply _ = tells o answers_ok

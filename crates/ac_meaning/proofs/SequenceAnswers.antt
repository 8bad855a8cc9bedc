-- What calls on lists and vectors answer is what the table says, and so are the answers of the calls that all kinds with rows have.
use Rattle.std.proofs.Common.{◌≡◌, ℕ, true, refl}
use Rattle.ac_model.specs.Calls.{Call, Done}
use Rattle.ac_model.specs.Letters.{Mark}
use Rattle.ac_model.specs.Lists as list
use Rattle.ac_model.specs.Objects.{Object}
use Rattle.ac_model.specs.Sequences as sequence
use Rattle.ac_model.specs.Vectors as vector
use Rattle.ac_syntax.specs.declared.kind.ElemKind.{ElemKind}
use Rattle.ac_syntax.specs.declared.operation.Operation.{Operation}
use Rattle.ac_syntax.specs.declared.operation.Operation.TheVariants as operation
use Rattle.ac_syntax.specs.declared.operation.CommonCall.{CommonCall}
use Rattle.ac_syntax.specs.declared.operation.CommonCall.TheVariants as common_call
use Rattle.ac_syntax.specs.declared.operation.SequenceCall.{SequenceCall}
use Rattle.ac_syntax.specs.declared.operation.SequenceCall.TheVariants as sequence_call
use Rattle.ac_syntax.specs.declared.operation.CapacityCall.{CapacityCall}
use Rattle.ac_syntax.specs.declared.operation.CapacityCall.TheVariants as capacity_call
use Rattle.ac_syntax.specs.declared.operation.VectorCall.{VectorCall}
use Rattle.ac_syntax.specs.declared.operation.VectorCall.TheVariants as vector_call
use Rattle.ac_syntax.specs.declared.operation.ListCall.{ListCall}
use Rattle.ac_syntax.specs.declared.operation.ListCall.TheVariants as list_call
use Rattle.ac_rules.specs.declared.rows.Answer.TheVariants as told
use Rattle.ac_rules.proofs.Apart.{neither}
use Rattle.ac_calls.specs.Elements.{Tools}
use Rattle.ac_calls.specs.Holdings.{SequenceKind, of_list, of_vector, reply_by}
use Rattle.ac_calls.specs.ListReplies.{list_alone_reply, list_reply}
use Rattle.ac_calls.specs.Replies.{Arguments, Source}
use Rattle.ac_calls.specs.SequenceReplies.{OwnCalls, sequence_own, common_reply, capacity_reply, sequence_reply}
use Rattle.ac_calls.specs.VectorReplies.{vector_alone_reply, vector_reply}
use Rattle.ac_meaning.specs.Suits.{is_own_of_sequence}
use Rattle.ac_meaning.specs.ValueTypes.{RepliesAs}
use Rattle.ac_meaning.proofs.AnswerParts.{by_source_as, Gives, Makes, gives, element_given, element_looked, some_looked, some_first, some_last, some_indexed}
use Rattle.ac_meaning.proofs.TableAnswers.{common_told, sequence_told, capacity_told, vector_told, told_of}

module _ {V : Type 0} (key element : ElemKind) (o : Object ℕ V) (source : Source (Object ℕ V)) (args : Arguments) where
  pub common_as : (own : OwnCalls V) → ((c : Mark) → Gives element (own.element c)) → (c : CommonCall) →
      RepliesAs key element (common_told c) (common_reply o source args own c)
  common_as own there common_call.IsEmpty = record { answer = λ none. tt }
  common_as own there common_call.Clear = record { answer = λ none. tt }
  common_as own there common_call.Assign =
      by_source_as key element told.Done source _ _ (record { answer = λ none. tt }) (λ s seen. record { answer = λ none. tt })
  common_as own there common_call.MoveFrom =
      by_source_as key element told.Done source _ _ (record { answer = λ none. tt }) (λ s seen. record { answer = λ none. tt })
  common_as own there common_call.Equal = record { answer = λ none. tt }
  common_as own there common_call.HasElement = record { answer = λ none. tt }
  common_as own there common_call.Element = element_given key element o (own.element args.first.cursor) (there args.first.cursor)
  common_as own there common_call.ReplaceElement = record { answer = λ none. tt }
  common_as own there common_call.Print = record { answer = λ none. tt }
  common_as own there common_call.Length = record { answer = λ none. refl }

  pub capacity_as : (c : CapacityCall) → RepliesAs key element (capacity_told c) (capacity_reply o args c)
  capacity_as capacity_call.Capacity = record { answer = λ none. refl }
  capacity_as capacity_call.ReserveCapacity = record { answer = λ none. tt }

module _ {T : Type 0} (key element : ElemKind) (tools : Tools T) (makes : Makes element tools) (o : Object ℕ T) (source : Source (Object ℕ T))
    (args : Arguments) where
  sequence_as : (reverses sorts : Call (Object ℕ T) Done) → (c : SequenceCall) →
      RepliesAs key element (sequence_told c) (sequence_reply tools o source args reverses sorts c)
  sequence_as reverses sorts sequence_call.Append = record { answer = λ none. tt }
  sequence_as reverses sorts sequence_call.Prepend = record { answer = λ none. tt }
  sequence_as reverses sorts sequence_call.Insert = record { answer = λ none. tt }
  sequence_as reverses sorts sequence_call.InsertPos = record { answer = λ none. tt }
  sequence_as reverses sorts sequence_call.Delete = record { answer = λ none. tt }
  sequence_as reverses sorts sequence_call.DeleteFirst = record { answer = λ none. tt }
  sequence_as reverses sorts sequence_call.DeleteLast = record { answer = λ none. tt }
  sequence_as reverses sorts sequence_call.First = record { answer = λ none. tt }
  sequence_as reverses sorts sequence_call.Last = record { answer = λ none. tt }
  sequence_as reverses sorts sequence_call.FirstElement =
      element_looked key element o tools makes (sequence.first_element_call o) (some_first o)
  sequence_as reverses sorts sequence_call.LastElement =
      element_looked key element o tools makes (sequence.last_element_call o) (some_last o)
  sequence_as reverses sorts sequence_call.Next = record { answer = λ none. tt }
  sequence_as reverses sorts sequence_call.Previous = record { answer = λ none. tt }
  sequence_as reverses sorts sequence_call.Find = record { answer = λ none. tt }
  sequence_as reverses sorts sequence_call.ReverseFind = record { answer = λ none. tt }
  sequence_as reverses sorts sequence_call.Contains = record { answer = λ none. tt }
  sequence_as reverses sorts sequence_call.Swap = record { answer = λ none. tt }
  sequence_as reverses sorts sequence_call.ReverseElements = record { answer = λ none. tt }
  sequence_as reverses sorts sequence_call.Sort = record { answer = λ none. tt }
  sequence_as reverses sorts sequence_call.IsSorted = record { answer = λ none. tt }
  sequence_as reverses sorts sequence_call.Merge =
      by_source_as key element told.Done source _ _ (record { answer = λ none. tt }) (λ s seen. record { answer = λ none. tt })

  element_there : (c : Mark) → Gives element ((sequence_own tools o).element c)
  element_there c = gives element tools makes (sequence.element_call o c) (some_looked o c)

  list_alone_as : (c : ListCall) → RepliesAs key element told.Done (list_alone_reply tools o source args c)
  list_alone_as list_call.SwapLinks = record { answer = λ none. tt }
  list_alone_as list_call.Splice =
      by_source_as key element told.Done source _ _ (record { answer = λ none. tt }) (λ s seen. record { answer = λ none. tt })
  list_alone_as list_call.SpliceOne =
      by_source_as key element told.Done source _ _ (record { answer = λ none. tt }) (λ s seen. record { answer = λ none. tt })
  list_alone_as list_call.SpliceWithin = record { answer = λ none. tt }

  list_as : (op : Operation) → is_own_of_sequence of_list op ≡ true → RepliesAs key element (told_of op) (list_reply tools o source args op)
  list_as (operation.Common c) own = common_as key element o source args (sequence_own tools o) element_there c
  list_as (operation.Sequence c) own = sequence_as (list.reverse_elements_call o) (list.sort_call tools.less o) c
  list_as (operation.List c) own = list_alone_as c
  list_as _ own = neither own

  vector_alone_as : (c : VectorCall) → RepliesAs key element (vector_told c) (vector_alone_reply tools o source args c)
  vector_alone_as vector_call.SetLength = record { answer = λ none. tt }
  vector_alone_as vector_call.ToCursor = record { answer = λ none. tt }
  vector_alone_as vector_call.ToIndex = record { answer = λ none. refl }
  vector_alone_as vector_call.FirstIndex = record { answer = λ none. refl }
  vector_alone_as vector_call.LastIndex = record { answer = λ none. refl }
  vector_alone_as vector_call.ElementIndex =
      element_looked key element o tools makes (vector.element_index_call o args.first.count) (some_indexed o args.first.count)
  vector_alone_as vector_call.ReplaceIndex = record { answer = λ none. tt }
  vector_alone_as vector_call.SwapIndex = record { answer = λ none. tt }
  vector_alone_as vector_call.InsertIndex = record { answer = λ none. tt }
  vector_alone_as vector_call.InsertVectorIndex =
      by_source_as key element told.Done source _ _ (record { answer = λ none. tt }) (λ s seen. record { answer = λ none. tt })
  vector_alone_as vector_call.InsertVector =
      by_source_as key element told.Done source _ _ (record { answer = λ none. tt }) (λ s seen. record { answer = λ none. tt })
  vector_alone_as vector_call.InsertVectorPos =
      by_source_as key element told.Done source _ _ (record { answer = λ none. tt }) (λ s seen. record { answer = λ none. tt })
  vector_alone_as vector_call.AppendVector =
      by_source_as key element told.Done source _ _ (record { answer = λ none. tt }) (λ s seen. record { answer = λ none. tt })
  vector_alone_as vector_call.PrependVector =
      by_source_as key element told.Done source _ _ (record { answer = λ none. tt }) (λ s seen. record { answer = λ none. tt })
  vector_alone_as vector_call.DeleteIndex = record { answer = λ none. tt }
  vector_alone_as vector_call.FindIndex = record { answer = λ none. refl }
  vector_alone_as vector_call.ReverseFindIndex = record { answer = λ none. refl }

  vector_as : (op : Operation) → is_own_of_sequence of_vector op ≡ true → RepliesAs key element (told_of op) (vector_reply tools o source args op)
  vector_as (operation.Common c) own = common_as key element o source args (sequence_own tools o) element_there c
  vector_as (operation.Sequence c) own = sequence_as (vector.reverse_elements_call o) (vector.sort_call tools.less o) c
  vector_as (operation.Capacity c) own = capacity_as key element o source args c
  vector_as (operation.Vector c) own = vector_alone_as c
  vector_as _ own = neither own

  pub sequences_as : (which : SequenceKind) (op : Operation) → is_own_of_sequence which op ≡ true →
      RepliesAs key element (told_of op) (reply_by tools o source args which op)
  sequences_as of_list op own = list_as op own
  sequences_as of_vector op own = vector_as op own

-- What replies read by the letters: calls on lists and vectors, and those that all kinds with rows have.
use Rattle.std.proofs.Common.{◌≡◌, ℕ, refl, ap, Option}
use Rattle.ac_base.specs.declared.value.Value.{Value}
use Rattle.ac_model.specs.Calls.{Call, Done}
use Rattle.ac_model.specs.Letters.{Mark}
use Rattle.ac_model.specs.Lists as list
use Rattle.ac_model.specs.Objects.{Object}
use Rattle.ac_model.specs.Sequences as sequence
use Rattle.ac_model.specs.Vectors as vector
use Rattle.ac_syntax.specs.declared.kind.ElemKind.{ElemKind}
use Rattle.ac_syntax.specs.declared.kind.ElemKind.TheVariants.{Integer, Str}
use Rattle.ac_syntax.specs.declared.operation.Operation.{Operation}
use Rattle.ac_syntax.specs.declared.operation.Operation.TheVariants as operation
use Rattle.ac_syntax.specs.declared.operation.CommonCall.{CommonCall}
use Rattle.ac_syntax.specs.declared.operation.CommonCall.TheVariants as common_call
use Rattle.ac_syntax.specs.declared.operation.SequenceCall.{SequenceCall}
use Rattle.ac_syntax.specs.declared.operation.SequenceCall.TheVariants as sequence_call
use Rattle.ac_syntax.specs.declared.operation.CapacityCall.{CapacityCall}
use Rattle.ac_syntax.specs.declared.operation.CapacityCall.TheVariants as capacity_call
use Rattle.ac_syntax.specs.declared.operation.VectorCall.{VectorCall}
use Rattle.ac_syntax.specs.declared.operation.VectorCall.TheVariants as vector_call
use Rattle.ac_syntax.specs.declared.operation.ListCall.{ListCall}
use Rattle.ac_syntax.specs.declared.operation.ListCall.TheVariants as list_call
use Rattle.ac_calls.specs.Answers.{answers_truth}
use Rattle.ac_calls.specs.Elements.{ElementOf, tools_of}
use Rattle.ac_calls.specs.Holdings.{SequenceKind, of_list, of_vector, reply_by}
use Rattle.ac_calls.specs.ListReplies.{list_alone_reply, list_reply}
use Rattle.ac_calls.specs.Replies.{Arguments, changes_ok, tells}
use Rattle.ac_calls.specs.SequenceReplies.{OwnCalls, sequence_own, common_reply, capacity_reply, sequence_reply}
use Rattle.ac_calls.specs.VectorReplies.{vector_alone_reply, vector_reply}
use Rattle.ac_meaning.specs.ReadsByLetter.{value_read}
use Rattle.ac_meaning.proofs.ReadParts.{Reads, reads_same, source_reads, other_reads}
use Rattle.ac_meaning.proofs.TableLetters.{common_letters, sequence_letters, capacity_letters, vector_letters, list_letters, letters_of}

module _ {V : Type 0} (key element : ElemKind) (see : Object ℕ V → Mark → Mark) (o : Object ℕ V) (given : Option (Object ℕ V)) (args : Arguments) where
  -- where an element is replaced by what is read of the value
  pub common_reads : (own : OwnCalls V) → ((c : Mark) (v : Value) → own.replace_element c v ≡ own.replace_element c (value_read element v)) →
      (c : CommonCall) → Reads key element (common_letters c) see o given args (λ source a. common_reply o source a own c)
  common_reads own h common_call.Assign = source_reads see o given _ _ _ _ _ (λ s. refl)
  common_reads own h common_call.MoveFrom = source_reads see o given _ _ _ _ _ (λ s. refl)
  common_reads own h common_call.Equal = other_reads see o given _ _ (λ s. tells o (answers_truth (own.equal s)))
  common_reads own h common_call.ReplaceElement = ap changes_ok (h (see o args.first.cursor) args.second.value)
  common_reads own h c = refl

  pub capacity_reads : (c : CapacityCall) → Reads key element (capacity_letters c) see o given args (λ source a. capacity_reply o a c)
  capacity_reads capacity_call.Capacity = refl
  capacity_reads capacity_call.ReserveCapacity = refl

sequence_reads : (e : ElemKind) (see : Object ℕ (ElementOf e) → Mark → Mark) (o : Object ℕ (ElementOf e)) (given : Option (Object ℕ (ElementOf e)))
    (args : Arguments) (reverses sorts : Call (Object ℕ (ElementOf e)) Done) (c : SequenceCall) →
    Reads e e (sequence_letters c) see o given args (λ source a. sequence_reply (tools_of e) o source a reverses sorts c)
sequence_reads e see o given args reverses sorts sequence_call.Merge = source_reads see o given _ _ _ _ _ (λ s. refl)
sequence_reads Integer see o given args reverses sorts c = refl
sequence_reads Str see o given args reverses sorts c = refl

vector_alone_reads : (e : ElemKind) (see : Object ℕ (ElementOf e) → Mark → Mark) (o : Object ℕ (ElementOf e)) (given : Option (Object ℕ (ElementOf e)))
    (args : Arguments) (c : VectorCall) →
    Reads e e (vector_letters c) see o given args (λ source a. vector_alone_reply (tools_of e) o source a c)
vector_alone_reads e see o given args vector_call.InsertVectorIndex = source_reads see o given _ _ _ _ _ (λ s. refl)
vector_alone_reads e see o given args vector_call.InsertVector = source_reads see o given _ _ _ _ _ (λ s. refl)
vector_alone_reads e see o given args vector_call.InsertVectorPos = source_reads see o given _ _ _ _ _ (λ s. refl)
vector_alone_reads e see o given args vector_call.AppendVector = source_reads see o given _ _ _ _ _ (λ s. refl)
vector_alone_reads e see o given args vector_call.PrependVector = source_reads see o given _ _ _ _ _ (λ s. refl)
vector_alone_reads Integer see o given args c = refl
vector_alone_reads Str see o given args c = refl

module _ (e : ElemKind) (see : Object ℕ (ElementOf e) → Mark → Mark) (o : Object ℕ (ElementOf e)) (given : Option (Object ℕ (ElementOf e)))
    (args : Arguments) where
  list_alone_reads : (c : ListCall) → Reads e e (list_letters c) see o given args (λ source a. list_alone_reply (tools_of e) o source a c)
  list_alone_reads list_call.SwapLinks = refl
  list_alone_reads list_call.Splice = source_reads see o given _ _ _ _ _ (λ s. refl)
  list_alone_reads list_call.SpliceOne = source_reads see o given _ _ _ _ _ (λ s. refl)
  list_alone_reads list_call.SpliceWithin = refl

  sequence_common : (c : CommonCall) →
      Reads e e (common_letters c) see o given args (λ source a. common_reply o source a (sequence_own (tools_of e) o) c)
  sequence_common c =
      common_reads e e see o given args (sequence_own (tools_of e) o) (λ at v. ap (sequence.replace_element_call o at) (reads_same e v)) c

  list_reads : (op : Operation) → Reads e e (letters_of op) see o given args (λ source a. list_reply (tools_of e) o source a op)
  list_reads (operation.Common c) = sequence_common c
  list_reads (operation.Sequence c) = sequence_reads e see o given args (list.reverse_elements_call o) (list.sort_call (tools_of e).less o) c
  list_reads (operation.List c) = list_alone_reads c
  list_reads op = refl

  vector_reads : (op : Operation) → Reads e e (letters_of op) see o given args (λ source a. vector_reply (tools_of e) o source a op)
  vector_reads (operation.Common c) = sequence_common c
  vector_reads (operation.Sequence c) =
      sequence_reads e see o given args (vector.reverse_elements_call o) (vector.sort_call (tools_of e).less o) c
  vector_reads (operation.Capacity c) = capacity_reads e e see o given args c
  vector_reads (operation.Vector c) = vector_alone_reads e see o given args c
  vector_reads op = refl

  pub sequences_read : (which : SequenceKind) (op : Operation) →
      Reads e e (letters_of op) see o given args (λ source a. reply_by (tools_of e) o source a which op)
  sequences_read of_list op = list_reads op
  sequences_read of_vector op = vector_reads op

-- What stays of a vector through each call, and so of a list or a vector.
use Rattle.std.proofs.Common.{◌≡◌, ◌+◌, ◌-◌, ℕ, [], ◌∷◌, reverse, nat_le, refl, None}
use Rattle.ac_model.specs.Objects.{Object, contents, length_of}
use Rattle.ac_model.specs.Letters.{may, count_of, in_range, index_in, place_at, place_of_index, room, tampers_cursors}
use Rattle.ac_model.specs.Sequences.{room_for_copies}
use Rattle.ac_model.specs.Vectors as vector
use Rattle.ac_syntax.specs.declared.operation.Operation.{Operation}
use Rattle.ac_syntax.specs.declared.operation.Operation.TheVariants as operation
use Rattle.ac_syntax.specs.declared.operation.CapacityCall.{CapacityCall}
use Rattle.ac_syntax.specs.declared.operation.CapacityCall.TheVariants as capacity_call
use Rattle.ac_syntax.specs.declared.operation.VectorCall.{VectorCall}
use Rattle.ac_syntax.specs.declared.operation.VectorCall.TheVariants as vector_call
use Rattle.ac_calls.specs.Elements.{Tools}
use Rattle.ac_calls.specs.Replies.{Arguments, Source, another, by_source, Reply, changes_ok, changes_variable}
use Rattle.ac_calls.specs.SequenceReplies.{sequence_own, capacity_reply}
use Rattle.ac_calls.specs.VectorReplies.{vector_alone_reply, vector_reply}
use Rattle.ac_calls.specs.Holdings.{SequenceKind, of_list, of_vector, reply_by}
use Rattle.ac_meaning.specs.Stays.{Stays, ReplyStays}
use Rattle.ac_meaning.proofs.CallsStay.{alone, by_source_stays, same, renamed, changed, grows, grows_unless, reserves, first_check, names-with_value, names-with_exchanged_values, names-over}
use Rattle.ac_meaning.proofs.RoomsFound.{reserve_fits, copies_fit, rows_fit, length_fits}
use Rattle.ac_meaning.proofs.ListsStay.{common_stays, sequence_stays, list_stays}

module _ {V : Type 0} (o : Object ℕ V) (source : Source (Object ℕ V)) (args : Arguments) where
  pub capacity_stays : (c : CapacityCall) → ReplyStays o source (capacity_reply o args c)
  capacity_stays capacity_call.Capacity = alone o source _ refl (same o _)
  capacity_stays capacity_call.ReserveCapacity = alone o source _ refl (reserves o _ (count_of args.first.count) (reserve_fits o args.first.count))

module _ {T : Type 0} (tools : Tools T) (o : Object ℕ T) (source : Source (Object ℕ T)) (args : Arguments) where
  -- a call that copies its source, which may be the vector itself
  copies_stay : (reply : Object ℕ T → Reply (Object ℕ T)) → ((s : Object ℕ T) → (reply s).source ≡ None) →
      ((s : Object ℕ T) → Stays o (reply s).reason (reply s).after) → ReplyStays o source (by_source source (reply o) (λ s _. reply s))
  copies_stay reply none stays = by_source_stays o source _ _ (none o) (stays o) (λ s seen. alone o (another s seen) _ (none s) (stays s))

  alone_stays : (c : VectorCall) → ReplyStays o source (vector_alone_reply tools o source args c)
  alone_stays vector_call.SetLength =
      let count = count_of args.first.count in
      alone o source _ refl
      (grows_unless (nat_le count (length_of o)) o _ _ _ _ (first_check o (in_range args.first.count ∷ room o count (count - length_of o)))
      (length_fits (tampers_cursors o ∷ in_range args.first.count ∷ []) o _ count))
  alone_stays vector_call.ToCursor = alone o source _ refl (same o _)
  alone_stays vector_call.ToIndex = alone o source _ refl (same o _)
  alone_stays vector_call.FirstIndex = alone o source _ refl (same o _)
  alone_stays vector_call.LastIndex = alone o source _ refl (same o _)
  alone_stays vector_call.ElementIndex = alone o source _ refl (same o _)
  alone_stays vector_call.ReplaceIndex = alone o source _ refl (renamed o _ _ (names-with_value o.rows _ _))
  alone_stays vector_call.SwapIndex = alone o source _ refl (renamed o _ _ (names-with_exchanged_values o.rows _ _))
  alone_stays vector_call.InsertIndex =
      alone o source _ refl
      (grows o _ _ _ (first_check o (index_in args.first.count (length_of o + 1) ∷ room_for_copies o args.third.count))
      (copies_fit (tampers_cursors o ∷ index_in args.first.count (length_of o + 1) ∷ []) o (place_of_index args.first.count) _ args.third.count))
  alone_stays vector_call.InsertVectorIndex =
      copies_stay (λ s. changes_ok (vector.insert_vector_index_call o args.first.count s)) (λ s. refl)
      (λ s. grows o _ _ _ (first_check o (index_in args.first.count (length_of o + 1) ∷ vector.room_for_source o s))
      (rows_fit (tampers_cursors o ∷ index_in args.first.count (length_of o + 1) ∷ []) o (place_of_index args.first.count) s.rows))
  alone_stays vector_call.InsertVector =
      copies_stay (λ s. changes_ok (vector.insert_vector_call o args.first.cursor s)) (λ s. refl)
      (λ s. grows o _ _ _ (first_check o (may o args.first.cursor ∷ vector.room_for_source o s))
      (rows_fit (tampers_cursors o ∷ may o args.first.cursor ∷ []) o (place_at o.rows args.first.cursor) s.rows))
  alone_stays vector_call.InsertVectorPos =
      copies_stay (λ s. changes_variable _ (vector.insert_vector_pos_call o args.first.cursor s)) (λ s. refl)
      (λ s. grows o _ _ _ (first_check o (may o args.first.cursor ∷ vector.room_for_source o s))
      (rows_fit (tampers_cursors o ∷ may o args.first.cursor ∷ []) o (place_at o.rows args.first.cursor) s.rows))
  alone_stays vector_call.AppendVector =
      copies_stay (λ s. changes_ok (vector.append_vector_call o s)) (λ s. refl)
      (λ s. grows o _ _ _ (first_check o (vector.room_for_source o s)) (rows_fit (tampers_cursors o ∷ []) o (length_of o) s.rows))
  alone_stays vector_call.PrependVector =
      copies_stay (λ s. changes_ok (vector.prepend_vector_call o s)) (λ s. refl)
      (λ s. grows o _ _ _ (first_check o (vector.room_for_source o s)) (rows_fit (tampers_cursors o ∷ []) o 0 s.rows))
  alone_stays vector_call.DeleteIndex =
      alone o source _ refl (changed o _ _ (first_check o (index_in args.first.count (length_of o + 1) ∷ in_range args.second.count ∷ [])))
  alone_stays vector_call.FindIndex = alone o source _ refl (same o _)
  alone_stays vector_call.ReverseFindIndex = alone o source _ refl (same o _)

pub vector_stays : {T : Type 0} (tools : Tools T) (o : Object ℕ T) (source : Source (Object ℕ T)) (args : Arguments) (op : Operation) →
    ReplyStays o source (vector_reply tools o source args op)
vector_stays tools o source args (operation.Common c) =
    common_stays o source args (sequence_own tools o) (λ at argument. renamed o _ _ (names-with_value o.rows _ _)) c
vector_stays tools o source args (operation.Sequence c) =
    sequence_stays tools o source args (vector.reverse_elements_call o) (vector.sort_call tools.less o)
    (renamed o _ _ (names-over o.rows (reverse (contents o)))) (changed o _ _ (first_check o [])) c
vector_stays tools o source args (operation.Capacity c) = capacity_stays o source args c
vector_stays tools o source args (operation.Vector c) = alone_stays tools o source args c
vector_stays tools o source args _ = alone o source _ refl (same o _)

pub replies_stay : {T : Type 0} (which : SequenceKind) (tools : Tools T) (o : Object ℕ T) (source : Source (Object ℕ T)) (args : Arguments)
    (op : Operation) → ReplyStays o source (reply_by tools o source args which op)
replies_stay of_list tools o source args op = list_stays tools o source args op
replies_stay of_vector tools o source args op = vector_stays tools o source args op

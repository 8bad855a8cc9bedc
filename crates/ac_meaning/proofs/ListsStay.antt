-- What stays of a list through each call.
use Rattle.std.proofs.Common.{◌+◌, ℕ, [], ◌∷◌, refl}
use Rattle.ac_model.specs.Objects.{Object, length_of}
use Rattle.ac_model.specs.Rows.{value_at}
use Rattle.ac_model.specs.Letters.{Mark, name_of, tampers_cursors, may, needs, in_range, place_at, room, room_for_one}
use Rattle.ac_model.specs.Sequences.{room_for_copies}
use Rattle.ac_model.specs.Calls.{Call, Done}
use Rattle.ac_model.specs.Lists as list
use Rattle.ac_syntax.specs.declared.operation.Operation.{Operation}
use Rattle.ac_syntax.specs.declared.operation.Operation.TheVariants as operation
use Rattle.ac_syntax.specs.declared.operation.CommonCall.{CommonCall}
use Rattle.ac_syntax.specs.declared.operation.CommonCall.TheVariants as common_call
use Rattle.ac_syntax.specs.declared.operation.SequenceCall.{SequenceCall}
use Rattle.ac_syntax.specs.declared.operation.SequenceCall.TheVariants as sequence_call
use Rattle.ac_syntax.specs.declared.operation.ListCall.{ListCall}
use Rattle.ac_syntax.specs.declared.operation.ListCall.TheVariants as list_call
use Rattle.ac_calls.specs.Elements.{Tools}
use Rattle.ac_base.specs.declared.value.Value.{Value}
use Rattle.ac_calls.specs.Replies.{Arguments, Source, another}
use Rattle.ac_calls.specs.SequenceReplies.{OwnCalls, sequence_own, common_reply, sequence_reply}
use Rattle.ac_calls.specs.ListReplies.{list_alone_reply, list_reply}
use Rattle.ac_meaning.specs.Stays.{Stays, ReplyStays}
use Rattle.ac_meaning.proofs.CallsStay.{alone, by_source_stays, same, renamed, changed, grows, first_check, second_check, names-with_value, names-with_exchanged_values}
use Rattle.ac_meaning.proofs.RoomsFound.{copies_fit, rows_fit, one_fits, assigned_fits, merged_fits}

module _ {V : Type 0} (o : Object ℕ V) (source : Source (Object ℕ V)) (args : Arguments) where
  pub common_stays : (own : OwnCalls V) →
      ((c : Mark) (v : Value) → Stays o (own.replace_element c v).reason (own.replace_element c v).after) →
      (c : CommonCall) → ReplyStays o source (common_reply o source args own c)
  common_stays own replaces common_call.IsEmpty = alone o source _ refl (same o _)
  common_stays own replaces common_call.Clear = alone o source _ refl (changed o _ _ (first_check o []))
  common_stays own replaces common_call.Assign =
      by_source_stays o source _ _ refl (same o _)
      (λ s seen. alone o (another s seen) _ refl (grows o _ _ _ (first_check o (room o (length_of s) (length_of s))) (assigned_fits (tampers_cursors o ∷ []) o s)))
  common_stays own replaces common_call.MoveFrom =
      by_source_stays o source _ _ refl (same o _)
      (λ s seen. record {
        target = grows o _ _ _ (first_check o (tampers_cursors s ∷ room o (length_of s) (length_of s)))
            (assigned_fits (tampers_cursors o ∷ tampers_cursors s ∷ []) o s);
        source_stays = changed s _ _ (second_check s (tampers_cursors o) (room o (length_of s) (length_of s)));
      })
  common_stays own replaces common_call.Equal = alone o source _ refl (same o _)
  common_stays own replaces common_call.HasElement = alone o source _ refl (same o _)
  common_stays own replaces common_call.Element = alone o source _ refl (same o _)
  common_stays own replaces common_call.ReplaceElement = alone o source _ refl (replaces _ _)
  common_stays own replaces common_call.Print = alone o source _ refl (same o _)
  common_stays own replaces common_call.Length = alone o source _ refl (same o _)

module _ {T : Type 0} (tools : Tools T) (o : Object ℕ T) (source : Source (Object ℕ T)) (args : Arguments) where
  pub sequence_stays : (reverses sorts : Call (Object ℕ T) Done) → Stays o reverses.reason reverses.after →
      Stays o sorts.reason sorts.after → (c : SequenceCall) → ReplyStays o source (sequence_reply tools o source args reverses sorts c)
  sequence_stays reverses sorts h k sequence_call.Append =
      alone o source _ refl
      (grows o _ _ _ (first_check o (room_for_copies o args.second.count))
      (copies_fit (tampers_cursors o ∷ []) o (length_of o) _ args.second.count))
  sequence_stays reverses sorts h k sequence_call.Prepend =
      alone o source _ refl
      (grows o _ _ _ (first_check o (room_for_copies o args.second.count))
      (copies_fit (tampers_cursors o ∷ []) o 0 _ args.second.count))
  sequence_stays reverses sorts h k sequence_call.Insert =
      alone o source _ refl
      (grows o _ _ _ (first_check o (may o args.first.cursor ∷ room_for_copies o args.third.count))
      (copies_fit (tampers_cursors o ∷ may o args.first.cursor ∷ []) o (place_at o.rows args.first.cursor) _ args.third.count))
  sequence_stays reverses sorts h k sequence_call.InsertPos =
      alone o source _ refl
      (grows o _ _ _ (first_check o (may o args.first.cursor ∷ room_for_copies o args.fourth.count))
      (copies_fit (tampers_cursors o ∷ may o args.first.cursor ∷ []) o (place_at o.rows args.first.cursor) _ args.fourth.count))
  sequence_stays reverses sorts h k sequence_call.Delete =
      alone o source _ refl (changed o _ _ (first_check o (needs o args.first.cursor ∷ in_range args.second.count ∷ [])))
  sequence_stays reverses sorts h k sequence_call.DeleteFirst = alone o source _ refl (changed o _ _ (first_check o (in_range args.first.count ∷ [])))
  sequence_stays reverses sorts h k sequence_call.DeleteLast = alone o source _ refl (changed o _ _ (first_check o (in_range args.first.count ∷ [])))
  sequence_stays reverses sorts h k sequence_call.First = alone o source _ refl (same o _)
  sequence_stays reverses sorts h k sequence_call.Last = alone o source _ refl (same o _)
  sequence_stays reverses sorts h k sequence_call.FirstElement = alone o source _ refl (same o _)
  sequence_stays reverses sorts h k sequence_call.LastElement = alone o source _ refl (same o _)
  sequence_stays reverses sorts h k sequence_call.Next = alone o source _ refl (same o _)
  sequence_stays reverses sorts h k sequence_call.Previous = alone o source _ refl (same o _)
  sequence_stays reverses sorts h k sequence_call.Find = alone o source _ refl (same o _)
  sequence_stays reverses sorts h k sequence_call.ReverseFind = alone o source _ refl (same o _)
  sequence_stays reverses sorts h k sequence_call.Contains = alone o source _ refl (same o _)
  sequence_stays reverses sorts h k sequence_call.Swap = alone o source _ refl (renamed o _ _ (names-with_exchanged_values o.rows _ _))
  sequence_stays reverses sorts h k sequence_call.ReverseElements = alone o source _ refl h
  sequence_stays reverses sorts h k sequence_call.Sort = alone o source _ refl k
  sequence_stays reverses sorts h k sequence_call.IsSorted = alone o source _ refl (same o _)
  sequence_stays reverses sorts h k sequence_call.Merge =
      by_source_stays o source _ _ refl (same o _)
      (λ s seen. record {
        target = grows o _ _ _ (first_check o (tampers_cursors s ∷ room o (length_of o + length_of s) (length_of s)))
            (merged_fits (tampers_cursors o ∷ tampers_cursors s ∷ []) tools.less o s);
        source_stays = changed s _ _ (second_check s (tampers_cursors o) (room o (length_of o + length_of s) (length_of s)));
      })

module _ {T : Type 0} (tools : Tools T) (o : Object ℕ T) (source : Source (Object ℕ T)) (args : Arguments) where
  alone_stays : (c : ListCall) → ReplyStays o source (list_alone_reply tools o source args c)
  alone_stays list_call.SwapLinks =
      alone o source _ refl (changed o _ _ (first_check o (needs o args.first.cursor ∷ needs o args.second.cursor ∷ [])))
  alone_stays list_call.Splice =
      by_source_stays o source _ _ refl (same o _)
      (λ s seen. record {
        target = grows o _ _ _ (first_check o (tampers_cursors s ∷ may o args.first.cursor ∷ room o (length_of o + length_of s) (length_of s)))
            (rows_fit (tampers_cursors o ∷ tampers_cursors s ∷ may o args.first.cursor ∷ []) o (place_at o.rows args.first.cursor) s.rows);
        source_stays = changed s _ _ (second_check s (tampers_cursors o) (may o args.first.cursor ∷ room o (length_of o + length_of s) (length_of s)));
      })
  alone_stays list_call.SpliceOne =
      by_source_stays o source _ _ refl
      (changed o _ _ (first_check o (may o args.first.cursor ∷ needs o args.third.cursor ∷ [])))
      (λ s seen. record {
        target = grows o _ _ _ (first_check o (tampers_cursors s ∷ may o args.first.cursor ∷ needs s seen.third.cursor ∷ room_for_one o))
            (one_fits (tampers_cursors o ∷ tampers_cursors s ∷ may o args.first.cursor ∷ needs s seen.third.cursor ∷ []) o
            (place_at o.rows args.first.cursor) (value_at s.rows (name_of seen.third.cursor)));
        source_stays = changed s _ _ (second_check s (tampers_cursors o) (may o args.first.cursor ∷ needs s seen.third.cursor ∷ room_for_one o));
      })
  alone_stays list_call.SpliceWithin =
      alone o source _ refl (changed o _ _ (first_check o (may o args.first.cursor ∷ needs o args.second.cursor ∷ [])))

pub list_stays : {T : Type 0} (tools : Tools T) (o : Object ℕ T) (source : Source (Object ℕ T)) (args : Arguments) (op : Operation) →
    ReplyStays o source (list_reply tools o source args op)
list_stays tools o source args (operation.Common c) =
    common_stays o source args (sequence_own tools o) (λ at argument. renamed o _ _ (names-with_value o.rows _ _)) c
list_stays tools o source args (operation.Sequence c) =
    sequence_stays tools o source args (list.reverse_elements_call o) (list.sort_call tools.less o)
    (changed o _ _ (first_check o [])) (changed o _ _ (first_check o [])) c
list_stays tools o source args (operation.List c) = alone_stays tools o source args c
list_stays tools o source args _ = alone o source _ refl (same o _)

-- What stays of a map or a set through each call.
use Rattle.std.proofs.Common.{◌≡◌, ℕ, Bool, List, [], ◌∷◌, not, is_some, refl, Option, Some, None}
use Rattle.std.specs.Prelude.{pos}
use Rattle.ac_base.specs.declared.reason.Reason.{Reason}
use Rattle.ac_base.specs.declared.reason.Reason.TheVariants.{KeyPresent, KeyAbsent, Duplicate}
use Rattle.ac_base.specs.Key.{key_of_text}
use Rattle.ac_base.specs.Rows.{Row, names}
use Rattle.ac_model.specs.Rows.{Entry, row_by}
use Rattle.ac_model.specs.Objects.{Object}
use Rattle.ac_model.specs.Letters.{Mark, name_of, needs, in_range, reason_if, room_for_one, tampers_cursors}
use Rattle.ac_model.specs.Calls.{Call}
use Rattle.ac_model.specs.Keyed as keyed
use Rattle.ac_model.specs.Keyed.{Order, row_like, replaced_rows, on_key, room_where_absent, another_is_like}
use Rattle.ac_model.specs.KeyedSets as by_key
use Rattle.ac_model.specs.Maps as map
use Rattle.ac_model.specs.Sets.{additions, own_rows, unchecked_union, unchecked_symmetric_difference}
use Rattle.ac_syntax.specs.declared.operation.Operation.{Operation}
use Rattle.ac_syntax.specs.declared.operation.Operation.TheVariants as operation
use Rattle.ac_syntax.specs.declared.operation.WalkCall.{WalkCall}
use Rattle.ac_syntax.specs.declared.operation.WalkCall.TheVariants as walk_call
use Rattle.ac_syntax.specs.declared.operation.OrderedCall.{OrderedCall}
use Rattle.ac_syntax.specs.declared.operation.OrderedCall.TheVariants as ordered_call
use Rattle.ac_syntax.specs.declared.operation.MapCall.{MapCall}
use Rattle.ac_syntax.specs.declared.operation.MapCall.TheVariants as map_call
use Rattle.ac_syntax.specs.declared.operation.OrderedMapCall.{OrderedMapCall}
use Rattle.ac_syntax.specs.declared.operation.OrderedMapCall.TheVariants as ordered_map_call
use Rattle.ac_syntax.specs.declared.operation.KeyedCall.{KeyedCall}
use Rattle.ac_syntax.specs.declared.operation.KeyedCall.TheVariants as keyed_call
use Rattle.ac_syntax.specs.declared.operation.SetCall.{SetCall}
use Rattle.ac_syntax.specs.declared.operation.SetCall.TheVariants as set_call
use Rattle.ac_syntax.specs.declared.operation.SetPairCall.{SetPairCall}
use Rattle.ac_syntax.specs.declared.operation.SetPairCall.TheVariants as set_pair_call
use Rattle.ac_syntax.specs.declared.operation.OrderedSetCall.{OrderedSetCall}
use Rattle.ac_syntax.specs.declared.operation.OrderedSetCall.TheVariants as ordered_set_call
use Rattle.ac_calls.specs.Elements.{Tools, Text, texts, keyed_texts}
use Rattle.ac_calls.specs.KeyedReplies.{KeyedKind, of_hashed, of_ordered, order_by, walk_reply, ordered_reply}
use Rattle.ac_calls.specs.MapReplies.{map_own, map_alone_reply, ordered_map_reply, map_reply}
use Rattle.ac_calls.specs.SetReplies.{set_own, set_alone_reply, set_pair_reply, ordered_set_reply, set_reply}
use Rattle.ac_calls.specs.KeyedSetReplies.{key_reply, keyed_set_reply}
use Rattle.ac_calls.specs.Replies.{Arguments, Source, another, Reply}
use Rattle.ac_meaning.specs.Stays.{Stays, ReplyStays}
use Rattle.ac_meaning.proofs.CallsStay.{alone, by_source_stays, same, renamed, changed, grows, grows_unless, first_check, earlier_check, names-with_value, names-with_some_value}
use Rattle.ac_meaning.proofs.RoomsFound.{added_fits, absent_fits}
use Rattle.ac_meaning.proofs.ListsStay.{common_stays}
use Rattle.ac_meaning.proofs.VectorsStay.{capacity_stays}

-- a call on an object keeps what stays
abbrev CallStays : {V A : Type 0} → Object ℕ V → Call (Object ℕ V) A → Type 0
CallStays o c = Stays o c.reason c.after

names-replaced : {V : Type 0} (rows : List (Row ℕ V)) (present : Option (Row ℕ V)) (v : V) → names (replaced_rows rows present v) ≡ names rows
names-replaced rows None v = refl
names-replaced rows (Some r) v = names-with_value rows r.name v

module _ {V : Type 0} (order : Order V) (o : Object ℕ V) (v : V) where
  insert_stays : CallStays o (keyed.insert_call order o v)
  insert_stays =
      let checked = reason_if (is_some (row_like order o v)) KeyPresent in
      grows o _ _ _ (first_check o (checked ∷ room_for_one o)) (added_fits (tampers_cursors o ∷ checked ∷ []) order o o.rows (v ∷ []))

  insert_pos_stays : CallStays o (keyed.insert_pos_call order o v)
  insert_pos_stays =
      let present = row_like order o v in
      grows_unless (is_some present) o _ _ _ _ (first_check o (room_where_absent o present)) (absent_fits order o v present)

  include_stays : CallStays o (keyed.include_call order o v)
  include_stays =
      let present = row_like order o v in
      grows_unless (is_some present) o _ _ _ _ (first_check o (room_where_absent o present)) (absent_fits order o v present)

  replace_stays : (tampering : Option Reason) → CallStays o (keyed.replace_call tampering order o v)
  replace_stays tampering = renamed o _ _ (names-replaced o.rows (row_like order o v) v)

  replace_element_stays : (c : Mark) → CallStays o (keyed.replace_element_call order o c v)
  replace_element_stays c = changed o _ _ (first_check o (needs o c ∷ reason_if (another_is_like order o.rows (name_of c) v) Duplicate ∷ []))

module _ {V : Type 0} (o : Object ℕ V) (matches : V → Bool) where
  exclude_stays : CallStays o (keyed.exclude_call matches o)
  exclude_stays = changed o _ _ (first_check o [])

  delete_match_stays : CallStays o (keyed.delete_match_call matches o)
  delete_match_stays = changed o _ _ (first_check o (reason_if (not (is_some (row_by matches o.rows))) KeyAbsent ∷ []))

key_replace_stays : {K T : Type 0} (key : T → K) (keys : Order K) (o : Object ℕ T) (k : K) (v : T) →
    CallStays o (by_key.key_replace_call key keys o k v)
key_replace_stays key keys o k v =
    let present = row_by (by_key.has_key key keys k) o.rows in
    changed o _ _
    (first_check o
    (reason_if (not (is_some present)) KeyAbsent
    ∷ reason_if (another_is_like (on_key key keys) o.rows (by_key.name_found present) v) Duplicate ∷ []))

module _ {V : Type 0} (o : Object ℕ V) (source : Source (Object ℕ V)) (args : Arguments) where
  walk_stays : (c : WalkCall) → ReplyStays o source (walk_reply o args c)
  walk_stays walk_call.First = alone o source _ refl (same o _)
  walk_stays walk_call.Next = alone o source _ refl (same o _)
  walk_stays walk_call.Delete = alone o source _ refl (changed o _ _ (first_check o (needs o args.first.cursor ∷ [])))

  ordered_stays : (first last : Reply (Object ℕ V)) → ReplyStays o source first → ReplyStays o source last → (c : OrderedCall) →
      ReplyStays o source (ordered_reply o args first last c)
  ordered_stays first last h k ordered_call.Last = alone o source _ refl (same o _)
  ordered_stays first last h k ordered_call.Previous = alone o source _ refl (same o _)
  ordered_stays first last h k ordered_call.DeleteFirst = alone o source _ refl (changed o _ _ (first_check o (in_range (pos 1) ∷ [])))
  ordered_stays first last h k ordered_call.DeleteLast = alone o source _ refl (changed o _ _ (first_check o (in_range (pos 1) ∷ [])))
  ordered_stays first last h k ordered_call.FirstElement = h
  ordered_stays first last h k ordered_call.LastElement = k

module _ {K T : Type 0} (keys : Tools K) (tools : Tools T) (o : Object ℕ (Entry K T)) (source : Source (Object ℕ (Entry K T))) (args : Arguments) where
  map_alone_stays : (which : KeyedKind) (c : MapCall) → ReplyStays o source (map_alone_reply keys tools which o args c)
  map_alone_stays which map_call.Key = alone o source _ refl (same o _)
  map_alone_stays which map_call.ElementKey = alone o source _ refl (same o _)
  map_alone_stays which map_call.Insert = alone o source _ refl (insert_stays (map.order_of (order_by keys which)) o _)
  map_alone_stays which map_call.InsertPos = alone o source _ refl (insert_pos_stays (map.order_of (order_by keys which)) o _)
  map_alone_stays which map_call.Include = alone o source _ refl (include_stays (map.order_of (order_by keys which)) o _)
  map_alone_stays which map_call.Replace = alone o source _ refl (replace_stays (map.order_of (order_by keys which)) o _ _)
  map_alone_stays which map_call.Exclude = alone o source _ refl (exclude_stays o _)
  map_alone_stays which map_call.DeleteKey = alone o source _ refl (delete_match_stays o _)
  map_alone_stays which map_call.Find = alone o source _ refl (same o _)
  map_alone_stays which map_call.Contains = alone o source _ refl (same o _)

  ordered_map_stays : (which : KeyedKind) (c : OrderedMapCall) → ReplyStays o source (ordered_map_reply keys tools which o args c)
  ordered_map_stays which ordered_map_call.FirstKey = alone o source _ refl (same o _)
  ordered_map_stays which ordered_map_call.LastKey = alone o source _ refl (same o _)
  ordered_map_stays which ordered_map_call.Floor = alone o source _ refl (same o _)
  ordered_map_stays which ordered_map_call.Ceiling = alone o source _ refl (same o _)

pub map_stays : {K T : Type 0} (keys : Tools K) (tools : Tools T) (o : Object ℕ (Entry K T)) (source : Source (Object ℕ (Entry K T)))
    (args : Arguments) (which : KeyedKind) (op : Operation) → ReplyStays o source (map_reply keys tools o source args which op)
map_stays keys tools o source args which (operation.Common c) =
    common_stays o source args (map_own keys tools which o) (λ at v. renamed o _ _ (names-with_some_value o.rows _ _)) c
map_stays keys tools o source args which (operation.Walk c) = walk_stays o source args c
map_stays keys tools o source args which (operation.Map c) = map_alone_stays keys tools o source args which c
map_stays keys tools o source args of_hashed (operation.Capacity c) = capacity_stays o source args c
map_stays keys tools o source args of_ordered (operation.Ordered c) =
    ordered_stays o source args _ _ (alone o source _ refl (same o _)) (alone o source _ refl (same o _)) c
map_stays keys tools o source args of_ordered (operation.OrderedMap c) = ordered_map_stays keys tools o source args of_ordered c
map_stays keys tools o source args _ _ = alone o source _ refl (same o _)

module _ {T : Type 0} (tools : Tools T) (o : Object ℕ T) (source : Source (Object ℕ T)) (args : Arguments) where
  set_alone_stays : (which : KeyedKind) (c : SetCall) → ReplyStays o source (set_alone_reply tools (order_by tools which) o args c)
  set_alone_stays which set_call.Insert = alone o source _ refl (insert_stays (order_by tools which) o _)
  set_alone_stays which set_call.InsertPos = alone o source _ refl (insert_pos_stays (order_by tools which) o _)
  set_alone_stays which set_call.Include = alone o source _ refl (include_stays (order_by tools which) o _)
  set_alone_stays which set_call.Replace = alone o source _ refl (replace_stays (order_by tools which) o _ _)
  set_alone_stays which set_call.Exclude = alone o source _ refl (exclude_stays o _)
  set_alone_stays which set_call.DeleteItem = alone o source _ refl (delete_match_stays o _)
  set_alone_stays which set_call.Find = alone o source _ refl (same o _)
  set_alone_stays which set_call.Contains = alone o source _ refl (same o _)

  set_pair_stays : (which : KeyedKind) (c : SetPairCall) → ReplyStays o source (set_pair_reply tools (order_by tools which) o source c)
  set_pair_stays which set_pair_call.Union =
      by_source_stays o source _ _ refl (same o _)
      (λ s seen. alone o (another s seen) _ refl
      (grows o _ _ _ (earlier_check o (unchecked_union (order_by tools which) o s).reason)
      (added_fits (tampers_cursors o ∷ []) (order_by tools which) o o.rows (additions (order_by tools which) o s))))
  set_pair_stays which set_pair_call.Intersection =
      by_source_stays o source _ _ refl (same o _) (λ s seen. alone o (another s seen) _ refl (changed o _ _ (earlier_check o None)))
  set_pair_stays which set_pair_call.Difference =
      by_source_stays o source _ _ refl (changed o _ _ (earlier_check o None))
      (λ s seen. alone o (another s seen) _ refl (changed o _ _ (earlier_check o None)))
  set_pair_stays which set_pair_call.SymmetricDifference =
      by_source_stays o source _ _ refl (changed o _ _ (earlier_check o None))
      (λ s seen. alone o (another s seen) _ refl
      (grows o _ _ _ (earlier_check o (unchecked_symmetric_difference (order_by tools which) o s).reason)
      (added_fits (tampers_cursors o ∷ []) (order_by tools which) o (own_rows (order_by tools which) o s) (additions (order_by tools which) o s))))
  set_pair_stays which set_pair_call.Overlap = alone o source _ refl (same o _)
  set_pair_stays which set_pair_call.IsSubset = alone o source _ refl (same o _)
  set_pair_stays which set_pair_call.EquivalentSets = alone o source _ refl (same o _)

  ordered_set_stays : (which : KeyedKind) (c : OrderedSetCall) → ReplyStays o source (ordered_set_reply tools (order_by tools which) o args c)
  ordered_set_stays which ordered_set_call.Floor = alone o source _ refl (same o _)
  ordered_set_stays which ordered_set_call.Ceiling = alone o source _ refl (same o _)

pub set_stays : {T : Type 0} (tools : Tools T) (o : Object ℕ T) (source : Source (Object ℕ T)) (args : Arguments) (which : KeyedKind)
    (op : Operation) → ReplyStays o source (set_reply tools o source args which op)
set_stays tools o source args which (operation.Common c) =
    common_stays o source args (set_own tools (order_by tools which) o) (λ at v. replace_element_stays (order_by tools which) o _ at) c
set_stays tools o source args which (operation.Walk c) = walk_stays o source args c
set_stays tools o source args which (operation.Set c) = set_alone_stays tools o source args which c
set_stays tools o source args which (operation.SetPair c) = set_pair_stays tools o source args which c
set_stays tools o source args of_hashed (operation.Capacity c) = capacity_stays o source args c
set_stays tools o source args of_ordered (operation.Ordered c) =
    ordered_stays o source args _ _ (alone o source _ refl (same o _)) (alone o source _ refl (same o _)) c
set_stays tools o source args of_ordered (operation.OrderedSet c) = ordered_set_stays tools o source args of_ordered c
set_stays tools o source args _ _ = alone o source _ refl (same o _)

keyed_call_stays : (o : Object ℕ Text) (source : Source (Object ℕ Text)) (args : Arguments) (which : KeyedKind) (c : KeyedCall) →
    ReplyStays o source (key_reply key_of_text (order_by texts which) o args c)
keyed_call_stays o source args which keyed_call.Key = alone o source _ refl (same o _)
keyed_call_stays o source args which keyed_call.KeyElement = alone o source _ refl (same o _)
keyed_call_stays o source args which keyed_call.KeyFind = alone o source _ refl (same o _)
keyed_call_stays o source args which keyed_call.KeyContains = alone o source _ refl (same o _)
keyed_call_stays o source args which keyed_call.KeyExclude = alone o source _ refl (exclude_stays o _)
keyed_call_stays o source args which keyed_call.KeyDelete = alone o source _ refl (delete_match_stays o _)
keyed_call_stays o source args which keyed_call.KeyReplace = alone o source _ refl (key_replace_stays key_of_text (order_by texts which) o _ _)
keyed_call_stays o source args which keyed_call.KeyFloor = alone o source _ refl (same o _)
keyed_call_stays o source args which keyed_call.KeyCeiling = alone o source _ refl (same o _)

pub keyed_set_stays : (o : Object ℕ Text) (source : Source (Object ℕ Text)) (args : Arguments) (which : KeyedKind) (op : Operation) →
    ReplyStays o source (keyed_set_reply o source args which op)
keyed_set_stays o source args of_hashed (operation.Keyed keyed_call.KeyFloor) = alone o source _ refl (same o _)
keyed_set_stays o source args of_hashed (operation.Keyed keyed_call.KeyCeiling) = alone o source _ refl (same o _)
keyed_set_stays o source args of_hashed (operation.Keyed c) = keyed_call_stays o source args of_hashed c
keyed_set_stays o source args of_ordered (operation.Keyed c) = keyed_call_stays o source args of_ordered c
keyed_set_stays o source args which op = set_stays keyed_texts o source args which op

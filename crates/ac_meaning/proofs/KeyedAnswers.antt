-- What calls on maps and sets answer is what the table says.
use Rattle.std.proofs.Common.{◌≡◌, ℕ, true, not, [], is_some, refl, option_map, None}
use Rattle.ac_base.specs.Key.{key_of_text}
use Rattle.ac_base.specs.declared.reason.Reason.TheVariants.{KeyAbsent}
use Rattle.ac_base.specs.Rows.{Row}
use Rattle.ac_model.specs.Keyed.{Order}
use Rattle.ac_model.specs.KeyedSets as by_key
use Rattle.ac_model.specs.Letters.{Mark, name_of}
use Rattle.ac_model.specs.Maps as map
use Rattle.ac_model.specs.Objects.{Object}
use Rattle.ac_model.specs.Rows.{Entry, row_by, value_at}
use Rattle.ac_model.specs.Sequences as sequence
use Rattle.ac_syntax.specs.declared.kind.ElemKind.{ElemKind}
use Rattle.ac_syntax.specs.declared.kind.ElemKind.TheVariants.{Str}
use Rattle.ac_syntax.specs.declared.operation.Operation.{Operation}
use Rattle.ac_syntax.specs.declared.operation.Operation.TheVariants as operation
use Rattle.ac_syntax.specs.declared.operation.WalkCall.{WalkCall}
use Rattle.ac_syntax.specs.declared.operation.WalkCall.TheVariants as walk_call
use Rattle.ac_syntax.specs.declared.operation.OrderedCall.{OrderedCall}
use Rattle.ac_syntax.specs.declared.operation.OrderedCall.TheVariants as ordered_call
use Rattle.ac_syntax.specs.declared.operation.MapCall.{MapCall}
use Rattle.ac_syntax.specs.declared.operation.MapCall.TheVariants as map_call
use Rattle.ac_syntax.specs.declared.operation.OrderedMapCall.{OrderedMapCall}
use Rattle.ac_syntax.specs.declared.operation.OrderedMapCall.TheVariants as ordered_map_call
use Rattle.ac_syntax.specs.declared.operation.KeyedCall.{KeyedCall}
use Rattle.ac_syntax.specs.declared.operation.KeyedCall.TheVariants as keyed_call
use Rattle.ac_syntax.specs.declared.operation.SetCall.{SetCall}
use Rattle.ac_syntax.specs.declared.operation.SetCall.TheVariants as set_call
use Rattle.ac_syntax.specs.declared.operation.SetPairCall.{SetPairCall}
use Rattle.ac_syntax.specs.declared.operation.SetPairCall.TheVariants as set_pair_call
use Rattle.ac_syntax.specs.declared.operation.OrderedSetCall.{OrderedSetCall}
use Rattle.ac_syntax.specs.declared.operation.OrderedSetCall.TheVariants as ordered_set_call
use Rattle.ac_rules.specs.declared.rows.Answer.TheVariants as told
use Rattle.ac_rules.proofs.Apart.{neither}
use Rattle.ac_calls.specs.Elements.{Tools, Text, text_in, texts, keyed_texts}
use Rattle.ac_calls.specs.KeyedReplies.{KeyedKind, of_hashed, of_ordered, order_by, walk_reply, ordered_reply}
use Rattle.ac_calls.specs.KeyedSetReplies.{key_reply, keyed_set_reply}
use Rattle.ac_calls.specs.MapReplies.{map_own, map_alone_reply, ordered_map_reply, map_reply}
use Rattle.ac_calls.specs.Replies.{Arguments, Source, Reply}
use Rattle.ac_calls.specs.SetReplies.{set_own, set_alone_reply, set_pair_reply, ordered_set_reply, set_reply}
use Rattle.ac_meaning.specs.Suits.{is_own_of_map, is_own_of_set, is_own_of_keyed_set}
use Rattle.ac_meaning.specs.ValueTypes.{RepliesAs}
use Rattle.ac_meaning.proofs.AnswerParts.{by_source_as, Gives, Makes, gives, element_looked, key_looked, some_mapped, test_passed, not_false, some_looked, some_first, some_last}
use Rattle.ac_meaning.proofs.SequenceAnswers.{common_as, capacity_as}
use Rattle.ac_meaning.proofs.TableAnswers.{walk_told, map_told, set_told, set_pair_told, keyed_told, ordered_told, ordered_map_told, told_of}

module _ {V : Type 0} (key element : ElemKind) (o : Object ℕ V) (args : Arguments) where
  walk_as : (c : WalkCall) → RepliesAs key element (walk_told c) (walk_reply o args c)
  walk_as walk_call.First = record { answer = λ none. tt }
  walk_as walk_call.Next = record { answer = λ none. tt }
  walk_as walk_call.Delete = record { answer = λ none. tt }

  ordered_as : (first last : Reply (Object ℕ V)) → RepliesAs key element told.Element first → RepliesAs key element told.Element last →
      (c : OrderedCall) → RepliesAs key element (ordered_told c) (ordered_reply o args first last c)
  ordered_as first last h k ordered_call.Last = record { answer = λ none. tt }
  ordered_as first last h k ordered_call.Previous = record { answer = λ none. tt }
  ordered_as first last h k ordered_call.DeleteFirst = record { answer = λ none. tt }
  ordered_as first last h k ordered_call.DeleteLast = record { answer = λ none. tt }
  ordered_as first last h k ordered_call.FirstElement = h
  ordered_as first last h k ordered_call.LastElement = k

module _ {K T : Type 0} (key element : ElemKind) (keys : Tools K) (tools : Tools T) (makes_key : Makes key keys) (makes : Makes element tools)
    (o : Object ℕ (Entry K T)) (source : Source (Object ℕ (Entry K T))) (args : Arguments) where
  map_element : (which : KeyedKind) (c : Mark) → Gives element ((map_own keys tools which o).element c)
  map_element which c =
      gives element tools makes (map.element_call o c)
      (λ none. some_mapped (λ (e : Entry K T). e.element) (value_at o.rows (name_of c)) (some_looked o c none))

  map_alone_as : (which : KeyedKind) (c : MapCall) → RepliesAs key element (map_told c) (map_alone_reply keys tools which o args c)
  map_alone_as which map_call.Key =
      key_looked key element o keys makes_key (map.key_call o args.first.cursor)
      (λ none. some_mapped (λ (e : Entry K T). e.key) (value_at o.rows (name_of args.first.cursor)) (some_looked o args.first.cursor none))
  map_alone_as which map_call.ElementKey =
      let order = order_by keys which in
      let k = keys.from_value args.first.value in
      let present = row_by (map.has_key order k) o.rows in
      element_looked key element o tools makes (map.element_key_call order o k)
      (λ none. some_mapped (λ (e : Entry K T). e.element) (option_map (λ (r : Row ℕ (Entry K T)). r.value) present)
      (some_mapped (λ (r : Row ℕ (Entry K T)). r.value) present (not_false (is_some present) (test_passed (not (is_some present)) KeyAbsent [] none))))
  map_alone_as which map_call.Insert = record { answer = λ none. tt }
  map_alone_as which map_call.InsertPos = record { answer = λ none. tt }
  map_alone_as which map_call.Include = record { answer = λ none. tt }
  map_alone_as which map_call.Replace = record { answer = λ none. tt }
  map_alone_as which map_call.Exclude = record { answer = λ none. tt }
  map_alone_as which map_call.DeleteKey = record { answer = λ none. tt }
  map_alone_as which map_call.Find = record { answer = λ none. tt }
  map_alone_as which map_call.Contains = record { answer = λ none. tt }

  ordered_map_as : (which : KeyedKind) (c : OrderedMapCall) → RepliesAs key element (ordered_map_told c) (ordered_map_reply keys tools which o args c)
  ordered_map_as which ordered_map_call.FirstKey =
      key_looked key element o keys makes_key (map.first_key_call o)
      (λ none. some_mapped (λ (e : Entry K T). e.key) (sequence.first_element_call o).answer (some_first o none))
  ordered_map_as which ordered_map_call.LastKey =
      key_looked key element o keys makes_key (map.last_key_call o)
      (λ none. some_mapped (λ (e : Entry K T). e.key) (sequence.last_element_call o).answer (some_last o none))
  ordered_map_as which ordered_map_call.Floor = record { answer = λ none. tt }
  ordered_map_as which ordered_map_call.Ceiling = record { answer = λ none. tt }

  pub map_as : (which : KeyedKind) (op : Operation) → is_own_of_map which op ≡ true →
      RepliesAs key element (told_of op) (map_reply keys tools o source args which op)
  map_as which (operation.Common c) own = common_as key element o source args (map_own keys tools which o) (map_element which) c
  map_as which (operation.Walk c) own = walk_as key element o args c
  map_as which (operation.Map c) own = map_alone_as which c
  map_as of_hashed (operation.Capacity c) own = capacity_as key element o source args c
  map_as of_ordered (operation.Ordered c) own =
      ordered_as key element o args _ _
      (element_looked key element o tools makes (map.first_element_call o)
      (λ none. some_mapped (λ (e : Entry K T). e.element) (sequence.first_element_call o).answer (some_first o none)))
      (element_looked key element o tools makes (map.last_element_call o)
      (λ none. some_mapped (λ (e : Entry K T). e.element) (sequence.last_element_call o).answer (some_last o none)))
      c
  map_as of_ordered (operation.OrderedMap c) own = ordered_map_as of_ordered c
  map_as _ _ own = neither own

module _ {T : Type 0} (key element : ElemKind) (tools : Tools T) (makes : Makes element tools) (o : Object ℕ T) (source : Source (Object ℕ T))
    (args : Arguments) where
  set_element : (order : Order T) (c : Mark) → Gives element ((set_own tools order o).element c)
  set_element order c = gives element tools makes (sequence.element_call o c) (some_looked o c)

  set_alone_as : (which : KeyedKind) (c : SetCall) → RepliesAs key element (set_told c) (set_alone_reply tools (order_by tools which) o args c)
  set_alone_as which set_call.Insert = record { answer = λ none. tt }
  set_alone_as which set_call.InsertPos = record { answer = λ none. tt }
  set_alone_as which set_call.Include = record { answer = λ none. tt }
  set_alone_as which set_call.Replace = record { answer = λ none. tt }
  set_alone_as which set_call.Exclude = record { answer = λ none. tt }
  set_alone_as which set_call.DeleteItem = record { answer = λ none. tt }
  set_alone_as which set_call.Find = record { answer = λ none. tt }
  set_alone_as which set_call.Contains = record { answer = λ none. tt }

  set_pair_as : (which : KeyedKind) (c : SetPairCall) → RepliesAs key element (set_pair_told c) (set_pair_reply tools (order_by tools which) o source c)
  set_pair_as which set_pair_call.Union =
      by_source_as key element told.Done source _ _ (record { answer = λ none. tt }) (λ s seen. record { answer = λ none. tt })
  set_pair_as which set_pair_call.Intersection =
      by_source_as key element told.Done source _ _ (record { answer = λ none. tt }) (λ s seen. record { answer = λ none. tt })
  set_pair_as which set_pair_call.Difference =
      by_source_as key element told.Done source _ _ (record { answer = λ none. tt }) (λ s seen. record { answer = λ none. tt })
  set_pair_as which set_pair_call.SymmetricDifference =
      by_source_as key element told.Done source _ _ (record { answer = λ none. tt }) (λ s seen. record { answer = λ none. tt })
  set_pair_as which set_pair_call.Overlap = record { answer = λ none. tt }
  set_pair_as which set_pair_call.IsSubset = record { answer = λ none. tt }
  set_pair_as which set_pair_call.EquivalentSets = record { answer = λ none. tt }

  ordered_set_as : (which : KeyedKind) (c : OrderedSetCall) → RepliesAs key element told.Cursor (ordered_set_reply tools (order_by tools which) o args c)
  ordered_set_as which ordered_set_call.Floor = record { answer = λ none. tt }
  ordered_set_as which ordered_set_call.Ceiling = record { answer = λ none. tt }

  pub set_as : (which : KeyedKind) (op : Operation) → is_own_of_set which op ≡ true →
      RepliesAs key element (told_of op) (set_reply tools o source args which op)
  set_as which (operation.Common c) own =
      common_as key element o source args (set_own tools (order_by tools which) o) (set_element (order_by tools which)) c
  set_as which (operation.Walk c) own = walk_as key element o args c
  set_as which (operation.Set c) own = set_alone_as which c
  set_as which (operation.SetPair c) own = set_pair_as which c
  set_as of_hashed (operation.Capacity c) own = capacity_as key element o source args c
  set_as of_ordered (operation.Ordered c) own =
      ordered_as key element o args _ _
      (element_looked key element o tools makes (sequence.first_element_call o) (some_first o))
      (element_looked key element o tools makes (sequence.last_element_call o) (some_last o))
      c
  set_as of_ordered (operation.OrderedSet c) own = ordered_set_as of_ordered c
  set_as _ _ own = neither own

-- by key

texts_make : Makes Str texts
texts_make text = refl

keyed_make : Makes Str keyed_texts
keyed_make text = refl

key_element_there : (o : Object ℕ Text) (keys : Order Text) (k : Text) → (by_key.key_element_call key_of_text keys o k).reason ≡ None →
    is_some (by_key.key_element_call key_of_text keys o k).answer ≡ true
key_element_there o keys k none =
    let present = row_by (by_key.has_key key_of_text keys k) o.rows in
    some_mapped (λ (r : Row ℕ Text). r.value) present (not_false (is_some present) (test_passed (not (is_some present)) KeyAbsent [] none))

keyed_call_as : (o : Object ℕ Text) (args : Arguments) (which : KeyedKind) (c : KeyedCall) →
    RepliesAs Str Str (keyed_told c) (key_reply key_of_text (order_by texts which) o args c)
keyed_call_as o args which keyed_call.Key =
    key_looked Str Str o texts texts_make (by_key.key_call key_of_text o args.first.cursor)
    (λ none. some_mapped key_of_text (value_at o.rows (name_of args.first.cursor)) (some_looked o args.first.cursor none))
keyed_call_as o args which keyed_call.KeyElement =
    let keys = order_by texts which in
    let k = text_in args.first.value in
    element_looked Str Str o texts texts_make (by_key.key_element_call key_of_text keys o k) (key_element_there o keys k)
keyed_call_as o args which keyed_call.KeyFind = record { answer = λ none. tt }
keyed_call_as o args which keyed_call.KeyContains = record { answer = λ none. tt }
keyed_call_as o args which keyed_call.KeyExclude = record { answer = λ none. tt }
keyed_call_as o args which keyed_call.KeyDelete = record { answer = λ none. tt }
keyed_call_as o args which keyed_call.KeyReplace = record { answer = λ none. tt }
keyed_call_as o args which keyed_call.KeyFloor = record { answer = λ none. tt }
keyed_call_as o args which keyed_call.KeyCeiling = record { answer = λ none. tt }

pub keyed_set_as : (o : Object ℕ Text) (source : Source (Object ℕ Text)) (args : Arguments) (which : KeyedKind) (op : Operation) →
    is_own_of_keyed_set which op ≡ true → RepliesAs Str Str (told_of op) (keyed_set_reply o source args which op)
keyed_set_as o source args of_hashed (operation.Keyed keyed_call.KeyFloor) own = neither own
keyed_set_as o source args of_hashed (operation.Keyed keyed_call.KeyCeiling) own = neither own
keyed_set_as o source args of_hashed (operation.Keyed c) own = keyed_call_as o args of_hashed c
keyed_set_as o source args of_ordered (operation.Keyed c) own = keyed_call_as o args of_ordered c
keyed_set_as o source args which op own = set_as Str Str keyed_texts keyed_make o source args which op own

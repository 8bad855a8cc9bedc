-- What replies read by the letters: calls on maps and sets.
use Rattle.std.proofs.Common.{ℕ, refl, ap, Option}
use Rattle.ac_base.specs.Key.{key_of_text}
use Rattle.ac_model.specs.Keyed as keyed
use Rattle.ac_model.specs.Keyed.{Order}
use Rattle.ac_model.specs.Letters.{Mark}
use Rattle.ac_model.specs.Maps as map
use Rattle.ac_model.specs.Objects.{Object}
use Rattle.ac_model.specs.Rows.{Entry}
use Rattle.ac_model.specs.Sets as set
use Rattle.ac_syntax.specs.declared.kind.ElemKind.{ElemKind}
use Rattle.ac_syntax.specs.declared.kind.ElemKind.TheVariants.{Integer, Str}
use Rattle.ac_syntax.specs.declared.operation.Operation.{Operation}
use Rattle.ac_syntax.specs.declared.operation.Operation.TheVariants as operation
use Rattle.ac_syntax.specs.declared.operation.WalkCall.{WalkCall}
use Rattle.ac_syntax.specs.declared.operation.WalkCall.TheVariants as walk_call
use Rattle.ac_syntax.specs.declared.operation.OrderedCall.{OrderedCall}
use Rattle.ac_syntax.specs.declared.operation.OrderedCall.TheVariants as ordered_call
use Rattle.ac_syntax.specs.declared.operation.MapCall.{MapCall}
use Rattle.ac_syntax.specs.declared.operation.MapCall.TheVariants as map_call
use Rattle.ac_syntax.specs.declared.operation.OrderedMapCall.{OrderedMapCall}
use Rattle.ac_syntax.specs.declared.operation.OrderedMapCall.TheVariants as ordered_map_call
use Rattle.ac_syntax.specs.declared.operation.KeyedCall.{KeyedCall}
use Rattle.ac_syntax.specs.declared.operation.KeyedCall.TheVariants as keyed_call
use Rattle.ac_syntax.specs.declared.operation.SetCall.{SetCall}
use Rattle.ac_syntax.specs.declared.operation.SetCall.TheVariants as set_call
use Rattle.ac_syntax.specs.declared.operation.SetPairCall.{SetPairCall}
use Rattle.ac_syntax.specs.declared.operation.SetPairCall.TheVariants as set_pair_call
use Rattle.ac_syntax.specs.declared.operation.OrderedSetCall.{OrderedSetCall}
use Rattle.ac_syntax.specs.declared.operation.OrderedSetCall.TheVariants as ordered_set_call
use Rattle.ac_calls.specs.Answers.{answers_truth, answers_place}
use Rattle.ac_calls.specs.Elements.{Tools, ElementOf, tools_of, Text, texts, keyed_texts}
use Rattle.ac_calls.specs.KeyedReplies.{KeyedKind, of_hashed, of_ordered, order_by, changes_inserting, walk_reply, ordered_reply}
use Rattle.ac_calls.specs.KeyedSetReplies.{key_reply, keyed_set_reply}
use Rattle.ac_calls.specs.MapReplies.{map_own, map_alone_reply, ordered_map_reply, map_reply}
use Rattle.ac_calls.specs.Replies.{Arguments, Reply, changes_ok, tells}
use Rattle.ac_calls.specs.SetReplies.{set_own, set_alone_reply, set_pair_reply, ordered_set_reply, set_reply}
use Rattle.ac_meaning.proofs.ReadParts.{Reads, ReadsSame, reads_same, source_reads, other_reads}
use Rattle.ac_meaning.proofs.SequenceReads.{common_reads, capacity_reads}
use Rattle.ac_meaning.proofs.TableLetters.{walk_letters, ordered_letters, map_letters, ordered_map_letters, set_letters, set_pair_letters, ordered_set_letters, keyed_letters, letters_of}

module _ {V : Type 0} (key element : ElemKind) (see : Object ℕ V → Mark → Mark) (o : Object ℕ V) (given : Option (Object ℕ V)) (args : Arguments) where
  walk_reads : (c : WalkCall) → Reads key element (walk_letters c) see o given args (λ source a. walk_reply o a c)
  walk_reads walk_call.First = refl
  walk_reads walk_call.Next = refl
  walk_reads walk_call.Delete = refl

  ordered_reads : (first last : Reply (Object ℕ V)) (c : OrderedCall) →
      Reads key element (ordered_letters c) see o given args (λ source a. ordered_reply o a first last c)
  ordered_reads first last ordered_call.Previous = refl
  ordered_reads first last c = refl

-- Maps

abbrev MapRows : (k e : ElemKind) → Type 0
MapRows k e = Object ℕ (Entry (ElementOf k) (ElementOf e))

map_alone_reads : (k e : ElemKind) (which : KeyedKind) (see : MapRows k e → Mark → Mark) (o : MapRows k e) (given : Option (MapRows k e)) (args : Arguments)
    (c : MapCall) → Reads k e (map_letters c) see o given args (λ source a. map_alone_reply (tools_of k) (tools_of e) which o a c)
map_alone_reads k e which see o given args map_call.Key = refl
map_alone_reads Integer Integer which see o given args c = refl
map_alone_reads Integer Str which see o given args c = refl
map_alone_reads Str Integer which see o given args c = refl
map_alone_reads Str Str which see o given args c = refl

ordered_map_reads : (k e : ElemKind) (which : KeyedKind) (see : MapRows k e → Mark → Mark) (o : MapRows k e) (given : Option (MapRows k e))
    (args : Arguments) (c : OrderedMapCall) →
    Reads k e (ordered_map_letters c) see o given args (λ source a. ordered_map_reply (tools_of k) (tools_of e) which o a c)
ordered_map_reads k e which see o given args ordered_map_call.FirstKey = refl
ordered_map_reads k e which see o given args ordered_map_call.LastKey = refl
ordered_map_reads Integer e which see o given args c = refl
ordered_map_reads Str e which see o given args c = refl

pub map_reads : (k e : ElemKind) (which : KeyedKind) (see : MapRows k e → Mark → Mark) (o : MapRows k e) (given : Option (MapRows k e)) (args : Arguments)
    (op : Operation) → Reads k e (letters_of op) see o given args (λ source a. map_reply (tools_of k) (tools_of e) o source a which op)
map_reads k e which see o given args (operation.Common c) =
    common_reads k e see o given args (map_own (tools_of k) (tools_of e) which o) (λ at v. ap (map.replace_element_call o at) (reads_same e v)) c
map_reads k e which see o given args (operation.Walk c) = walk_reads k e see o given args c
map_reads k e which see o given args (operation.Map c) = map_alone_reads k e which see o given args c
map_reads k e of_hashed see o given args (operation.Capacity c) = capacity_reads k e see o given args c
map_reads k e of_ordered see o given args (operation.Ordered c) = ordered_reads k e see o given args _ _ c
map_reads k e of_ordered see o given args (operation.OrderedMap c) = ordered_map_reads k e of_ordered see o given args c
map_reads k e which see o given args op = refl

-- Sets, whose keys are their elements, in the order that the tools tell

module _ (e : ElemKind) (tools : Tools (ElementOf e)) (same : ReadsSame e tools) (see : Object ℕ (ElementOf e) → Mark → Mark)
    (o : Object ℕ (ElementOf e)) (given : Option (Object ℕ (ElementOf e))) (args : Arguments) where
  set_alone_reads : (order : Order (ElementOf e)) (c : SetCall) →
      Reads e e (set_letters c) see o given args (λ source a. set_alone_reply tools order o a c)
  set_alone_reads order set_call.Insert = ap (λ x. changes_ok (keyed.insert_call order o x)) (same args.first.value)
  set_alone_reads order set_call.InsertPos = ap (λ x. changes_inserting 1 (keyed.insert_pos_call order o x)) (same args.first.value)
  set_alone_reads order set_call.Include = ap (λ x. changes_ok (keyed.include_call order o x)) (same args.first.value)
  set_alone_reads order set_call.Replace = ap (λ x. changes_ok (set.replace_call order o x)) (same args.first.value)
  set_alone_reads order set_call.Exclude = ap (λ x. changes_ok (set.exclude_call order o x)) (same args.first.value)
  set_alone_reads order set_call.DeleteItem = ap (λ x. changes_ok (set.delete_item_call order o x)) (same args.first.value)
  set_alone_reads order set_call.Find = ap (λ x. tells o (answers_place (set.find_call order o x))) (same args.first.value)
  set_alone_reads order set_call.Contains = ap (λ x. tells o (answers_truth (set.contains_call order o x))) (same args.first.value)

  ordered_set_reads : (order : Order (ElementOf e)) (c : OrderedSetCall) →
      Reads e e (ordered_set_letters c) see o given args (λ source a. ordered_set_reply tools order o a c)
  ordered_set_reads order ordered_set_call.Floor = ap (λ x. tells o (answers_place (set.floor_call order o x))) (same args.first.value)
  ordered_set_reads order ordered_set_call.Ceiling = ap (λ x. tells o (answers_place (set.ceiling_call order o x))) (same args.first.value)

  set_pair_reads : (order : Order (ElementOf e)) (c : SetPairCall) →
      Reads e e (set_pair_letters c) see o given args (λ source a. set_pair_reply tools order o source c)
  set_pair_reads order set_pair_call.Union = source_reads see o given _ _ _ _ _ (λ s. refl)
  set_pair_reads order set_pair_call.Intersection = source_reads see o given _ _ _ _ _ (λ s. refl)
  set_pair_reads order set_pair_call.Difference = source_reads see o given _ _ _ _ _ (λ s. refl)
  set_pair_reads order set_pair_call.SymmetricDifference = source_reads see o given _ _ _ _ _ (λ s. refl)
  set_pair_reads order set_pair_call.Overlap = other_reads see o given _ _ (λ s. tells o (answers_truth (set.overlap_call order o s)))
  set_pair_reads order set_pair_call.IsSubset = other_reads see o given _ _ (λ s. tells o (answers_truth (set.is_subset_call order o s)))
  set_pair_reads order set_pair_call.EquivalentSets =
      other_reads see o given _ _ (λ s. tells o (answers_truth (set.equivalent_sets_call order o s)))

  pub set_reads : (which : KeyedKind) (op : Operation) → Reads e e (letters_of op) see o given args (λ source a. set_reply tools o source a which op)
  set_reads which (operation.Common c) =
      let order = order_by tools which in
      common_reads e e see o given args (set_own tools order o) (λ at v. ap (keyed.replace_element_call order o at) (same v)) c
  set_reads which (operation.Walk c) = walk_reads e e see o given args c
  set_reads which (operation.Set c) = set_alone_reads (order_by tools which) c
  set_reads which (operation.SetPair c) = set_pair_reads (order_by tools which) c
  set_reads of_hashed (operation.Capacity c) = capacity_reads e e see o given args c
  set_reads of_ordered (operation.Ordered c) = ordered_reads e e see o given args _ _ c
  set_reads of_ordered (operation.OrderedSet c) = ordered_set_reads (order_by tools of_ordered) c
  set_reads which op = refl

-- by key

module _ (see : Object ℕ Text → Mark → Mark) (o : Object ℕ Text) (given : Option (Object ℕ Text)) (args : Arguments) where
  key_reads : (which : KeyedKind) (c : KeyedCall) →
      Reads Str Str (keyed_letters c) see o given args (λ source a. key_reply key_of_text (order_by texts which) o a c)
  key_reads which keyed_call.Key = refl
  key_reads which c = refl

  pub keyed_set_reads : (which : KeyedKind) (op : Operation) →
      Reads Str Str (letters_of op) see o given args (λ source a. keyed_set_reply o source a which op)
  keyed_set_reads of_hashed (operation.Keyed keyed_call.KeyFloor) = refl
  keyed_set_reads of_hashed (operation.Keyed keyed_call.KeyCeiling) = refl
  keyed_set_reads of_hashed (operation.Keyed c) = key_reads of_hashed c
  keyed_set_reads of_ordered (operation.Keyed c) = key_reads of_ordered c
  keyed_set_reads which op = set_reads Str keyed_texts (reads_same Str) see o given args which op

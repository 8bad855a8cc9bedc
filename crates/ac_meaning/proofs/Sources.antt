-- The source of a call: none and the object itself are one. Only a listing answers a text, and a call that answers a value only looks, unless it is a queue's.
use Rattle.std.proofs.Common.{◌≡◌, ◌⊎◌, inl, inr, ◌==◌, ℕ, ℤ, List, Bool, true, false, refl, sym, ap, subst, ◌∙◌, eq-eqb, Option, Some, None, option_map, if◌then◌else◌}
use Rattle.std.specs.Prelude.{⊤}
use Rattle.ac_base.specs.declared.value.Value.{Value}
use Rattle.ac_base.specs.declared.value.Value.TheVariants.{Int}
use Rattle.ac_model.specs.Objects.{Object}
use Rattle.ac_model.specs.Calls.{Call, Done}
use Rattle.ac_model.specs.Holders.{Holder}
use Rattle.ac_model.specs.Queues.{Discipline, by_arrival, by_priority, dequeue_call, high_only_call, current_use_call, peak_use_call, TaskQueue}
use Rattle.ac_model.specs.Lists as list
use Rattle.ac_model.specs.Vectors as vector
use Rattle.ac_syntax.specs.declared.operation.Operation.{Operation}
use Rattle.ac_syntax.specs.declared.operation.Operation.TheVariants as operation
use Rattle.ac_syntax.specs.declared.operation.CommonCall.{CommonCall}
use Rattle.ac_syntax.specs.declared.operation.CommonCall.TheVariants as common_call
use Rattle.ac_syntax.specs.declared.operation.SequenceCall.{SequenceCall}
use Rattle.ac_syntax.specs.declared.operation.SequenceCall.TheVariants as sequence_call
use Rattle.ac_syntax.specs.declared.operation.CapacityCall.{CapacityCall}
use Rattle.ac_syntax.specs.declared.operation.CapacityCall.TheVariants as capacity_call
use Rattle.ac_syntax.specs.declared.operation.VectorCall.{VectorCall}
use Rattle.ac_syntax.specs.declared.operation.VectorCall.TheVariants as vector_call
use Rattle.ac_syntax.specs.declared.operation.ListCall.{ListCall}
use Rattle.ac_syntax.specs.declared.operation.ListCall.TheVariants as list_call
use Rattle.ac_syntax.specs.declared.operation.TreeCall.{TreeCall}
use Rattle.ac_syntax.specs.declared.operation.TreeCall.TheVariants as tree_call
use Rattle.ac_syntax.specs.declared.operation.TreeChangeCall.{TreeChangeCall}
use Rattle.ac_syntax.specs.declared.operation.TreeChangeCall.TheVariants as tree_change_call
use Rattle.ac_syntax.specs.declared.operation.HolderCall.{HolderCall}
use Rattle.ac_syntax.specs.declared.operation.HolderCall.TheVariants as holder_call
use Rattle.ac_syntax.specs.declared.operation.QueueCall.{QueueCall}
use Rattle.ac_syntax.specs.declared.operation.QueueCall.TheVariants as queue_call
use Rattle.ac_syntax.specs.declared.operation.WalkCall.{WalkCall}
use Rattle.ac_syntax.specs.declared.operation.WalkCall.TheVariants as walk_call
use Rattle.ac_syntax.specs.declared.operation.OrderedCall.{OrderedCall}
use Rattle.ac_syntax.specs.declared.operation.OrderedCall.TheVariants as ordered_call
use Rattle.ac_syntax.specs.declared.operation.MapCall.{MapCall}
use Rattle.ac_syntax.specs.declared.operation.MapCall.TheVariants as map_call
use Rattle.ac_syntax.specs.declared.operation.OrderedMapCall.{OrderedMapCall}
use Rattle.ac_syntax.specs.declared.operation.OrderedMapCall.TheVariants as ordered_map_call
use Rattle.ac_syntax.specs.declared.operation.SetCall.{SetCall}
use Rattle.ac_syntax.specs.declared.operation.SetCall.TheVariants as set_call
use Rattle.ac_syntax.specs.declared.operation.SetPairCall.{SetPairCall}
use Rattle.ac_syntax.specs.declared.operation.SetPairCall.TheVariants as set_pair_call
use Rattle.ac_syntax.specs.declared.operation.KeyedCall.{KeyedCall}
use Rattle.ac_syntax.specs.declared.operation.KeyedCall.TheVariants as keyed_call
use Rattle.ac_syntax.specs.declared.operation.OrderedSetCall.{OrderedSetCall}
use Rattle.ac_syntax.specs.declared.operation.OrderedSetCall.TheVariants as ordered_set_call
use Rattle.ac_model.specs.Rows.{Entry, Node}
use Rattle.ac_syntax.specs.declared.kind.ElemKind.{ElemKind}
use Rattle.ac_syntax.specs.declared.kind.ElemKind.TheVariants.{Integer, Str}
use Rattle.ac_calls.specs.Elements.{Tools, ElementOf, tools_of, Text, keyed_texts}
use Rattle.ac_calls.specs.Answers.{Answer, answers_ok, answers_value, answers_truth, answers_place, answers_list, answers_raised, answers_stalled}
use Rattle.ac_calls.specs.TreeReplies.{tree_own, tree_look_reply, tree_change_reply, tree_reply}
use Rattle.ac_calls.specs.HolderReplies.{holder_source, holder_element, holder_alone_reply, holder_reply}
use Rattle.ac_calls.specs.QueueReplies.{item_answer, high_reply, queue_alone_reply, queue_reply}
use Rattle.ac_calls.specs.Replies.{Arguments, Placed, Source, without, itself, another, by_source, arguments_seen, source_in, Reply, value_answer, carried}
use Rattle.ac_calls.specs.SequenceReplies.{OwnCalls, sequence_own, common_reply, sequence_reply, capacity_reply}
use Rattle.ac_calls.specs.ListReplies.{list_alone_reply, list_reply}
use Rattle.ac_calls.specs.VectorReplies.{vector_alone_reply, vector_reply}
use Rattle.ac_calls.specs.KeyedReplies.{KeyedKind, of_hashed, of_ordered, order_by, walk_reply, ordered_reply}
use Rattle.ac_calls.specs.MapReplies.{map_own, map_alone_reply, ordered_map_reply, map_reply}
use Rattle.ac_calls.specs.KeyedSetReplies.{keyed_set_reply}
use Rattle.ac_calls.specs.SetReplies.{set_own, set_alone_reply, set_pair_reply, ordered_set_reply, set_reply}
use Rattle.ac_calls.specs.Holdings.{SequenceKind, of_list, of_vector, RowKind, a_sequence, a_map, a_set, a_keyed_set, a_tree, RowOf, Held, of_rows, of_holder, of_queue, same_element, rows_in, holder_in, seen_in, own_calls, reply_by, rows_reply, reply_of}
use Rattle.ac_meaning.proofs.RowKinds.{rows_own}

-- None and itself

module _ {V : Type 0} (o : Object ℕ V) (args : Arguments) where
  common_own : (own : OwnCalls V) (c : CommonCall) → common_reply o without args own c ≡ common_reply o itself args own c
  common_own own common_call.IsEmpty = refl
  common_own own common_call.Clear = refl
  common_own own common_call.Assign = refl
  common_own own common_call.MoveFrom = refl
  common_own own common_call.Equal = refl
  common_own own common_call.HasElement = refl
  common_own own common_call.Element = refl
  common_own own common_call.ReplaceElement = refl
  common_own own common_call.Print = refl
  common_own own common_call.Length = refl

module _ {T : Type 0} (tools : Tools T) (o : Object ℕ T) (args : Arguments) where
  sequence_alone : (reverses sorts : Call (Object ℕ T) Done) (c : SequenceCall) →
      sequence_reply tools o without args reverses sorts c ≡ sequence_reply tools o itself args reverses sorts c
  sequence_alone reverses sorts sequence_call.Append = refl
  sequence_alone reverses sorts sequence_call.Prepend = refl
  sequence_alone reverses sorts sequence_call.Insert = refl
  sequence_alone reverses sorts sequence_call.InsertPos = refl
  sequence_alone reverses sorts sequence_call.Delete = refl
  sequence_alone reverses sorts sequence_call.DeleteFirst = refl
  sequence_alone reverses sorts sequence_call.DeleteLast = refl
  sequence_alone reverses sorts sequence_call.First = refl
  sequence_alone reverses sorts sequence_call.Last = refl
  sequence_alone reverses sorts sequence_call.FirstElement = refl
  sequence_alone reverses sorts sequence_call.LastElement = refl
  sequence_alone reverses sorts sequence_call.Next = refl
  sequence_alone reverses sorts sequence_call.Previous = refl
  sequence_alone reverses sorts sequence_call.Find = refl
  sequence_alone reverses sorts sequence_call.ReverseFind = refl
  sequence_alone reverses sorts sequence_call.Contains = refl
  sequence_alone reverses sorts sequence_call.Swap = refl
  sequence_alone reverses sorts sequence_call.ReverseElements = refl
  sequence_alone reverses sorts sequence_call.Sort = refl
  sequence_alone reverses sorts sequence_call.IsSorted = refl
  sequence_alone reverses sorts sequence_call.Merge = refl

  links_alone : (c : ListCall) → list_alone_reply tools o without args c ≡ list_alone_reply tools o itself args c
  links_alone list_call.SwapLinks = refl
  links_alone list_call.Splice = refl
  links_alone list_call.SpliceOne = refl
  links_alone list_call.SpliceWithin = refl

  list_alone : (op : Operation) → list_reply tools o without args op ≡ list_reply tools o itself args op
  list_alone (operation.Common c) = common_own o args (sequence_own tools o) c
  list_alone (operation.Sequence c) = sequence_alone (list.reverse_elements_call o) (list.sort_call tools.less o) c
  list_alone (operation.List c) = links_alone c
  list_alone _ = refl

  indexed_alone : (c : VectorCall) → vector_alone_reply tools o without args c ≡ vector_alone_reply tools o itself args c
  indexed_alone vector_call.SetLength = refl
  indexed_alone vector_call.ToCursor = refl
  indexed_alone vector_call.ToIndex = refl
  indexed_alone vector_call.FirstIndex = refl
  indexed_alone vector_call.LastIndex = refl
  indexed_alone vector_call.ElementIndex = refl
  indexed_alone vector_call.ReplaceIndex = refl
  indexed_alone vector_call.SwapIndex = refl
  indexed_alone vector_call.InsertIndex = refl
  indexed_alone vector_call.InsertVectorIndex = refl
  indexed_alone vector_call.InsertVector = refl
  indexed_alone vector_call.InsertVectorPos = refl
  indexed_alone vector_call.AppendVector = refl
  indexed_alone vector_call.PrependVector = refl
  indexed_alone vector_call.DeleteIndex = refl
  indexed_alone vector_call.FindIndex = refl
  indexed_alone vector_call.ReverseFindIndex = refl

  vector_alone : (op : Operation) → vector_reply tools o without args op ≡ vector_reply tools o itself args op
  vector_alone (operation.Common c) = common_own o args (sequence_own tools o) c
  vector_alone (operation.Sequence c) = sequence_alone (vector.reverse_elements_call o) (vector.sort_call tools.less o) c
  vector_alone (operation.Vector c) = indexed_alone c
  vector_alone _ = refl

  pub reply_alone : (which : SequenceKind) (op : Operation) → reply_by tools o without args which op ≡ reply_by tools o itself args which op
  reply_alone of_list op = list_alone op
  reply_alone of_vector op = vector_alone op

pub if_true : {A : Type 0} (x y : A) (b : Bool) → b ≡ true → (if b then x else y) ≡ x
if_true x y true e = refl
if_true x y false e = absurd (cc)

pub if_false : {A : Type 0} (x y : A) (b : Bool) → b ≡ false → (if b then x else y) ≡ y
if_false x y true e = absurd (cc)
if_false x y false e = refl

-- the reply by the object as its own source, and with none
own_source : {T : Type 0} (o : Object ℕ T) (args : Arguments) → (if o.number == o.number then itself else another o args) ≡ itself
own_source o args = if_true itself (another o args) (o.number == o.number) (eq-eqb o.number o.number refl)

module _ {K T : Type 0} (keys : Tools K) (tools : Tools T) (o : Object ℕ (Entry K T)) (args : Arguments) where
  map_alone : (which : KeyedKind) (op : Operation) → map_reply keys tools o without args which op ≡ map_reply keys tools o itself args which op
  map_alone which (operation.Common c) = common_own o args (map_own keys tools which o) c
  map_alone of_hashed _ = refl
  map_alone of_ordered _ = refl

module _ {T : Type 0} (tools : Tools T) (o : Object ℕ T) (args : Arguments) where
  pair_alone : (which : KeyedKind) (c : SetPairCall) → set_pair_reply tools (order_by tools which) o without c ≡ set_pair_reply tools (order_by tools which) o itself c
  pair_alone which set_pair_call.Union = refl
  pair_alone which set_pair_call.Intersection = refl
  pair_alone which set_pair_call.Difference = refl
  pair_alone which set_pair_call.SymmetricDifference = refl
  pair_alone which set_pair_call.Overlap = refl
  pair_alone which set_pair_call.IsSubset = refl
  pair_alone which set_pair_call.EquivalentSets = refl

  set_alone : (which : KeyedKind) (op : Operation) → set_reply tools o without args which op ≡ set_reply tools o itself args which op
  set_alone which (operation.Common c) = common_own o args (set_own tools (order_by tools which) o) c
  set_alone which (operation.SetPair c) = pair_alone which c
  set_alone of_hashed _ = refl
  set_alone of_ordered _ = refl

module _ (o : Object ℕ Text) (args : Arguments) where
  keyed_alone : (which : KeyedKind) (op : Operation) → keyed_set_reply o without args which op ≡ keyed_set_reply o itself args which op
  keyed_alone of_hashed (operation.Common c) = common_own o args (set_own keyed_texts (order_by keyed_texts of_hashed) o) c
  keyed_alone of_hashed (operation.SetPair c) = pair_alone keyed_texts o args of_hashed c
  keyed_alone of_hashed (operation.Keyed c) = refl
  keyed_alone of_hashed _ = refl
  keyed_alone of_ordered (operation.Common c) = common_own o args (set_own keyed_texts (order_by keyed_texts of_ordered) o) c
  keyed_alone of_ordered (operation.SetPair c) = pair_alone keyed_texts o args of_ordered c
  keyed_alone of_ordered (operation.Keyed c) = refl
  keyed_alone of_ordered _ = refl

module _ {T : Type 0} (tools : Tools T) (o : Object ℕ (Node T)) (args : Arguments) where
  tree_change_alone : (c : TreeChangeCall) → tree_change_reply tools o without args c ≡ tree_change_reply tools o itself args c
  tree_change_alone tree_change_call.InsertChild = refl
  tree_change_alone tree_change_call.InsertChildPos = refl
  tree_change_alone tree_change_call.AppendChild = refl
  tree_change_alone tree_change_call.PrependChild = refl
  tree_change_alone tree_change_call.DeleteLeaf = refl
  tree_change_alone tree_change_call.DeleteSubtree = refl
  tree_change_alone tree_change_call.DeleteChildren = refl
  tree_change_alone tree_change_call.Swap = refl
  tree_change_alone tree_change_call.CopySubtree = refl
  tree_change_alone tree_change_call.SpliceSubtreeFrom = refl
  tree_change_alone tree_change_call.SpliceSubtree = refl
  tree_change_alone tree_change_call.SpliceChildrenFrom = refl
  tree_change_alone tree_change_call.SpliceChildren = refl

  tree_alone : (op : Operation) → tree_reply tools o without args op ≡ tree_reply tools o itself args op
  tree_alone (operation.Common c) = common_own o args (tree_own tools o) c
  tree_alone (operation.TreeChange c) = tree_change_alone c
  tree_alone _ = refl

pub rows_alone : (kind : RowKind) (o : Object ℕ (RowOf kind)) (op : Operation) (args : Arguments) →
    rows_reply kind o without args op ≡ rows_reply kind o itself args op
rows_alone (a_sequence which e) o op args = reply_alone (tools_of e) o args which op
rows_alone (a_map which k e) o op args = map_alone (tools_of k) (tools_of e) o args which op
rows_alone (a_set which e) o op args = set_alone (tools_of e) o args which op
rows_alone (a_keyed_set which) o op args = keyed_alone o args which op
rows_alone (a_tree e) o op args = tree_alone (tools_of e) o args op

-- a holder is of its own element type
element_is : (e : ElemKind) → same_element e e ≡ Some refl
element_is Integer = refl
element_is Str = refl

pub holder_own : (e : ElemKind) (h : Holder (ElementOf e)) → holder_in e (Some (of_holder e h)) ≡ Some h
holder_own e h =
    ap (option_map (λ (p : e ≡ e). coe 0 1 (i. Holder (ElementOf (p i))) h)) (element_is e) ∙ (λ i. Some (coe i 1 (j. Holder (ElementOf e)) h))

module _ {T : Type 0} (tools : Tools T) (h : Holder T) (args : Arguments) where
  holder_call_alone : (c : HolderCall) → holder_alone_reply tools h without args c ≡ holder_alone_reply tools h itself args c
  holder_call_alone holder_call.IsEmpty = refl
  holder_call_alone holder_call.Element = refl
  holder_call_alone holder_call.ReplaceElement = refl
  holder_call_alone holder_call.Clear = refl
  holder_call_alone holder_call.Assign = refl
  holder_call_alone holder_call.MoveFrom = refl
  holder_call_alone holder_call.Swap = refl
  holder_call_alone holder_call.Equal = refl
  holder_call_alone holder_call.Print = refl

  holder_alone : (op : Operation) → holder_reply tools h without args op ≡ holder_reply tools h itself args op
  holder_alone (operation.Holder c) = holder_call_alone c
  holder_alone _ = refl

pub itself_alone : (h : Held) (op : Operation) (args : Arguments) → reply_of h (Some h) op args ≡ reply_of h None op args
itself_alone (of_rows kind o) op args =
    let seen = arguments_seen (seen_in kind o) args in
    ap (λ s. carried (of_rows kind) (rows_reply kind o (source_in (seen_in kind) o s args) seen op)) (rows_own kind o)
    ∙ (ap (λ s. carried (of_rows kind) (rows_reply kind o s seen op)) (own_source o seen)
    ∙ ap (carried (of_rows kind)) (sym (rows_alone kind o op seen)))
itself_alone (of_holder e h) op args =
    ap (λ s. carried (of_holder e) (holder_reply (tools_of e) h (holder_source h s args) args op)) (holder_own e h)
    ∙ (ap (λ s. carried (of_holder e) (holder_reply (tools_of e) h s args op))
    (if_true itself (another h args) (h.number == h.number) (eq-eqb h.number h.number refl))
    ∙ ap (carried (of_holder e)) (sym (holder_alone (tools_of e) h args op)))
itself_alone (of_queue number q) op args = refl

-- Listings and values

-- a listing is that of the object, which stays as it was, and so do all things where a value is answered
abbrev Lists : {V : Type 0} → (listing : List ℕ) → (o after : Object ℕ V) → Option (Object ℕ V) → Option Placed → Answer → Type 0
Lists listing o after source variable answers_ok = ⊤
Lists listing o after source variable (answers_value _) = (after ≡ o) × (source ≡ None) × (variable ≡ None)
Lists listing o after source variable (answers_truth _) = ⊤
Lists listing o after source variable (answers_place _) = ⊤
Lists listing o after source variable (answers_list text) = (text ≡ listing) × (after ≡ o)
Lists listing o after source variable (answers_raised _) = ⊤
Lists listing o after source variable answers_stalled = ⊤

value_lists : {V : Type 0} (listing : List ℕ) (o : Object ℕ V) (v : Option Value) → Lists listing o o None None (value_answer v)
value_lists listing o None = tt
value_lists listing o (Some v) = (refl, refl, refl)

abbrev ReplyLists : {V : Type 0} → (listing : List ℕ) → Object ℕ V → Reply (Object ℕ V) → Type 0
ReplyLists listing o r = Lists listing o r.after r.source r.variable r.answer

by_source_lists : {V : Type 0} (listing : List ℕ) (o : Object ℕ V) (source : Source (Object ℕ V)) (own : Reply (Object ℕ V))
    (two : Object ℕ V → Arguments → Reply (Object ℕ V)) → ReplyLists listing o own →
    ((s : Object ℕ V) (args : Arguments) → ReplyLists listing o (two s args)) → ReplyLists listing o (by_source source own two)
by_source_lists listing o without own two h k = h
by_source_lists listing o itself own two h k = h
by_source_lists listing o (another s args) own two h k = k s args

module _ {V : Type 0} (listing : List ℕ) (o : Object ℕ V) (args : Arguments) where
  capacity_lists : (c : CapacityCall) → ReplyLists listing o (capacity_reply o args c)
  capacity_lists capacity_call.Capacity = (refl, refl, refl)
  capacity_lists capacity_call.ReserveCapacity = tt

module _ {V : Type 0} (o : Object ℕ V) (source : Source (Object ℕ V)) (args : Arguments) where
  common_lists : (own : OwnCalls V) (c : CommonCall) → ReplyLists own.listing o (common_reply o source args own c)
  common_lists own common_call.IsEmpty = tt
  common_lists own common_call.Clear = tt
  common_lists own common_call.Assign = by_source_lists own.listing o source _ _ tt (λ s seen. tt)
  common_lists own common_call.MoveFrom = by_source_lists own.listing o source _ _ tt (λ s seen. tt)
  common_lists own common_call.Equal = tt
  common_lists own common_call.HasElement = tt
  common_lists own common_call.Element = value_lists own.listing o _
  common_lists own common_call.ReplaceElement = tt
  common_lists own common_call.Print = (refl, refl)
  common_lists own common_call.Length = (refl, refl, refl)

module _ {T : Type 0} (tools : Tools T) (o : Object ℕ T) (source : Source (Object ℕ T)) (args : Arguments) where
  sequence_lists : (listing : List ℕ) (reverses sorts : Call (Object ℕ T) Done) (c : SequenceCall) →
      ReplyLists listing o (sequence_reply tools o source args reverses sorts c)
  sequence_lists listing reverses sorts sequence_call.FirstElement = value_lists listing o _
  sequence_lists listing reverses sorts sequence_call.LastElement = value_lists listing o _
  sequence_lists listing reverses sorts sequence_call.Merge = by_source_lists listing o source _ _ tt (λ s seen. tt)
  sequence_lists listing reverses sorts _ = tt

  alone_lists : (listing : List ℕ) (c : ListCall) → ReplyLists listing o (list_alone_reply tools o source args c)
  alone_lists listing list_call.Splice = by_source_lists listing o source _ _ tt (λ s seen. tt)
  alone_lists listing list_call.SpliceOne = by_source_lists listing o source _ _ tt (λ s seen. tt)
  alone_lists listing _ = tt

  list_lists : (op : Operation) → ReplyLists (sequence_own tools o).listing o (list_reply tools o source args op)
  list_lists (operation.Common c) = common_lists o source args (sequence_own tools o) c
  list_lists (operation.Sequence c) =
      sequence_lists (sequence_own tools o).listing (list.reverse_elements_call o) (list.sort_call tools.less o) c
  list_lists (operation.List c) = alone_lists (sequence_own tools o).listing c
  list_lists _ = tt

  indexed_lists : (listing : List ℕ) (c : VectorCall) → ReplyLists listing o (vector_alone_reply tools o source args c)
  indexed_lists listing vector_call.ToIndex = (refl, refl, refl)
  indexed_lists listing vector_call.FirstIndex = (refl, refl, refl)
  indexed_lists listing vector_call.LastIndex = (refl, refl, refl)
  indexed_lists listing vector_call.FindIndex = (refl, refl, refl)
  indexed_lists listing vector_call.ReverseFindIndex = (refl, refl, refl)
  indexed_lists listing vector_call.ElementIndex = value_lists listing o _
  indexed_lists listing vector_call.InsertVectorIndex = by_source_lists listing o source _ _ tt (λ s seen. tt)
  indexed_lists listing vector_call.InsertVector = by_source_lists listing o source _ _ tt (λ s seen. tt)
  indexed_lists listing vector_call.InsertVectorPos = by_source_lists listing o source _ _ tt (λ s seen. tt)
  indexed_lists listing vector_call.AppendVector = by_source_lists listing o source _ _ tt (λ s seen. tt)
  indexed_lists listing vector_call.PrependVector = by_source_lists listing o source _ _ tt (λ s seen. tt)
  indexed_lists listing _ = tt

  vector_lists : (op : Operation) → ReplyLists (sequence_own tools o).listing o (vector_reply tools o source args op)
  vector_lists (operation.Common c) = common_lists o source args (sequence_own tools o) c
  vector_lists (operation.Sequence c) =
      sequence_lists (sequence_own tools o).listing (vector.reverse_elements_call o) (vector.sort_call tools.less o) c
  vector_lists (operation.Capacity c) = capacity_lists (sequence_own tools o).listing o args c
  vector_lists (operation.Vector c) = indexed_lists (sequence_own tools o).listing c
  vector_lists _ = tt

  each_lists : (which : SequenceKind) (op : Operation) → ReplyLists (sequence_own tools o).listing o (reply_by tools o source args which op)
  each_lists of_list op = list_lists op
  each_lists of_vector op = vector_lists op

module _ {V : Type 0} (listing : List ℕ) (o : Object ℕ V) (args : Arguments) where
  walk_lists : (c : WalkCall) → ReplyLists listing o (walk_reply o args c)
  walk_lists walk_call.First = tt
  walk_lists walk_call.Next = tt
  walk_lists walk_call.Delete = tt

  ordered_lists : (first last : Reply (Object ℕ V)) → ReplyLists listing o first → ReplyLists listing o last → (c : OrderedCall) →
      ReplyLists listing o (ordered_reply o args first last c)
  ordered_lists first last h k ordered_call.Last = tt
  ordered_lists first last h k ordered_call.Previous = tt
  ordered_lists first last h k ordered_call.DeleteFirst = tt
  ordered_lists first last h k ordered_call.DeleteLast = tt
  ordered_lists first last h k ordered_call.FirstElement = h
  ordered_lists first last h k ordered_call.LastElement = k

module _ {K T : Type 0} (keys : Tools K) (tools : Tools T) (o : Object ℕ (Entry K T)) (source : Source (Object ℕ (Entry K T))) (args : Arguments) where
  map_alone_lists : (which : KeyedKind) (listing : List ℕ) (c : MapCall) → ReplyLists listing o (map_alone_reply keys tools which o args c)
  map_alone_lists which listing map_call.Key = value_lists listing o _
  map_alone_lists which listing map_call.ElementKey = value_lists listing o _
  map_alone_lists which listing _ = tt

  ordered_map_lists : (which : KeyedKind) (listing : List ℕ) (c : OrderedMapCall) → ReplyLists listing o (ordered_map_reply keys tools which o args c)
  ordered_map_lists which listing ordered_map_call.FirstKey = value_lists listing o _
  ordered_map_lists which listing ordered_map_call.LastKey = value_lists listing o _
  ordered_map_lists which listing _ = tt

  map_lists : (which : KeyedKind) (op : Operation) → ReplyLists (map_own keys tools which o).listing o (map_reply keys tools o source args which op)
  map_lists which (operation.Common c) = common_lists o source args (map_own keys tools which o) c
  map_lists which (operation.Walk c) = walk_lists (map_own keys tools which o).listing o args c
  map_lists which (operation.Map c) = map_alone_lists which (map_own keys tools which o).listing c
  map_lists of_hashed (operation.Capacity c) = capacity_lists (map_own keys tools of_hashed o).listing o args c
  map_lists of_ordered (operation.Ordered c) =
      ordered_lists (map_own keys tools of_ordered o).listing o args _ _ (value_lists (map_own keys tools of_ordered o).listing o _)
      (value_lists (map_own keys tools of_ordered o).listing o _) c
  map_lists of_ordered (operation.OrderedMap c) = ordered_map_lists of_ordered (map_own keys tools of_ordered o).listing c
  map_lists of_hashed _ = tt
  map_lists of_ordered _ = tt

module _ {T : Type 0} (tools : Tools T) (o : Object ℕ T) (source : Source (Object ℕ T)) (args : Arguments) where
  set_alone_lists : (which : KeyedKind) (listing : List ℕ) (c : SetCall) → ReplyLists listing o (set_alone_reply tools (order_by tools which) o args c)
  set_alone_lists which listing set_call.Insert = tt
  set_alone_lists which listing _ = tt

  set_pair_lists : (which : KeyedKind) (listing : List ℕ) (c : SetPairCall) → ReplyLists listing o (set_pair_reply tools (order_by tools which) o source c)
  set_pair_lists which listing set_pair_call.Union = by_source_lists listing o source _ _ tt (λ s seen. tt)
  set_pair_lists which listing set_pair_call.Intersection = by_source_lists listing o source _ _ tt (λ s seen. tt)
  set_pair_lists which listing set_pair_call.Difference = by_source_lists listing o source _ _ tt (λ s seen. tt)
  set_pair_lists which listing set_pair_call.SymmetricDifference = by_source_lists listing o source _ _ tt (λ s seen. tt)
  set_pair_lists which listing _ = tt

  ordered_set_lists : (which : KeyedKind) (listing : List ℕ) (c : OrderedSetCall) → ReplyLists listing o (ordered_set_reply tools (order_by tools which) o args c)
  ordered_set_lists which listing ordered_set_call.Floor = tt
  ordered_set_lists which listing ordered_set_call.Ceiling = tt

  set_lists : (which : KeyedKind) (op : Operation) → ReplyLists (set_own tools (order_by tools which) o).listing o (set_reply tools o source args which op)
  set_lists which (operation.Common c) = common_lists o source args (set_own tools (order_by tools which) o) c
  set_lists which (operation.Walk c) = walk_lists (set_own tools (order_by tools which) o).listing o args c
  set_lists which (operation.Set c) = set_alone_lists which (set_own tools (order_by tools which) o).listing c
  set_lists which (operation.SetPair c) = set_pair_lists which (set_own tools (order_by tools which) o).listing c
  set_lists of_hashed (operation.Capacity c) = capacity_lists (set_own tools (order_by tools of_hashed) o).listing o args c
  set_lists of_ordered (operation.Ordered c) =
      ordered_lists (set_own tools (order_by tools of_ordered) o).listing o args _ _ (value_lists (set_own tools (order_by tools of_ordered) o).listing o _)
      (value_lists (set_own tools (order_by tools of_ordered) o).listing o _) c
  set_lists of_ordered (operation.OrderedSet c) = ordered_set_lists of_ordered (set_own tools (order_by tools of_ordered) o).listing c
  set_lists of_hashed _ = tt
  set_lists of_ordered _ = tt

module _ (o : Object ℕ Text) (source : Source (Object ℕ Text)) (args : Arguments) where
  key_lists : (which : KeyedKind) (listing : List ℕ) (c : KeyedCall) → ReplyLists listing o (keyed_set_reply o source args which (operation.Keyed c))
  key_lists of_hashed listing keyed_call.Key = value_lists listing o _
  key_lists of_hashed listing keyed_call.KeyElement = value_lists listing o _
  key_lists of_hashed listing _ = tt
  key_lists of_ordered listing keyed_call.Key = value_lists listing o _
  key_lists of_ordered listing keyed_call.KeyElement = value_lists listing o _
  key_lists of_ordered listing _ = tt

  keyed_lists : (which : KeyedKind) (op : Operation) → ReplyLists (set_own keyed_texts (order_by keyed_texts which) o).listing o (keyed_set_reply o source args which op)
  keyed_lists of_hashed (operation.Common c) = set_lists keyed_texts o source args of_hashed (operation.Common c)
  keyed_lists of_hashed (operation.Walk c) = set_lists keyed_texts o source args of_hashed (operation.Walk c)
  keyed_lists of_hashed (operation.Set c) = set_lists keyed_texts o source args of_hashed (operation.Set c)
  keyed_lists of_hashed (operation.SetPair c) = set_lists keyed_texts o source args of_hashed (operation.SetPair c)
  keyed_lists of_hashed (operation.Capacity c) = set_lists keyed_texts o source args of_hashed (operation.Capacity c)
  keyed_lists of_hashed (operation.Keyed c) = key_lists of_hashed (set_own keyed_texts (order_by keyed_texts of_hashed) o).listing c
  keyed_lists of_hashed _ = tt
  keyed_lists of_ordered (operation.Common c) = set_lists keyed_texts o source args of_ordered (operation.Common c)
  keyed_lists of_ordered (operation.Walk c) = set_lists keyed_texts o source args of_ordered (operation.Walk c)
  keyed_lists of_ordered (operation.Set c) = set_lists keyed_texts o source args of_ordered (operation.Set c)
  keyed_lists of_ordered (operation.SetPair c) = set_lists keyed_texts o source args of_ordered (operation.SetPair c)
  keyed_lists of_ordered (operation.Ordered c) = set_lists keyed_texts o source args of_ordered (operation.Ordered c)
  keyed_lists of_ordered (operation.OrderedSet c) = set_lists keyed_texts o source args of_ordered (operation.OrderedSet c)
  keyed_lists of_ordered (operation.Keyed c) = key_lists of_ordered (set_own keyed_texts (order_by keyed_texts of_ordered) o).listing c
  keyed_lists of_ordered _ = tt

module _ {T : Type 0} (tools : Tools T) (o : Object ℕ (Node T)) (source : Source (Object ℕ (Node T))) (args : Arguments) where
  tree_look_lists : (listing : List ℕ) (c : TreeCall) → ReplyLists listing o (tree_look_reply tools o args c)
  tree_look_lists listing tree_call.NodeCount = (refl, refl, refl)
  tree_look_lists listing tree_call.Depth = (refl, refl, refl)
  tree_look_lists listing tree_call.SubtreeNodeCount = (refl, refl, refl)
  tree_look_lists listing tree_call.ChildCount = (refl, refl, refl)
  tree_look_lists listing _ = tt

  tree_change_lists : (listing : List ℕ) (c : TreeChangeCall) → ReplyLists listing o (tree_change_reply tools o source args c)
  tree_change_lists listing tree_change_call.CopySubtree = by_source_lists listing o source _ _ tt (λ s seen. tt)
  tree_change_lists listing tree_change_call.SpliceSubtreeFrom = by_source_lists listing o source _ _ tt (λ s seen. tt)
  tree_change_lists listing tree_change_call.SpliceChildrenFrom = by_source_lists listing o source _ _ tt (λ s seen. tt)
  tree_change_lists listing _ = tt

  tree_lists : (op : Operation) → ReplyLists (tree_own tools o).listing o (tree_reply tools o source args op)
  tree_lists (operation.Common c) = common_lists o source args (tree_own tools o) c
  tree_lists (operation.Tree c) = tree_look_lists (tree_own tools o).listing c
  tree_lists (operation.TreeChange c) = tree_change_lists (tree_own tools o).listing c
  tree_lists _ = tt

rows_lists : (kind : RowKind) (o : Object ℕ (RowOf kind)) (source : Source (Object ℕ (RowOf kind))) (args : Arguments) (op : Operation) →
    ReplyLists (own_calls kind o).listing o (rows_reply kind o source args op)
rows_lists (a_sequence which e) o source args op = each_lists (tools_of e) o source args which op
rows_lists (a_map which k e) o source args op = map_lists (tools_of k) (tools_of e) o source args which op
rows_lists (a_set which e) o source args op = set_lists (tools_of e) o source args which op
rows_lists (a_keyed_set which) o source args op = keyed_lists o source args which op
rows_lists (a_tree e) o source args op = tree_lists (tools_of e) o source args op

pub listed : (kind : RowKind) (o : Object ℕ (RowOf kind)) (source : Source (Object ℕ (RowOf kind))) (args : Arguments) (op : Operation) (text : List ℕ) →
    (rows_reply kind o source args op).answer ≡ answers_list text → (text ≡ (own_calls kind o).listing) × ((rows_reply kind o source args op).after ≡ o)
listed kind o source args op text e =
    let r = rows_reply kind o source args op in
    subst (λ a. Lists (own_calls kind o).listing o r.after r.source r.variable a) e (rows_lists kind o source args op)

-- a call that answers a value changes nothing
pub record Looks {S : Type 0} (s : S) (r : Reply S) : Type 0 where
  pub after : r.after ≡ s
  pub source : r.source ≡ None
  pub variable : r.variable ≡ None

rows_look : (kind : RowKind) (o : Object ℕ (RowOf kind)) (source : Source (Object ℕ (RowOf kind))) (args : Arguments) (op : Operation) (v : Value) →
    (rows_reply kind o source args op).answer ≡ answers_value v → Looks o (rows_reply kind o source args op)
rows_look kind o source args op v e =
    let r = rows_reply kind o source args op in
    let l = subst (λ a. Lists (own_calls kind o).listing o r.after r.source r.variable a) e (rows_lists kind o source args op) in
    record { after = l.0; source = l.1; variable = l.2 }

-- of a holder

abbrev IfValue : Answer → Type 0 → Type 0
IfValue (answers_value _) A = A
IfValue _ A = ⊤

if_value : (a : Answer) (A : Type 0) → A → IfValue a A
if_value answers_ok A x = tt
if_value (answers_value _) A x = x
if_value (answers_truth _) A x = tt
if_value (answers_place _) A x = tt
if_value (answers_list _) A x = tt
if_value (answers_raised _) A x = tt
if_value answers_stalled A x = tt

abbrev HolderLooks : {T : Type 0} → Holder T → Reply (Holder T) → Type 0
HolderLooks h r = IfValue r.answer (Looks h r)

holder_by_source : {T : Type 0} (h : Holder T) (source : Source (Holder T)) (own : Reply (Holder T)) (two : Holder T → Arguments → Reply (Holder T)) →
    HolderLooks h own → ((s : Holder T) (args : Arguments) → HolderLooks h (two s args)) → HolderLooks h (by_source source own two)
holder_by_source h without own two f g = f
holder_by_source h itself own two f g = f
holder_by_source h (another s args) own two f g = g s args

module _ {T : Type 0} (tools : Tools T) (h : Holder T) (source : Source (Holder T)) (args : Arguments) where
  holder_call_looks : (c : HolderCall) → HolderLooks h (holder_alone_reply tools h source args c)
  holder_call_looks holder_call.IsEmpty = tt
  holder_call_looks holder_call.Element =
      if_value (value_answer (holder_element tools h).answer) _ (record { after = refl; source = refl; variable = refl })
  holder_call_looks holder_call.ReplaceElement = tt
  holder_call_looks holder_call.Clear = tt
  holder_call_looks holder_call.Assign = holder_by_source h source _ _ tt (λ s seen. tt)
  holder_call_looks holder_call.MoveFrom = holder_by_source h source _ _ tt (λ s seen. tt)
  holder_call_looks holder_call.Swap = holder_by_source h source _ _ tt (λ s seen. tt)
  holder_call_looks holder_call.Equal = tt
  holder_call_looks holder_call.Print = tt

  holder_looks : (op : Operation) → HolderLooks h (holder_reply tools h source args op)
  holder_looks (operation.Holder c) = holder_call_looks c
  holder_looks _ = tt

-- a queue answers a value that is an integer, and its item may have left

-- an integer
abbrev pub IsInteger : Value → Type 0
IsInteger v = (n : ℤ) × (v ≡ Int n)

abbrev OnlyIntegers : Answer → Type 0
OnlyIntegers (answers_value v) = IsInteger v
OnlyIntegers _ = ⊤

integer_items : (item : Option ℤ) → OnlyIntegers (item_answer item)
integer_items None = tt
integer_items (Some n) = (n, refl)

high_integers : (d : Discipline) (q : TaskQueue) (at_least : ℤ) → OnlyIntegers (high_reply d q at_least).answer
high_integers by_arrival q at_least = tt
high_integers by_priority q at_least = integer_items (high_only_call q.queue at_least).answer

module _ (q : TaskQueue) (args : Arguments) where
  queue_call_integers : (c : QueueCall) → OnlyIntegers (queue_alone_reply q args c).answer
  queue_call_integers queue_call.Enqueue = tt
  queue_call_integers queue_call.Dequeue = integer_items (dequeue_call q.queue).answer
  queue_call_integers queue_call.CurrentUse = (current_use_call q.queue, refl)
  queue_call_integers queue_call.PeakUse = (peak_use_call q.queue, refl)
  queue_call_integers queue_call.Print = tt
  queue_call_integers queue_call.DequeueOnlyHighPriority = high_integers q.discipline q args.first.count

  queue_integers : (op : Operation) → OnlyIntegers (queue_reply q args op).answer
  queue_integers (operation.Queue c) = queue_call_integers c
  queue_integers _ = tt

-- and of any object
pub values_look : (h : Held) (source : Option Held) (op : Operation) (args : Arguments) (v : Value) →
    (reply_of h source op args).answer ≡ answers_value v → Looks h (reply_of h source op args) ⊎ IsInteger v
values_look (of_rows kind o) source op args v e =
    let l = rows_look kind o (source_in (seen_in kind) o (rows_in kind source) args) (arguments_seen (seen_in kind o) args) op v e in
    inl (record { after = ap (of_rows kind) l.after; source = ap (option_map (of_rows kind)) l.source; variable = l.variable })
values_look (of_holder e h) source op args v is =
    let s = holder_source h (holder_in e source) args in
    let r = holder_reply (tools_of e) h s args op in
    let l : Looks h r = subst (λ a. IfValue a (Looks h r)) is (holder_looks (tools_of e) h s args op) in
    inl (record { after = ap (of_holder e) l.after; source = ap (option_map (of_holder e)) l.source; variable = l.variable })
values_look (of_queue number q) source op args v is = inr (subst OnlyIntegers is (queue_integers q args op))

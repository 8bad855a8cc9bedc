-- A command that is refused, or would wait, leaves the environment.
use Rattle.std.proofs.Common.{◌≡◌, ℕ, ℤ, Bool, true, false, List, refl, Option, Some, None}
use Rattle.ac_base.specs.Key.{key_of_text}
use Rattle.ac_base.specs.declared.reason.Reason.{Reason}
use Rattle.ac_base.specs.declared.value.Value.{Value}
use Rattle.ac_model.specs.Rows.{Entry, Node}
use Rattle.ac_model.specs.Objects.{Object}
use Rattle.ac_model.specs.Calls.{Call, Done}
use Rattle.ac_model.specs.Holders.{Holder}
use Rattle.ac_model.specs.Queues.{Discipline, by_arrival, by_priority, TaskQueue}
use Rattle.ac_model.specs.Lists as list
use Rattle.ac_model.specs.Vectors as vector
use Rattle.ac_syntax.specs.declared.operation.Operation.{Operation}
use Rattle.ac_syntax.specs.declared.operation.Operation.TheVariants as operation
use Rattle.ac_syntax.specs.declared.operation.CommonCall.{CommonCall}
use Rattle.ac_syntax.specs.declared.operation.CommonCall.TheVariants as common_call
use Rattle.ac_syntax.specs.declared.operation.SequenceCall.{SequenceCall}
use Rattle.ac_syntax.specs.declared.operation.SequenceCall.TheVariants as sequence_call
use Rattle.ac_syntax.specs.declared.operation.CapacityCall.{CapacityCall}
use Rattle.ac_syntax.specs.declared.operation.CapacityCall.TheVariants as capacity_call
use Rattle.ac_syntax.specs.declared.operation.VectorCall.{VectorCall}
use Rattle.ac_syntax.specs.declared.operation.VectorCall.TheVariants as vector_call
use Rattle.ac_syntax.specs.declared.operation.ListCall.{ListCall}
use Rattle.ac_syntax.specs.declared.operation.ListCall.TheVariants as list_call
use Rattle.ac_syntax.specs.declared.operation.TreeCall.{TreeCall}
use Rattle.ac_syntax.specs.declared.operation.TreeCall.TheVariants as tree_call
use Rattle.ac_syntax.specs.declared.operation.TreeChangeCall.{TreeChangeCall}
use Rattle.ac_syntax.specs.declared.operation.TreeChangeCall.TheVariants as tree_change_call
use Rattle.ac_syntax.specs.declared.operation.HolderCall.{HolderCall}
use Rattle.ac_syntax.specs.declared.operation.HolderCall.TheVariants as holder_call
use Rattle.ac_syntax.specs.declared.operation.QueueCall.{QueueCall}
use Rattle.ac_syntax.specs.declared.operation.QueueCall.TheVariants as queue_call
use Rattle.ac_syntax.specs.declared.operation.WalkCall.{WalkCall}
use Rattle.ac_syntax.specs.declared.operation.WalkCall.TheVariants as walk_call
use Rattle.ac_syntax.specs.declared.operation.OrderedCall.{OrderedCall}
use Rattle.ac_syntax.specs.declared.operation.OrderedCall.TheVariants as ordered_call
use Rattle.ac_syntax.specs.declared.operation.MapCall.{MapCall}
use Rattle.ac_syntax.specs.declared.operation.MapCall.TheVariants as map_call
use Rattle.ac_syntax.specs.declared.operation.OrderedMapCall.{OrderedMapCall}
use Rattle.ac_syntax.specs.declared.operation.OrderedMapCall.TheVariants as ordered_map_call
use Rattle.ac_syntax.specs.declared.operation.KeyedCall.{KeyedCall}
use Rattle.ac_syntax.specs.declared.operation.KeyedCall.TheVariants as keyed_call
use Rattle.ac_syntax.specs.declared.operation.SetCall.{SetCall}
use Rattle.ac_syntax.specs.declared.operation.SetCall.TheVariants as set_call
use Rattle.ac_syntax.specs.declared.operation.SetPairCall.{SetPairCall}
use Rattle.ac_syntax.specs.declared.operation.SetPairCall.TheVariants as set_pair_call
use Rattle.ac_syntax.specs.declared.operation.OrderedSetCall.{OrderedSetCall}
use Rattle.ac_syntax.specs.declared.operation.OrderedSetCall.TheVariants as ordered_set_call
use Rattle.ac_rules.specs.declared.resolved.ResolvedArg.{ResolvedArg}
use Rattle.ac_rules.specs.declared.resolved.ResolvedArg.TheVariants.{Lit, NoElement, At}
use Rattle.ac_rules.specs.Resolved.{calls_at, sets_at, sums_at}
use Rattle.ac_calls.specs.Elements.{Tools, Text, tools_of, texts, keyed_texts, integer_in}
use Rattle.ac_calls.specs.Answers.{Answer, answers_integer}
use Rattle.ac_calls.specs.Replies.{Arguments, Source, without, itself, another, by_source, arguments_seen, source_in, Reply, value_answer}
use Rattle.ac_calls.specs.SequenceReplies.{OwnCalls, sequence_own, common_reply, sequence_reply, capacity_reply}
use Rattle.ac_calls.specs.ListReplies.{list_alone_reply, list_reply}
use Rattle.ac_calls.specs.VectorReplies.{vector_alone_reply, vector_reply}
use Rattle.ac_calls.specs.KeyedReplies.{KeyedKind, of_hashed, of_ordered, order_by, walk_reply, ordered_reply}
use Rattle.ac_calls.specs.MapReplies.{map_own, map_alone_reply, ordered_map_reply, map_reply}
use Rattle.ac_calls.specs.SetReplies.{set_own, set_alone_reply, set_pair_reply, ordered_set_reply, set_reply}
use Rattle.ac_calls.specs.KeyedSetReplies.{key_reply, keyed_set_reply}
use Rattle.ac_calls.specs.TreeReplies.{tree_own, tree_look_reply, tree_change_reply, tree_reply}
use Rattle.ac_calls.specs.HolderReplies.{holder_source, holder_alone_reply, holder_reply}
use Rattle.ac_calls.specs.QueueReplies.{item_answer, high_reply, queue_alone_reply, queue_reply}
use Rattle.ac_calls.specs.Holdings.{SequenceKind, of_list, of_vector, RowKind, a_sequence, a_map, a_set, a_keyed_set, a_tree, RowOf, Held, of_rows, of_holder, of_queue, rows_in, holder_in, reply_by, rows_reply, seen_in, reply_of}
use Rattle.ac_meaning.specs.Environment.{Bound, binds_type, binds_object, binds_cursor, binds_value, binds_element, State, bound_at, object_at, value_at}
use Rattle.ac_meaning.specs.Commands.{Performed, Assigned, source_place, source_of, after_call, assigned, unless_refused, waits_or_goes, replied, call_on, arguments, answer_in, answer_from, assigned_from, is_integer, sum_of, sum_assigned}
use Rattle.ac_meaning.specs.Laws.{IsRefusal, RefusalsLeave}

-- an answer of a call that isn't refused says so
abbrev Plain : Answer → Type 0
Plain answer = IsRefusal answer → ⊥

value_plain : (v : Option Value) → Plain (value_answer v)
value_plain None h = h
value_plain (Some v) h = h

by_source_plain : {S R : Type 0} (source : Source S) (own : Reply R) (two : S → Arguments → Reply R) → Plain own.answer →
    ((s : S) (args : Arguments) → Plain (two s args).answer) → Plain (by_source source own two).answer
by_source_plain without own two h k = h
by_source_plain itself own two h k = h
by_source_plain (another s args) own two h k = k s args

module _ {V : Type 0} (o : Object ℕ V) (source : Source (Object ℕ V)) (args : Arguments) where
  common_plain : (own : OwnCalls V) (c : CommonCall) → Plain (common_reply o source args own c).answer
  common_plain own common_call.IsEmpty h = h
  common_plain own common_call.Clear h = h
  common_plain own common_call.Assign h = by_source_plain source _ _ (λ r. r) (λ s seen r. r) h
  common_plain own common_call.MoveFrom h = by_source_plain source _ _ (λ r. r) (λ s seen r. r) h
  common_plain own common_call.Equal h = h
  common_plain own common_call.HasElement h = h
  common_plain own common_call.Element h = value_plain _ h
  common_plain own common_call.ReplaceElement h = h
  common_plain own common_call.Print h = h
  common_plain own common_call.Length h = h

  capacity_plain : (c : CapacityCall) → Plain (capacity_reply o args c).answer
  capacity_plain capacity_call.Capacity h = h
  capacity_plain capacity_call.ReserveCapacity h = h

module _ {T : Type 0} (tools : Tools T) (o : Object ℕ T) (source : Source (Object ℕ T)) (args : Arguments) where
  sequence_plain : (reverses sorts : Call (Object ℕ T) Done) (c : SequenceCall) →
      Plain (sequence_reply tools o source args reverses sorts c).answer
  sequence_plain reverses sorts sequence_call.FirstElement h = value_plain _ h
  sequence_plain reverses sorts sequence_call.LastElement h = value_plain _ h
  sequence_plain reverses sorts sequence_call.Merge h = by_source_plain source _ _ (λ r. r) (λ s seen r. r) h
  sequence_plain reverses sorts _ h = h

  alone_plain : (c : ListCall) → Plain (list_alone_reply tools o source args c).answer
  alone_plain list_call.Splice h = by_source_plain source _ _ (λ r. r) (λ s seen r. r) h
  alone_plain list_call.SpliceOne h = by_source_plain source _ _ (λ r. r) (λ s seen r. r) h
  alone_plain _ h = h

  list_plain : (op : Operation) → Plain (list_reply tools o source args op).answer
  list_plain (operation.Common c) h = common_plain o source args (sequence_own tools o) c h
  list_plain (operation.Sequence c) h = sequence_plain (list.reverse_elements_call o) (list.sort_call tools.less o) c h
  list_plain (operation.List c) h = alone_plain c h
  list_plain _ h = h

  indexed_plain : (c : VectorCall) → Plain (vector_alone_reply tools o source args c).answer
  indexed_plain vector_call.ElementIndex h = value_plain _ h
  indexed_plain vector_call.InsertVectorIndex h = by_source_plain source _ _ (λ r. r) (λ s seen r. r) h
  indexed_plain vector_call.InsertVector h = by_source_plain source _ _ (λ r. r) (λ s seen r. r) h
  indexed_plain vector_call.InsertVectorPos h = by_source_plain source _ _ (λ r. r) (λ s seen r. r) h
  indexed_plain vector_call.AppendVector h = by_source_plain source _ _ (λ r. r) (λ s seen r. r) h
  indexed_plain vector_call.PrependVector h = by_source_plain source _ _ (λ r. r) (λ s seen r. r) h
  indexed_plain _ h = h

  vector_plain : (op : Operation) → Plain (vector_reply tools o source args op).answer
  vector_plain (operation.Common c) h = common_plain o source args (sequence_own tools o) c h
  vector_plain (operation.Sequence c) h = sequence_plain (vector.reverse_elements_call o) (vector.sort_call tools.less o) c h
  vector_plain (operation.Capacity c) h = capacity_plain o source args c h
  vector_plain (operation.Vector c) h = indexed_plain c h
  vector_plain _ h = h

  reply_plain : (which : SequenceKind) (op : Operation) → Plain (reply_by tools o source args which op).answer
  reply_plain of_list op h = list_plain op h
  reply_plain of_vector op h = vector_plain op h

module _ {V : Type 0} (o : Object ℕ V) (args : Arguments) where
  walk_plain : (c : WalkCall) → Plain (walk_reply o args c).answer
  walk_plain walk_call.First h = h
  walk_plain walk_call.Next h = h
  walk_plain walk_call.Delete h = h

  ordered_plain : (first last : Reply (Object ℕ V)) → Plain first.answer → Plain last.answer → (c : OrderedCall) →
      Plain (ordered_reply o args first last c).answer
  ordered_plain first last f l ordered_call.FirstElement h = f h
  ordered_plain first last f l ordered_call.LastElement h = l h
  ordered_plain first last f l _ h = h

module _ {K T : Type 0} (keys : Tools K) (tools : Tools T) (o : Object ℕ (Entry K T)) (args : Arguments) where
  map_alone_plain : (which : KeyedKind) (c : MapCall) → Plain (map_alone_reply keys tools which o args c).answer
  map_alone_plain which map_call.Key h = value_plain _ h
  map_alone_plain which map_call.ElementKey h = value_plain _ h
  map_alone_plain which _ h = h

  ordered_map_plain : (which : KeyedKind) (c : OrderedMapCall) → Plain (ordered_map_reply keys tools which o args c).answer
  ordered_map_plain which ordered_map_call.FirstKey h = value_plain _ h
  ordered_map_plain which ordered_map_call.LastKey h = value_plain _ h
  ordered_map_plain which _ h = h

map_plain : {K T : Type 0} (keys : Tools K) (tools : Tools T) (o : Object ℕ (Entry K T)) (source : Source (Object ℕ (Entry K T)))
    (args : Arguments) (which : KeyedKind) (op : Operation) → Plain (map_reply keys tools o source args which op).answer
map_plain keys tools o source args which (operation.Common c) h = common_plain o source args (map_own keys tools which o) c h
map_plain keys tools o source args which (operation.Walk c) h = walk_plain o args c h
map_plain keys tools o source args which (operation.Map c) h = map_alone_plain keys tools o args which c h
map_plain keys tools o source args of_hashed (operation.Capacity c) h = capacity_plain o source args c h
map_plain keys tools o source args of_ordered (operation.Ordered c) h = ordered_plain o args _ _ (value_plain _) (value_plain _) c h
map_plain keys tools o source args of_ordered (operation.OrderedMap c) h = ordered_map_plain keys tools o args of_ordered c h
map_plain keys tools o source args _ _ h = h

set_plain : {T : Type 0} (tools : Tools T) (o : Object ℕ T) (source : Source (Object ℕ T)) (args : Arguments) (which : KeyedKind)
    (op : Operation) → Plain (set_reply tools o source args which op).answer
set_plain tools o source args which (operation.Common c) h = common_plain o source args (set_own tools (order_by tools which) o) c h
set_plain tools o source args which (operation.Walk c) h = walk_plain o args c h
set_plain tools o source args which (operation.Set c) h = go c h
  where
    go : (c : SetCall) → Plain (set_alone_reply tools (order_by tools which) o args c).answer
    go set_call.Insert h = h
    go _ h = h
set_plain tools o source args which (operation.SetPair c) h = go c h
  where
    go : (c : SetPairCall) → Plain (set_pair_reply tools (order_by tools which) o source c).answer
    go set_pair_call.Union h = by_source_plain source _ _ (λ r. r) (λ s seen r. r) h
    go set_pair_call.Intersection h = by_source_plain source _ _ (λ r. r) (λ s seen r. r) h
    go set_pair_call.Difference h = by_source_plain source _ _ (λ r. r) (λ s seen r. r) h
    go set_pair_call.SymmetricDifference h = by_source_plain source _ _ (λ r. r) (λ s seen r. r) h
    go _ h = h
set_plain tools o source args of_hashed (operation.Capacity c) h = capacity_plain o source args c h
set_plain tools o source args of_ordered (operation.Ordered c) h = ordered_plain o args _ _ (value_plain _) (value_plain _) c h
set_plain tools o source args of_ordered (operation.OrderedSet c) h = go c h
  where
    go : (c : OrderedSetCall) → Plain (ordered_set_reply tools (order_by tools of_ordered) o args c).answer
    go ordered_set_call.Floor h = h
    go ordered_set_call.Ceiling h = h
set_plain tools o source args _ _ h = h

key_plain : (o : Object ℕ Text) (args : Arguments) (which : KeyedKind) (c : KeyedCall) → Plain (key_reply key_of_text (order_by texts which) o args c).answer
key_plain o args which keyed_call.Key h = value_plain _ h
key_plain o args which keyed_call.KeyElement h = value_plain _ h
key_plain o args which keyed_call.KeyFind h = h
key_plain o args which keyed_call.KeyContains h = h
key_plain o args which keyed_call.KeyExclude h = h
key_plain o args which keyed_call.KeyDelete h = h
key_plain o args which keyed_call.KeyReplace h = h
key_plain o args which keyed_call.KeyFloor h = h
key_plain o args which keyed_call.KeyCeiling h = h

keyed_set_plain : (o : Object ℕ Text) (source : Source (Object ℕ Text)) (args : Arguments) (which : KeyedKind) (op : Operation) →
    Plain (keyed_set_reply o source args which op).answer
keyed_set_plain o source args of_hashed (operation.Keyed keyed_call.KeyFloor) h = h
keyed_set_plain o source args of_hashed (operation.Keyed keyed_call.KeyCeiling) h = h
keyed_set_plain o source args of_hashed (operation.Keyed c) h = key_plain o args of_hashed c h
keyed_set_plain o source args of_ordered (operation.Keyed c) h = key_plain o args of_ordered c h
keyed_set_plain o source args which op h = set_plain keyed_texts o source args which op h

tree_plain : {T : Type 0} (tools : Tools T) (o : Object ℕ (Node T)) (source : Source (Object ℕ (Node T))) (args : Arguments) (op : Operation) →
    Plain (tree_reply tools o source args op).answer
tree_plain tools o source args (operation.Common c) h = common_plain o source args (tree_own tools o) c h
tree_plain tools o source args (operation.Tree c) h = go c h
  where
    go : (c : TreeCall) → Plain (tree_look_reply tools o args c).answer
    go tree_call.NodeCount h = h
    go _ h = h
tree_plain tools o source args (operation.TreeChange c) h = go c h
  where
    go : (c : TreeChangeCall) → Plain (tree_change_reply tools o source args c).answer
    go tree_change_call.CopySubtree h = by_source_plain source _ _ (λ r. r) (λ s seen r. r) h
    go tree_change_call.SpliceSubtreeFrom h = by_source_plain source _ _ (λ r. r) (λ s seen r. r) h
    go tree_change_call.SpliceChildrenFrom h = by_source_plain source _ _ (λ r. r) (λ s seen r. r) h
    go _ h = h
tree_plain tools o source args _ h = h

holder_plain : {T : Type 0} (tools : Tools T) (h : Holder T) (source : Source (Holder T)) (args : Arguments) (op : Operation) →
    Plain (holder_reply tools h source args op).answer
holder_plain tools h source args (operation.Holder c) r = go c r
  where
    go : (c : HolderCall) → Plain (holder_alone_reply tools h source args c).answer
    go holder_call.Element r = value_plain _ r
    go holder_call.Assign r = by_source_plain source _ _ (λ p. p) (λ s seen p. p) r
    go holder_call.MoveFrom r = by_source_plain source _ _ (λ p. p) (λ s seen p. p) r
    go holder_call.Swap r = by_source_plain source _ _ (λ p. p) (λ s seen p. p) r
    go _ r = r
holder_plain tools h source args _ r = r

item_plain : (item : Option ℤ) → Plain (item_answer item)
item_plain None r = r
item_plain (Some n) r = r

high_plain : (d : Discipline) (q : TaskQueue) (at_least : ℤ) → Plain (high_reply d q at_least).answer
high_plain by_arrival q at_least r = r
high_plain by_priority q at_least r = item_plain _ r

queue_plain : (q : TaskQueue) (args : Arguments) (op : Operation) → Plain (queue_reply q args op).answer
queue_plain q args (operation.Queue c) r = go c r
  where
    go : (c : QueueCall) → Plain (queue_alone_reply q args c).answer
    go queue_call.Dequeue r = item_plain _ r
    go queue_call.DequeueOnlyHighPriority r = high_plain q.discipline q args.first.count r
    go _ r = r
queue_plain q args _ r = r

rows_plain : (kind : RowKind) (o : Object ℕ (RowOf kind)) (source : Source (Object ℕ (RowOf kind))) (args : Arguments) (op : Operation) →
    Plain (rows_reply kind o source args op).answer
rows_plain (a_sequence which e) o source args op h = reply_plain (tools_of e) o source args which op h
rows_plain (a_map which k e) o source args op h = map_plain (tools_of k) (tools_of e) o source args which op h
rows_plain (a_set which e) o source args op h = set_plain (tools_of e) o source args which op h
rows_plain (a_keyed_set which) o source args op h = keyed_set_plain o source args which op h
rows_plain (a_tree e) o source args op h = tree_plain (tools_of e) o source args op h

held_plain : (h : Held) (source : Option Held) (op : Operation) (args : Arguments) → Plain (reply_of h source op args).answer
held_plain (of_rows kind o) source op args r =
    rows_plain kind o (source_in (seen_in kind) o (rows_in kind source) args) (arguments_seen (seen_in kind o) args) op r
held_plain (of_holder e h) source op args r = holder_plain (tools_of e) h (holder_source h (holder_in e source) args) args op r
held_plain (of_queue number q) source op args r = queue_plain q args op r

answer_plain : (e : State) (b : Bound) → Plain (answer_in e b)
answer_plain e binds_type h = h
answer_plain e (binds_object g) h = h
answer_plain e (binds_cursor mark) h = h
answer_plain e (binds_value v) h = h
answer_plain e (binds_element object at) h = h

from_plain : (e : State) (from : ResolvedArg) → Plain (answer_from e from)
from_plain e (Lit v) h = h
from_plain e NoElement h = h
from_plain e (At place) h = answer_plain e (bound_at e place) h

-- what leaves the environment where its answer says so
abbrev Leaves : State → Performed → Type 0
Leaves e p = IsRefusal p.answer → p.after ≡ e

unless_leaves : (e : State) (answer : Answer) (a : Assigned) (reason : Option Reason) → a.reason ≡ reason → Plain answer →
    Leaves e (unless_refused e answer a)
unless_leaves e answer a None f plain = rw f (λ r. absurd (plain r))
unless_leaves e answer a (Some reason) f plain = rw f (λ r. refl)

waits_leaves : (e : State) (target : Option ℕ) (object : ℕ) (args : List ResolvedArg) (r : Reply Held) (stalls : Bool) → r.stalls ≡ stalls →
    Plain r.answer → Leaves e (waits_or_goes e target object args r)
waits_leaves e target object args r true f plain = rw f (λ r. refl)
waits_leaves e target object args r false f plain =
    rw f (unless_leaves e r.answer (assigned (after_call e object args r) target r.answer) _ refl plain)

replied_leaves : (e : State) (target : Option ℕ) (object : ℕ) (args : List ResolvedArg) (r : Reply Held) (reason : Option Reason) →
    r.reason ≡ reason → Plain r.answer → Leaves e (replied e target object args r)
replied_leaves e target object args r None f plain = rw f (waits_leaves e target object args r r.stalls refl plain)
replied_leaves e target object args r (Some reason) f plain = rw f (λ r. refl)

call_leaves : (e : State) (target : Option ℕ) (object : ℕ) (op : Operation) (args : List ResolvedArg) (found : Option Held) →
    Leaves e (call_on e target object op args found)
call_leaves e target object op args None r = refl
call_leaves e target object op args (Some h) r =
    let source = source_of e (source_place e args) in
    replied_leaves e target object args (reply_of h source op (arguments e args)) _ refl (held_plain h source op (arguments e args)) r

assigned_leaves : (e : State) (target : ℕ) (answer : Answer) → Plain answer → Leaves e (assigned_from e target answer)
assigned_leaves e target answer plain r = unless_leaves e answer (assigned e (Some target) answer) _ refl plain r

sum_leaves : (e : State) (target : ℕ) (n : ℤ) (b : Bool) → is_integer n ≡ b → Leaves e (sum_assigned e target n)
sum_leaves e target n true f = rw (f, sum_assigned) (assigned_leaves e target (answers_integer n) (λ r. r))
sum_leaves e target n false f = rw (f, sum_assigned) (λ r. refl)

pub refusals_leave : RefusalsLeave
refusals_leave e (calls_at number target object op args) r = call_leaves e target object op args (object_at e object) r
refusals_leave e (sets_at number target from) r = assigned_leaves e target (answer_from e from) (from_plain e from) r
refusals_leave e (sums_at number target from minus n) r = sum_leaves e target (sum_of minus (integer_in (value_at e from)) n) _ refl r

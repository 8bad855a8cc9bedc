-- What the table says that each operation answers.
use Rattle.std.proofs.Common.{◌≡◌, Bool, true, false, ◌++◌, refl}
use Rattle.std.specs.Prelude.{Contains}
use Rattle.std.specs.List.{list_all}
use Rattle.std.proofs.lemmas.List.Elements.{All-contains}
use Rattle.std.proofs.lemmas.List.Sums.{AllPass-from_list_all}
use Rattle.ac_syntax.specs.Kinds.{has_capacity}
use Rattle.ac_syntax.specs.declared.kind.Kind.{Kind}
use Rattle.ac_syntax.specs.declared.kind.Kind.TheVariants as kind
use Rattle.ac_syntax.specs.declared.operation.Operation.{Operation}
use Rattle.ac_syntax.specs.declared.operation.Operation.TheVariants as operation
use Rattle.ac_syntax.specs.declared.operation.CommonCall.{CommonCall}
use Rattle.ac_syntax.specs.declared.operation.CommonCall.TheVariants as common
use Rattle.ac_syntax.specs.declared.operation.SequenceCall.{SequenceCall}
use Rattle.ac_syntax.specs.declared.operation.SequenceCall.TheVariants as sequence
use Rattle.ac_syntax.specs.declared.operation.CapacityCall.{CapacityCall}
use Rattle.ac_syntax.specs.declared.operation.CapacityCall.TheVariants as capacity
use Rattle.ac_syntax.specs.declared.operation.VectorCall.{VectorCall}
use Rattle.ac_syntax.specs.declared.operation.VectorCall.TheVariants as vector
use Rattle.ac_syntax.specs.declared.operation.WalkCall.{WalkCall}
use Rattle.ac_syntax.specs.declared.operation.WalkCall.TheVariants as walk
use Rattle.ac_syntax.specs.declared.operation.MapCall.{MapCall}
use Rattle.ac_syntax.specs.declared.operation.MapCall.TheVariants as map
use Rattle.ac_syntax.specs.declared.operation.SetCall.{SetCall}
use Rattle.ac_syntax.specs.declared.operation.SetCall.TheVariants as set
use Rattle.ac_syntax.specs.declared.operation.SetPairCall.{SetPairCall}
use Rattle.ac_syntax.specs.declared.operation.SetPairCall.TheVariants as set_pair
use Rattle.ac_syntax.specs.declared.operation.KeyedCall.{KeyedCall}
use Rattle.ac_syntax.specs.declared.operation.KeyedCall.TheVariants as keyed_set
use Rattle.ac_syntax.specs.declared.operation.OrderedCall.{OrderedCall}
use Rattle.ac_syntax.specs.declared.operation.OrderedCall.TheVariants as ordered
use Rattle.ac_syntax.specs.declared.operation.OrderedMapCall.{OrderedMapCall}
use Rattle.ac_syntax.specs.declared.operation.OrderedMapCall.TheVariants as ordered_map
use Rattle.ac_syntax.specs.declared.operation.TreeCall.{TreeCall}
use Rattle.ac_syntax.specs.declared.operation.TreeCall.TheVariants as tree
use Rattle.ac_syntax.specs.declared.operation.HolderCall.{HolderCall}
use Rattle.ac_syntax.specs.declared.operation.HolderCall.TheVariants as holder
use Rattle.ac_syntax.specs.declared.operation.QueueCall.{QueueCall}
use Rattle.ac_syntax.specs.declared.operation.QueueCall.TheVariants as queue
use Rattle.ac_syntax.specs.declared.type_def.TypeDef.{TypeDef}
use Rattle.ac_rules.specs.declared.rows.Answer.{Answer as Told}
use Rattle.ac_rules.specs.declared.rows.Answer.TheVariants as told
use Rattle.ac_rules.specs.Table.{Row, rows_by, rows_if, rows_of, common_rows, counted_rows, sequence_rows, capacity_rows, vector_rows, list_rows, keyed_walk_rows, map_rows, set_rows, keyed_rows, ordered_keyed_rows, ordered_rows, ordered_map_rows, ordered_set_rows, tree_rows, tree_change_rows, holder_rows, queue_rows, priority_queue_rows}
use Rattle.ac_rules.proofs.Apart.{neither}

abbrev pub common_told : CommonCall → Told
common_told common.IsEmpty = told.Truth
common_told common.Clear = told.Done
common_told common.Assign = told.Done
common_told common.MoveFrom = told.Done
common_told common.Equal = told.Truth
common_told common.HasElement = told.Truth
common_told common.Element = told.Element
common_told common.ReplaceElement = told.Done
common_told common.Print = told.Listing
common_told common.Length = told.Integer

abbrev pub sequence_told : SequenceCall → Told
sequence_told sequence.First = told.Cursor
sequence_told sequence.Last = told.Cursor
sequence_told sequence.FirstElement = told.Element
sequence_told sequence.LastElement = told.Element
sequence_told sequence.Next = told.Cursor
sequence_told sequence.Previous = told.Cursor
sequence_told sequence.Find = told.Cursor
sequence_told sequence.ReverseFind = told.Cursor
sequence_told sequence.Contains = told.Truth
sequence_told sequence.IsSorted = told.Truth
sequence_told _ = told.Done

abbrev pub capacity_told : CapacityCall → Told
capacity_told capacity.Capacity = told.Integer
capacity_told capacity.ReserveCapacity = told.Done

abbrev pub vector_told : VectorCall → Told
vector_told vector.ToCursor = told.Cursor
vector_told vector.ToIndex = told.Integer
vector_told vector.FirstIndex = told.Integer
vector_told vector.LastIndex = told.Integer
vector_told vector.ElementIndex = told.Element
vector_told vector.FindIndex = told.Integer
vector_told vector.ReverseFindIndex = told.Integer
vector_told _ = told.Done

abbrev pub walk_told : WalkCall → Told
walk_told walk.First = told.Cursor
walk_told walk.Next = told.Cursor
walk_told walk.Delete = told.Done

abbrev pub map_told : MapCall → Told
map_told map.Key = told.Key
map_told map.ElementKey = told.Element
map_told map.InsertPos = told.Truth
map_told map.Find = told.Cursor
map_told map.Contains = told.Truth
map_told _ = told.Done

abbrev pub set_told : SetCall → Told
set_told set.InsertPos = told.Truth
set_told set.Find = told.Cursor
set_told set.Contains = told.Truth
set_told _ = told.Done

abbrev pub set_pair_told : SetPairCall → Told
set_pair_told set_pair.Overlap = told.Truth
set_pair_told set_pair.IsSubset = told.Truth
set_pair_told set_pair.EquivalentSets = told.Truth
set_pair_told _ = told.Done

abbrev pub keyed_told : KeyedCall → Told
keyed_told keyed_set.Key = told.Key
keyed_told keyed_set.KeyElement = told.Element
keyed_told keyed_set.KeyFind = told.Cursor
keyed_told keyed_set.KeyContains = told.Truth
keyed_told keyed_set.KeyExclude = told.Done
keyed_told keyed_set.KeyDelete = told.Done
keyed_told keyed_set.KeyReplace = told.Done
keyed_told keyed_set.KeyFloor = told.Cursor
keyed_told keyed_set.KeyCeiling = told.Cursor

abbrev pub ordered_told : OrderedCall → Told
ordered_told ordered.Last = told.Cursor
ordered_told ordered.Previous = told.Cursor
ordered_told ordered.DeleteFirst = told.Done
ordered_told ordered.DeleteLast = told.Done
ordered_told ordered.FirstElement = told.Element
ordered_told ordered.LastElement = told.Element

abbrev pub ordered_map_told : OrderedMapCall → Told
ordered_map_told ordered_map.FirstKey = told.Key
ordered_map_told ordered_map.LastKey = told.Key
ordered_map_told ordered_map.Floor = told.Cursor
ordered_map_told ordered_map.Ceiling = told.Cursor

abbrev pub tree_told : TreeCall → Told
tree_told tree.NodeCount = told.Integer
tree_told tree.IsRoot = told.Truth
tree_told tree.IsLeaf = told.Truth
tree_told tree.Depth = told.Integer
tree_told tree.SubtreeNodeCount = told.Integer
tree_told tree.ChildCount = told.Integer
tree_told tree.Contains = told.Truth
tree_told _ = told.Cursor

abbrev pub holder_told : HolderCall → Told
holder_told holder.IsEmpty = told.Truth
holder_told holder.Element = told.Element
holder_told holder.ReplaceElement = told.Done
holder_told holder.Clear = told.Done
holder_told holder.Assign = told.Done
holder_told holder.MoveFrom = told.Done
holder_told holder.Swap = told.Done
holder_told holder.Equal = told.Truth
holder_told holder.Print = told.Listing

abbrev pub queue_told : QueueCall → Told
queue_told queue.Enqueue = told.Done
queue_told queue.Dequeue = told.Integer
queue_told queue.CurrentUse = told.Integer
queue_told queue.PeakUse = told.Integer
queue_told queue.Print = told.Listing
queue_told queue.DequeueOnlyHighPriority = told.Integer

abbrev pub told_of : Operation → Told
told_of (operation.Common c) = common_told c
told_of (operation.Sequence c) = sequence_told c
told_of (operation.Capacity c) = capacity_told c
told_of (operation.Vector c) = vector_told c
told_of (operation.List c) = told.Done
told_of (operation.Walk c) = walk_told c
told_of (operation.Map c) = map_told c
told_of (operation.Set c) = set_told c
told_of (operation.SetPair c) = set_pair_told c
told_of (operation.Keyed c) = keyed_told c
told_of (operation.Ordered c) = ordered_told c
told_of (operation.OrderedMap c) = ordered_map_told c
told_of (operation.OrderedSet c) = told.Cursor
told_of (operation.Tree c) = tree_told c
told_of (operation.TreeChange c) = told.Done
told_of (operation.Holder c) = holder_told c
told_of (operation.Queue c) = queue_told c

-- Each row says the same

abbrev same_told : Told → Told → Bool
same_told told.Done told.Done = true
same_told told.Integer told.Integer = true
same_told told.Truth told.Truth = true
same_told told.Cursor told.Cursor = true
same_told told.Element told.Element = true
same_told told.Key told.Key = true
same_told told.Listing told.Listing = true
same_told _ _ = false

told_same : (a b : Told) → same_told a b ≡ true → a ≡ b
told_same told.Done told.Done h = refl
told_same told.Integer told.Integer h = refl
told_same told.Truth told.Truth h = refl
told_same told.Cursor told.Cursor h = refl
told_same told.Element told.Element h = refl
told_same told.Key told.Key h = refl
told_same told.Listing told.Listing h = refl
told_same _ _ h = neither h

abbrev is_told : Row → Bool
is_told row = same_told (told_of row.operation) row.answer

told_by : (k : Kind) (keyed : Bool) → list_all is_told (rows_by k keyed ++ rows_if (has_capacity k) capacity_rows) ≡ true
unfolding common_rows counted_rows sequence_rows capacity_rows vector_rows list_rows keyed_walk_rows map_rows set_rows keyed_rows ordered_keyed_rows ordered_rows ordered_map_rows ordered_set_rows tree_rows tree_change_rows holder_rows queue_rows priority_queue_rows
told_by kind.Vector keyed = refl
told_by kind.List keyed = refl
told_by kind.HashedMap keyed = refl
told_by kind.OrderedMap keyed = refl
told_by kind.HashedSet true = refl
told_by kind.HashedSet false = refl
told_by kind.OrderedSet true = refl
told_by kind.OrderedSet false = refl
told_by kind.Tree keyed = refl
told_by kind.Holder keyed = refl
told_by kind.Queue keyed = refl
told_by kind.PriorityQueue keyed = refl

all_told : (def : TypeDef) → list_all is_told (rows_of def) ≡ true
unfolding rows_of
all_told def = told_by def.kind def.keyed

pub row_told : (def : TypeDef) (row : Row) → Contains (rows_of def) row → told_of row.operation ≡ row.answer
row_told def row there =
    told_same (told_of row.operation) row.answer
    (All-contains (λ (other : Row). is_told other ≡ true) (rows_of def) row
    (AllPass-from_list_all is_told (rows_of def) (all_told def)) there)

-- The calls of each kind of container: its word, what its arguments must be, what it answers, and the operation that it means. An argument that may be left out is the last.
use Rattle.std.specs.Prelude.{ℕ, codes, Bool, List, [], ◌∷◌, ◌++◌, Option, Some, None, if◌then◌else◌}
use Rattle.ac_syntax.specs.declared.kind.Kind.{Kind}
use Rattle.ac_syntax.specs.declared.kind.Kind.TheVariants as kind
use Rattle.ac_syntax.specs.declared.type_def.TypeDef.{TypeDef}
use Rattle.ac_syntax.specs.Kinds.{has_capacity}
use Rattle.ac_syntax.specs.declared.operation.Operation.{Operation}
use Rattle.ac_syntax.specs.declared.operation.Operation.TheVariants as operation
use Rattle.ac_syntax.specs.declared.operation.CommonCall.TheVariants as common
use Rattle.ac_syntax.specs.declared.operation.SequenceCall.TheVariants as sequence
use Rattle.ac_syntax.specs.declared.operation.CapacityCall.TheVariants as capacity
use Rattle.ac_syntax.specs.declared.operation.VectorCall.TheVariants as vector
use Rattle.ac_syntax.specs.declared.operation.ListCall.TheVariants as list
use Rattle.ac_syntax.specs.declared.operation.WalkCall.TheVariants as walk
use Rattle.ac_syntax.specs.declared.operation.MapCall.TheVariants as map
use Rattle.ac_syntax.specs.declared.operation.SetCall.TheVariants as set
use Rattle.ac_syntax.specs.declared.operation.SetPairCall.TheVariants as set_pair
use Rattle.ac_syntax.specs.declared.operation.KeyedCall.TheVariants as keyed_set
use Rattle.ac_syntax.specs.declared.operation.OrderedCall.TheVariants as ordered
use Rattle.ac_syntax.specs.declared.operation.OrderedMapCall.TheVariants as ordered_map
use Rattle.ac_syntax.specs.declared.operation.OrderedSetCall.TheVariants as ordered_set
use Rattle.ac_syntax.specs.declared.operation.TreeCall.TheVariants as tree
use Rattle.ac_syntax.specs.declared.operation.TreeChangeCall.TheVariants as tree_change
use Rattle.ac_syntax.specs.declared.operation.HolderCall.TheVariants as holder
use Rattle.ac_syntax.specs.declared.operation.QueueCall.TheVariants as queue
use Rattle.ac_rules.specs.declared.rows.Letter.{Letter}
use Rattle.ac_rules.specs.declared.rows.Letter.TheVariants as letter
use Rattle.ac_rules.specs.declared.rows.Answer.{Answer}
use Rattle.ac_rules.specs.declared.rows.Answer.TheVariants as answer

pub record Row : Type 0 where
  pub word : List ℕ
  pub letters : List Letter
  -- one argument more, which may be left out
  pub optional : Option Letter
  pub answer : Answer
  pub operation : Operation

abbrev pub row : List ℕ → List Letter → Answer → Operation → Row
row word letters answer means = record { word = word; letters = letters; optional = None; answer = answer; operation = means }

abbrev pub row_with : List ℕ → List Letter → Letter → Answer → Operation → Row
row_with word letters last answer means =
    record { word = word; letters = letters; optional = Some last; answer = answer; operation = means }

abbrev C : Letter
C = letter.Cursor

abbrev V : Letter
V = letter.CursorVariable

abbrev I : Letter
I = letter.Integer

abbrev E : Letter
E = letter.Element

abbrev K : Letter
K = letter.Key

abbrev S : Letter
S = letter.Object

-- vectors, lists, maps, sets and trees (A.18.2 to A.18.10)
unfoldable pub common_rows : List Row
common_rows =
    row (codes "is_empty") [] answer.Truth (operation.Common common.IsEmpty)
    ∷ row (codes "clear") [] answer.Done (operation.Common common.Clear)
    ∷ row (codes "assign") (S ∷ []) answer.Done (operation.Common common.Assign)
    ∷ row (codes "move") (S ∷ []) answer.Done (operation.Common common.MoveFrom)
    ∷ row (codes "equal") (S ∷ []) answer.Truth (operation.Common common.Equal)
    ∷ row (codes "has_element") (C ∷ []) answer.Truth (operation.Common common.HasElement)
    ∷ row (codes "element") (C ∷ []) answer.Element (operation.Common common.Element)
    ∷ row (codes "replace_element") (C ∷ E ∷ []) answer.Done (operation.Common common.ReplaceElement)
    ∷ row (codes "print") [] answer.Listing (operation.Common common.Print)
    ∷ []

-- of these, all but trees
unfoldable pub counted_rows : List Row
counted_rows = row (codes "length") [] answer.Integer (operation.Common common.Length) ∷ []

-- vectors (A.18.2) and lists (A.18.3)
unfoldable pub sequence_rows : List Row
sequence_rows =
    row_with (codes "append") (E ∷ []) I answer.Done (operation.Sequence sequence.Append)
    ∷ row_with (codes "prepend") (E ∷ []) I answer.Done (operation.Sequence sequence.Prepend)
    ∷ row_with (codes "insert") (C ∷ E ∷ []) I answer.Done (operation.Sequence sequence.Insert)
    ∷ row_with (codes "insert") (C ∷ E ∷ V ∷ []) I answer.Done (operation.Sequence sequence.InsertPos)
    ∷ row_with (codes "delete") (V ∷ []) I answer.Done (operation.Sequence sequence.Delete)
    ∷ row_with (codes "delete_first") [] I answer.Done (operation.Sequence sequence.DeleteFirst)
    ∷ row_with (codes "delete_last") [] I answer.Done (operation.Sequence sequence.DeleteLast)
    ∷ row (codes "first") [] answer.Cursor (operation.Sequence sequence.First)
    ∷ row (codes "last") [] answer.Cursor (operation.Sequence sequence.Last)
    ∷ row (codes "first_element") [] answer.Element (operation.Sequence sequence.FirstElement)
    ∷ row (codes "last_element") [] answer.Element (operation.Sequence sequence.LastElement)
    ∷ row (codes "next") (C ∷ []) answer.Cursor (operation.Sequence sequence.Next)
    ∷ row (codes "previous") (C ∷ []) answer.Cursor (operation.Sequence sequence.Previous)
    ∷ row_with (codes "find") (E ∷ []) C answer.Cursor (operation.Sequence sequence.Find)
    ∷ row_with (codes "reverse_find") (E ∷ []) C answer.Cursor (operation.Sequence sequence.ReverseFind)
    ∷ row (codes "contains") (E ∷ []) answer.Truth (operation.Sequence sequence.Contains)
    ∷ row (codes "swap") (C ∷ C ∷ []) answer.Done (operation.Sequence sequence.Swap)
    ∷ row (codes "reverse_elements") [] answer.Done (operation.Sequence sequence.ReverseElements)
    ∷ row (codes "sort") [] answer.Done (operation.Sequence sequence.Sort)
    ∷ row (codes "is_sorted") [] answer.Truth (operation.Sequence sequence.IsSorted)
    ∷ row (codes "merge") (S ∷ []) answer.Done (operation.Sequence sequence.Merge)
    ∷ []

-- what has a Capacity: vectors, and hashed maps and sets
unfoldable pub capacity_rows : List Row
capacity_rows =
    row (codes "capacity") [] answer.Integer (operation.Capacity capacity.Capacity)
    ∷ row (codes "reserve_capacity") (I ∷ []) answer.Done (operation.Capacity capacity.ReserveCapacity)
    ∷ []

-- vectors alone (A.18.2)
unfoldable pub vector_rows : List Row
vector_rows =
    row (codes "set_length") (I ∷ []) answer.Done (operation.Vector vector.SetLength)
    ∷ row (codes "to_cursor") (I ∷ []) answer.Cursor (operation.Vector vector.ToCursor)
    ∷ row (codes "to_index") (C ∷ []) answer.Integer (operation.Vector vector.ToIndex)
    ∷ row (codes "first_index") [] answer.Integer (operation.Vector vector.FirstIndex)
    ∷ row (codes "last_index") [] answer.Integer (operation.Vector vector.LastIndex)
    ∷ row (codes "element") (I ∷ []) answer.Element (operation.Vector vector.ElementIndex)
    ∷ row (codes "replace_element") (I ∷ E ∷ []) answer.Done (operation.Vector vector.ReplaceIndex)
    ∷ row (codes "swap") (I ∷ I ∷ []) answer.Done (operation.Vector vector.SwapIndex)
    ∷ row_with (codes "insert") (I ∷ E ∷ []) I answer.Done (operation.Vector vector.InsertIndex)
    ∷ row (codes "insert_vector") (I ∷ S ∷ []) answer.Done (operation.Vector vector.InsertVectorIndex)
    ∷ row (codes "insert_vector") (C ∷ S ∷ []) answer.Done (operation.Vector vector.InsertVector)
    ∷ row (codes "insert_vector") (C ∷ S ∷ V ∷ []) answer.Done (operation.Vector vector.InsertVectorPos)
    ∷ row (codes "append_vector") (S ∷ []) answer.Done (operation.Vector vector.AppendVector)
    ∷ row (codes "prepend_vector") (S ∷ []) answer.Done (operation.Vector vector.PrependVector)
    ∷ row_with (codes "delete") (I ∷ []) I answer.Done (operation.Vector vector.DeleteIndex)
    ∷ row_with (codes "find_index") (E ∷ []) I answer.Integer (operation.Vector vector.FindIndex)
    ∷ row_with (codes "reverse_find_index") (E ∷ []) I answer.Integer (operation.Vector vector.ReverseFindIndex)
    ∷ []

-- lists alone (A.18.3)
unfoldable pub list_rows : List Row
list_rows =
    row (codes "swap_links") (C ∷ C ∷ []) answer.Done (operation.List list.SwapLinks)
    ∷ row (codes "splice") (C ∷ S ∷ []) answer.Done (operation.List list.Splice)
    ∷ row (codes "splice") (C ∷ S ∷ V ∷ []) answer.Done (operation.List list.SpliceOne)
    ∷ row (codes "splice") (C ∷ C ∷ []) answer.Done (operation.List list.SpliceWithin)
    ∷ []

-- maps and sets (A.18.4, A.18.7)
unfoldable pub keyed_walk_rows : List Row
keyed_walk_rows =
    row (codes "first") [] answer.Cursor (operation.Walk walk.First)
    ∷ row (codes "next") (C ∷ []) answer.Cursor (operation.Walk walk.Next)
    ∷ row (codes "delete") (V ∷ []) answer.Done (operation.Walk walk.Delete)
    ∷ []

-- maps (A.18.4)
unfoldable pub map_rows : List Row
map_rows =
    row (codes "key") (C ∷ []) answer.Key (operation.Map map.Key)
    ∷ row (codes "element") (K ∷ []) answer.Element (operation.Map map.ElementKey)
    ∷ row (codes "insert") (K ∷ E ∷ []) answer.Done (operation.Map map.Insert)
    ∷ row (codes "insert") (K ∷ E ∷ V ∷ []) answer.Truth (operation.Map map.InsertPos)
    ∷ row (codes "include") (K ∷ E ∷ []) answer.Done (operation.Map map.Include)
    ∷ row (codes "replace") (K ∷ E ∷ []) answer.Done (operation.Map map.Replace)
    ∷ row (codes "exclude") (K ∷ []) answer.Done (operation.Map map.Exclude)
    ∷ row (codes "delete") (K ∷ []) answer.Done (operation.Map map.DeleteKey)
    ∷ row (codes "find") (K ∷ []) answer.Cursor (operation.Map map.Find)
    ∷ row (codes "contains") (K ∷ []) answer.Truth (operation.Map map.Contains)
    ∷ []

-- sets (A.18.7)
unfoldable pub set_rows : List Row
set_rows =
    row (codes "insert") (E ∷ []) answer.Done (operation.Set set.Insert)
    ∷ row (codes "insert") (E ∷ V ∷ []) answer.Truth (operation.Set set.InsertPos)
    ∷ row (codes "include") (E ∷ []) answer.Done (operation.Set set.Include)
    ∷ row (codes "replace") (E ∷ []) answer.Done (operation.Set set.Replace)
    ∷ row (codes "exclude") (E ∷ []) answer.Done (operation.Set set.Exclude)
    ∷ row (codes "delete") (E ∷ []) answer.Done (operation.Set set.DeleteItem)
    ∷ row (codes "find") (E ∷ []) answer.Cursor (operation.Set set.Find)
    ∷ row (codes "contains") (E ∷ []) answer.Truth (operation.Set set.Contains)
    ∷ row (codes "union") (S ∷ []) answer.Done (operation.SetPair set_pair.Union)
    ∷ row (codes "intersection") (S ∷ []) answer.Done (operation.SetPair set_pair.Intersection)
    ∷ row (codes "difference") (S ∷ []) answer.Done (operation.SetPair set_pair.Difference)
    ∷ row (codes "symmetric_difference") (S ∷ []) answer.Done (operation.SetPair set_pair.SymmetricDifference)
    ∷ row (codes "overlap") (S ∷ []) answer.Truth (operation.SetPair set_pair.Overlap)
    ∷ row (codes "is_subset") (S ∷ []) answer.Truth (operation.SetPair set_pair.IsSubset)
    ∷ row (codes "equivalent_sets") (S ∷ []) answer.Truth (operation.SetPair set_pair.EquivalentSets)
    ∷ []

-- keyed sets (Generic_Keys of A.18.8 and A.18.9)
unfoldable pub keyed_rows : List Row
keyed_rows =
    row (codes "key") (C ∷ []) answer.Key (operation.Keyed keyed_set.Key)
    ∷ row (codes "key_element") (K ∷ []) answer.Element (operation.Keyed keyed_set.KeyElement)
    ∷ row (codes "key_find") (K ∷ []) answer.Cursor (operation.Keyed keyed_set.KeyFind)
    ∷ row (codes "key_contains") (K ∷ []) answer.Truth (operation.Keyed keyed_set.KeyContains)
    ∷ row (codes "key_exclude") (K ∷ []) answer.Done (operation.Keyed keyed_set.KeyExclude)
    ∷ row (codes "key_delete") (K ∷ []) answer.Done (operation.Keyed keyed_set.KeyDelete)
    ∷ row (codes "key_replace") (K ∷ E ∷ []) answer.Done (operation.Keyed keyed_set.KeyReplace)
    ∷ []

-- ordered keyed sets alone (A.18.9)
unfoldable pub ordered_keyed_rows : List Row
ordered_keyed_rows =
    row (codes "key_floor") (K ∷ []) answer.Cursor (operation.Keyed keyed_set.KeyFloor)
    ∷ row (codes "key_ceiling") (K ∷ []) answer.Cursor (operation.Keyed keyed_set.KeyCeiling)
    ∷ []

-- ordered maps (A.18.6) and sets (A.18.9)
unfoldable pub ordered_rows : List Row
ordered_rows =
    row (codes "last") [] answer.Cursor (operation.Ordered ordered.Last)
    ∷ row (codes "previous") (C ∷ []) answer.Cursor (operation.Ordered ordered.Previous)
    ∷ row (codes "delete_first") [] answer.Done (operation.Ordered ordered.DeleteFirst)
    ∷ row (codes "delete_last") [] answer.Done (operation.Ordered ordered.DeleteLast)
    ∷ row (codes "first_element") [] answer.Element (operation.Ordered ordered.FirstElement)
    ∷ row (codes "last_element") [] answer.Element (operation.Ordered ordered.LastElement)
    ∷ []

-- ordered maps alone (A.18.6)
unfoldable pub ordered_map_rows : List Row
ordered_map_rows =
    row (codes "first_key") [] answer.Key (operation.OrderedMap ordered_map.FirstKey)
    ∷ row (codes "last_key") [] answer.Key (operation.OrderedMap ordered_map.LastKey)
    ∷ row (codes "floor") (K ∷ []) answer.Cursor (operation.OrderedMap ordered_map.Floor)
    ∷ row (codes "ceiling") (K ∷ []) answer.Cursor (operation.OrderedMap ordered_map.Ceiling)
    ∷ []

-- ordered sets alone (A.18.9)
unfoldable pub ordered_set_rows : List Row
ordered_set_rows =
    row (codes "floor") (E ∷ []) answer.Cursor (operation.OrderedSet ordered_set.Floor)
    ∷ row (codes "ceiling") (E ∷ []) answer.Cursor (operation.OrderedSet ordered_set.Ceiling)
    ∷ []

-- multiway trees (A.18.10)
unfoldable pub tree_rows : List Row
tree_rows =
    row (codes "node_count") [] answer.Integer (operation.Tree tree.NodeCount)
    ∷ row (codes "root") [] answer.Cursor (operation.Tree tree.Root)
    ∷ row (codes "is_root") (C ∷ []) answer.Truth (operation.Tree tree.IsRoot)
    ∷ row (codes "is_leaf") (C ∷ []) answer.Truth (operation.Tree tree.IsLeaf)
    ∷ row (codes "depth") (C ∷ []) answer.Integer (operation.Tree tree.Depth)
    ∷ row (codes "subtree_node_count") (C ∷ []) answer.Integer (operation.Tree tree.SubtreeNodeCount)
    ∷ row (codes "child_count") (C ∷ []) answer.Integer (operation.Tree tree.ChildCount)
    ∷ row (codes "parent") (C ∷ []) answer.Cursor (operation.Tree tree.Parent)
    ∷ row (codes "next_sibling") (C ∷ []) answer.Cursor (operation.Tree tree.NextSibling)
    ∷ row (codes "previous_sibling") (C ∷ []) answer.Cursor (operation.Tree tree.PreviousSibling)
    ∷ row (codes "first_child") (C ∷ []) answer.Cursor (operation.Tree tree.FirstChild)
    ∷ row (codes "last_child") (C ∷ []) answer.Cursor (operation.Tree tree.LastChild)
    ∷ row (codes "find") (E ∷ []) answer.Cursor (operation.Tree tree.Find)
    ∷ row (codes "contains") (E ∷ []) answer.Truth (operation.Tree tree.Contains)
    ∷ row (codes "find_in_subtree") (C ∷ E ∷ []) answer.Cursor (operation.Tree tree.FindInSubtree)
    ∷ row (codes "ancestor_find") (C ∷ E ∷ []) answer.Cursor (operation.Tree tree.AncestorFind)
    ∷ []

-- what changes a tree
unfoldable pub tree_change_rows : List Row
tree_change_rows =
    row_with (codes "insert_child") (C ∷ C ∷ E ∷ []) I answer.Done (operation.TreeChange tree_change.InsertChild)
    ∷ row_with (codes "insert_child") (C ∷ C ∷ E ∷ V ∷ []) I answer.Done (operation.TreeChange tree_change.InsertChildPos)
    ∷ row_with (codes "append_child") (C ∷ E ∷ []) I answer.Done (operation.TreeChange tree_change.AppendChild)
    ∷ row_with (codes "prepend_child") (C ∷ E ∷ []) I answer.Done (operation.TreeChange tree_change.PrependChild)
    ∷ row (codes "delete_leaf") (V ∷ []) answer.Done (operation.TreeChange tree_change.DeleteLeaf)
    ∷ row (codes "delete_subtree") (V ∷ []) answer.Done (operation.TreeChange tree_change.DeleteSubtree)
    ∷ row (codes "delete_children") (C ∷ []) answer.Done (operation.TreeChange tree_change.DeleteChildren)
    ∷ row (codes "swap") (C ∷ C ∷ []) answer.Done (operation.TreeChange tree_change.Swap)
    ∷ row (codes "copy_subtree") (C ∷ C ∷ S ∷ C ∷ []) answer.Done (operation.TreeChange tree_change.CopySubtree)
    ∷ row (codes "splice_subtree") (C ∷ C ∷ S ∷ V ∷ []) answer.Done (operation.TreeChange tree_change.SpliceSubtreeFrom)
    ∷ row (codes "splice_subtree") (C ∷ C ∷ C ∷ []) answer.Done (operation.TreeChange tree_change.SpliceSubtree)
    ∷ row (codes "splice_children") (C ∷ C ∷ S ∷ C ∷ []) answer.Done (operation.TreeChange tree_change.SpliceChildrenFrom)
    ∷ row (codes "splice_children") (C ∷ C ∷ C ∷ []) answer.Done (operation.TreeChange tree_change.SpliceChildren)
    ∷ []

-- holders (A.18.18)
unfoldable pub holder_rows : List Row
holder_rows =
    row (codes "is_empty") [] answer.Truth (operation.Holder holder.IsEmpty)
    ∷ row (codes "element") [] answer.Element (operation.Holder holder.Element)
    ∷ row (codes "replace_element") (E ∷ []) answer.Done (operation.Holder holder.ReplaceElement)
    ∷ row (codes "clear") [] answer.Done (operation.Holder holder.Clear)
    ∷ row (codes "assign") (S ∷ []) answer.Done (operation.Holder holder.Assign)
    ∷ row (codes "move") (S ∷ []) answer.Done (operation.Holder holder.MoveFrom)
    ∷ row (codes "swap") (S ∷ []) answer.Done (operation.Holder holder.Swap)
    ∷ row (codes "equal") (S ∷ []) answer.Truth (operation.Holder holder.Equal)
    ∷ row (codes "print") [] answer.Listing (operation.Holder holder.Print)
    ∷ []

-- queues (A.18.27 to A.18.31)
unfoldable pub queue_rows : List Row
queue_rows =
    row (codes "enqueue") (E ∷ []) answer.Done (operation.Queue queue.Enqueue)
    ∷ row (codes "dequeue") [] answer.Integer (operation.Queue queue.Dequeue)
    ∷ row (codes "current_use") [] answer.Integer (operation.Queue queue.CurrentUse)
    ∷ row (codes "peak_use") [] answer.Integer (operation.Queue queue.PeakUse)
    ∷ row (codes "print") [] answer.Listing (operation.Queue queue.Print)
    ∷ []

-- priority queues alone (A.18.30, A.18.31)
unfoldable pub priority_queue_rows : List Row
priority_queue_rows =
    row (codes "dequeue_only_high_priority") (I ∷ []) answer.Integer (operation.Queue queue.DequeueOnlyHighPriority) ∷ []

abbrev pub rows_if : Bool → List Row → List Row
rows_if test rows = if test then rows else []

-- the calls of a kind's objects, but for those of a Capacity
abbrev pub rows_by : Kind → (is_keyed : Bool) → List Row
rows_by kind.Vector keyed = common_rows ++ counted_rows ++ sequence_rows ++ vector_rows
rows_by kind.List keyed = common_rows ++ counted_rows ++ sequence_rows ++ list_rows
rows_by kind.HashedMap keyed = common_rows ++ counted_rows ++ keyed_walk_rows ++ map_rows
rows_by kind.OrderedMap keyed = common_rows ++ counted_rows ++ keyed_walk_rows ++ map_rows ++ ordered_rows ++ ordered_map_rows
rows_by kind.HashedSet keyed = common_rows ++ counted_rows ++ keyed_walk_rows ++ set_rows ++ rows_if keyed keyed_rows
rows_by kind.OrderedSet keyed =
    common_rows ++ counted_rows ++ keyed_walk_rows ++ set_rows ++ ordered_rows ++ ordered_set_rows ++ rows_if keyed (keyed_rows ++ ordered_keyed_rows)
rows_by kind.Tree keyed = common_rows ++ tree_rows ++ tree_change_rows
rows_by kind.Holder keyed = holder_rows
rows_by kind.Queue keyed = queue_rows
rows_by kind.PriorityQueue keyed = queue_rows ++ priority_queue_rows

-- the calls of a type's objects
unfoldable pub rows_of : TypeDef → List Row
rows_of def = rows_by def.kind def.keyed ++ rows_if (has_capacity def.kind) capacity_rows

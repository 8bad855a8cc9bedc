-- The letters that the table has for each operation.
use Rattle.std.proofs.Common.{◌≡◌, Bool, true, false, ◌&&◌, List, [], ◌∷◌, ◌++◌, refl}
use Rattle.std.specs.Prelude.{Contains}
use Rattle.std.specs.List.{list_all}
use Rattle.std.proofs.lemmas.List.Elements.{All-contains}
use Rattle.std.proofs.lemmas.List.Sums.{AllPass-from_list_all}
use Rattle.ac_syntax.specs.Kinds.{has_capacity}
use Rattle.ac_syntax.specs.declared.kind.Kind.{Kind}
use Rattle.ac_syntax.specs.declared.kind.Kind.TheVariants as kind
use Rattle.ac_syntax.specs.declared.operation.Operation.{Operation}
use Rattle.ac_syntax.specs.declared.operation.Operation.TheVariants as operation
use Rattle.ac_syntax.specs.declared.operation.CommonCall.{CommonCall}
use Rattle.ac_syntax.specs.declared.operation.CommonCall.TheVariants as common
use Rattle.ac_syntax.specs.declared.operation.SequenceCall.{SequenceCall}
use Rattle.ac_syntax.specs.declared.operation.SequenceCall.TheVariants as sequence
use Rattle.ac_syntax.specs.declared.operation.CapacityCall.{CapacityCall}
use Rattle.ac_syntax.specs.declared.operation.CapacityCall.TheVariants as capacity
use Rattle.ac_syntax.specs.declared.operation.VectorCall.{VectorCall}
use Rattle.ac_syntax.specs.declared.operation.VectorCall.TheVariants as vector
use Rattle.ac_syntax.specs.declared.operation.ListCall.{ListCall}
use Rattle.ac_syntax.specs.declared.operation.ListCall.TheVariants as list
use Rattle.ac_syntax.specs.declared.operation.WalkCall.{WalkCall}
use Rattle.ac_syntax.specs.declared.operation.WalkCall.TheVariants as walk
use Rattle.ac_syntax.specs.declared.operation.MapCall.{MapCall}
use Rattle.ac_syntax.specs.declared.operation.MapCall.TheVariants as map
use Rattle.ac_syntax.specs.declared.operation.SetCall.{SetCall}
use Rattle.ac_syntax.specs.declared.operation.SetCall.TheVariants as set
use Rattle.ac_syntax.specs.declared.operation.SetPairCall.{SetPairCall}
use Rattle.ac_syntax.specs.declared.operation.KeyedCall.{KeyedCall}
use Rattle.ac_syntax.specs.declared.operation.KeyedCall.TheVariants as keyed_set
use Rattle.ac_syntax.specs.declared.operation.OrderedCall.{OrderedCall}
use Rattle.ac_syntax.specs.declared.operation.OrderedCall.TheVariants as ordered
use Rattle.ac_syntax.specs.declared.operation.OrderedMapCall.{OrderedMapCall}
use Rattle.ac_syntax.specs.declared.operation.OrderedMapCall.TheVariants as ordered_map
use Rattle.ac_syntax.specs.declared.operation.OrderedSetCall.{OrderedSetCall}
use Rattle.ac_syntax.specs.declared.operation.TreeCall.{TreeCall}
use Rattle.ac_syntax.specs.declared.operation.TreeCall.TheVariants as tree
use Rattle.ac_syntax.specs.declared.operation.TreeChangeCall.{TreeChangeCall}
use Rattle.ac_syntax.specs.declared.operation.TreeChangeCall.TheVariants as tree_change
use Rattle.ac_syntax.specs.declared.operation.HolderCall.{HolderCall}
use Rattle.ac_syntax.specs.declared.operation.HolderCall.TheVariants as holder
use Rattle.ac_syntax.specs.declared.operation.QueueCall.{QueueCall}
use Rattle.ac_syntax.specs.declared.operation.QueueCall.TheVariants as queue
use Rattle.ac_syntax.specs.declared.type_def.TypeDef.{TypeDef}
use Rattle.ac_rules.specs.declared.rows.Letter.{Letter}
use Rattle.ac_rules.specs.declared.rows.Letter.TheVariants as letter
use Rattle.ac_rules.specs.Table.{Row, rows_by, rows_if, rows_of, common_rows, counted_rows, sequence_rows, capacity_rows, vector_rows, list_rows, keyed_walk_rows, map_rows, set_rows, keyed_rows, ordered_keyed_rows, ordered_rows, ordered_map_rows, ordered_set_rows, tree_rows, tree_change_rows, holder_rows, queue_rows, priority_queue_rows}
use Rattle.ac_rules.proofs.Apart.{neither, and_parts}
use Rattle.ac_meaning.specs.ReadsByLetter.{letters_in}

abbrev C : Letter
C = letter.Cursor

abbrev V : Letter
V = letter.CursorVariable

abbrev I : Letter
I = letter.Integer

abbrev E : Letter
E = letter.Element

abbrev K : Letter
K = letter.Key

abbrev S : Letter
S = letter.Object

abbrev pub common_letters : CommonCall → List Letter
common_letters common.Assign = S ∷ []
common_letters common.MoveFrom = S ∷ []
common_letters common.Equal = S ∷ []
common_letters common.HasElement = C ∷ []
common_letters common.Element = C ∷ []
common_letters common.ReplaceElement = C ∷ E ∷ []
common_letters _ = []

abbrev pub sequence_letters : SequenceCall → List Letter
sequence_letters sequence.Append = E ∷ I ∷ []
sequence_letters sequence.Prepend = E ∷ I ∷ []
sequence_letters sequence.Insert = C ∷ E ∷ I ∷ []
sequence_letters sequence.InsertPos = C ∷ E ∷ V ∷ I ∷ []
sequence_letters sequence.Delete = V ∷ I ∷ []
sequence_letters sequence.DeleteFirst = I ∷ []
sequence_letters sequence.DeleteLast = I ∷ []
sequence_letters sequence.Next = C ∷ []
sequence_letters sequence.Previous = C ∷ []
sequence_letters sequence.Find = E ∷ C ∷ []
sequence_letters sequence.ReverseFind = E ∷ C ∷ []
sequence_letters sequence.Contains = E ∷ []
sequence_letters sequence.Swap = C ∷ C ∷ []
sequence_letters sequence.Merge = S ∷ []
sequence_letters _ = []

abbrev pub capacity_letters : CapacityCall → List Letter
capacity_letters capacity.Capacity = []
capacity_letters capacity.ReserveCapacity = I ∷ []

abbrev pub vector_letters : VectorCall → List Letter
vector_letters vector.ToIndex = C ∷ []
vector_letters vector.FirstIndex = []
vector_letters vector.LastIndex = []
vector_letters vector.ReplaceIndex = I ∷ E ∷ []
vector_letters vector.SwapIndex = I ∷ I ∷ []
vector_letters vector.InsertIndex = I ∷ E ∷ I ∷ []
vector_letters vector.InsertVectorIndex = I ∷ S ∷ []
vector_letters vector.InsertVector = C ∷ S ∷ []
vector_letters vector.InsertVectorPos = C ∷ S ∷ V ∷ []
vector_letters vector.AppendVector = S ∷ []
vector_letters vector.PrependVector = S ∷ []
vector_letters vector.DeleteIndex = I ∷ I ∷ []
vector_letters vector.FindIndex = E ∷ I ∷ []
vector_letters vector.ReverseFindIndex = E ∷ I ∷ []
vector_letters _ = I ∷ []

abbrev pub list_letters : ListCall → List Letter
list_letters list.Splice = C ∷ S ∷ []
list_letters list.SpliceOne = C ∷ S ∷ V ∷ []
list_letters _ = C ∷ C ∷ []

abbrev pub walk_letters : WalkCall → List Letter
walk_letters walk.First = []
walk_letters walk.Next = C ∷ []
walk_letters walk.Delete = V ∷ []

abbrev pub map_letters : MapCall → List Letter
map_letters map.Key = C ∷ []
map_letters map.Insert = K ∷ E ∷ []
map_letters map.InsertPos = K ∷ E ∷ V ∷ []
map_letters map.Include = K ∷ E ∷ []
map_letters map.Replace = K ∷ E ∷ []
map_letters _ = K ∷ []

abbrev pub set_letters : SetCall → List Letter
set_letters set.InsertPos = E ∷ V ∷ []
set_letters _ = E ∷ []

abbrev pub set_pair_letters : SetPairCall → List Letter
set_pair_letters c = S ∷ []

abbrev pub keyed_letters : KeyedCall → List Letter
keyed_letters keyed_set.Key = C ∷ []
keyed_letters keyed_set.KeyReplace = K ∷ E ∷ []
keyed_letters _ = K ∷ []

abbrev pub ordered_letters : OrderedCall → List Letter
ordered_letters ordered.Previous = C ∷ []
ordered_letters _ = []

abbrev pub ordered_map_letters : OrderedMapCall → List Letter
ordered_map_letters ordered_map.Floor = K ∷ []
ordered_map_letters ordered_map.Ceiling = K ∷ []
ordered_map_letters _ = []

abbrev pub ordered_set_letters : OrderedSetCall → List Letter
ordered_set_letters c = E ∷ []

abbrev pub tree_letters : TreeCall → List Letter
tree_letters tree.NodeCount = []
tree_letters tree.Root = []
tree_letters tree.Find = E ∷ []
tree_letters tree.Contains = E ∷ []
tree_letters tree.FindInSubtree = C ∷ E ∷ []
tree_letters tree.AncestorFind = C ∷ E ∷ []
tree_letters _ = C ∷ []

abbrev pub tree_change_letters : TreeChangeCall → List Letter
tree_change_letters tree_change.InsertChild = C ∷ C ∷ E ∷ I ∷ []
tree_change_letters tree_change.InsertChildPos = C ∷ C ∷ E ∷ V ∷ I ∷ []
tree_change_letters tree_change.DeleteLeaf = V ∷ []
tree_change_letters tree_change.DeleteSubtree = V ∷ []
tree_change_letters tree_change.DeleteChildren = C ∷ []
tree_change_letters tree_change.Swap = C ∷ C ∷ []
tree_change_letters tree_change.CopySubtree = C ∷ C ∷ S ∷ C ∷ []
tree_change_letters tree_change.SpliceSubtreeFrom = C ∷ C ∷ S ∷ V ∷ []
tree_change_letters tree_change.SpliceSubtree = C ∷ C ∷ C ∷ []
tree_change_letters tree_change.SpliceChildrenFrom = C ∷ C ∷ S ∷ C ∷ []
tree_change_letters tree_change.SpliceChildren = C ∷ C ∷ C ∷ []
tree_change_letters _ = C ∷ E ∷ I ∷ []

abbrev pub holder_letters : HolderCall → List Letter
holder_letters holder.ReplaceElement = E ∷ []
holder_letters holder.Assign = S ∷ []
holder_letters holder.MoveFrom = S ∷ []
holder_letters holder.Swap = S ∷ []
holder_letters holder.Equal = S ∷ []
holder_letters _ = []

abbrev pub queue_letters : QueueCall → List Letter
queue_letters queue.Enqueue = E ∷ []
queue_letters queue.DequeueOnlyHighPriority = I ∷ []
queue_letters _ = []

abbrev pub letters_of : Operation → List Letter
letters_of (operation.Common c) = common_letters c
letters_of (operation.Sequence c) = sequence_letters c
letters_of (operation.Capacity c) = capacity_letters c
letters_of (operation.Vector c) = vector_letters c
letters_of (operation.List c) = list_letters c
letters_of (operation.Walk c) = walk_letters c
letters_of (operation.Map c) = map_letters c
letters_of (operation.Set c) = set_letters c
letters_of (operation.SetPair c) = set_pair_letters c
letters_of (operation.Keyed c) = keyed_letters c
letters_of (operation.Ordered c) = ordered_letters c
letters_of (operation.OrderedMap c) = ordered_map_letters c
letters_of (operation.OrderedSet c) = ordered_set_letters c
letters_of (operation.Tree c) = tree_letters c
letters_of (operation.TreeChange c) = tree_change_letters c
letters_of (operation.Holder c) = holder_letters c
letters_of (operation.Queue c) = queue_letters c

-- Each row says the same

abbrev same_letter : Letter → Letter → Bool
same_letter letter.Cursor letter.Cursor = true
same_letter letter.CursorVariable letter.CursorVariable = true
same_letter letter.Integer letter.Integer = true
same_letter letter.Element letter.Element = true
same_letter letter.Key letter.Key = true
same_letter letter.Object letter.Object = true
same_letter _ _ = false

letter_same : (a b : Letter) → same_letter a b ≡ true → a ≡ b
letter_same letter.Cursor letter.Cursor h = refl
letter_same letter.CursorVariable letter.CursorVariable h = refl
letter_same letter.Integer letter.Integer h = refl
letter_same letter.Element letter.Element h = refl
letter_same letter.Key letter.Key h = refl
letter_same letter.Object letter.Object h = refl
letter_same _ _ h = neither h

abbrev same_letters : List Letter → List Letter → Bool
same_letters [] [] = true
same_letters [] (_ ∷ _) = false
same_letters (_ ∷ _) [] = false
same_letters (a ∷ letters) (b ∷ others) = same_letter a b && same_letters letters others

letters_same : (letters others : List Letter) → same_letters letters others ≡ true → letters ≡ others
letters_same [] [] h = refl
letters_same [] (b ∷ others) h = neither h
letters_same (a ∷ letters) [] h = neither h
letters_same (a ∷ letters) (b ∷ others) h =
    let both = and_parts (same_letter a b) (same_letters letters others) h in
    λ i. letter_same a b both.0 i ∷ letters_same letters others both.1 i

abbrev has_letters : Row → Bool
has_letters row = same_letters (letters_of row.operation) (letters_in row)

letters_by : (k : Kind) (keyed : Bool) → list_all has_letters (rows_by k keyed ++ rows_if (has_capacity k) capacity_rows) ≡ true
unfolding common_rows counted_rows sequence_rows capacity_rows vector_rows list_rows keyed_walk_rows map_rows set_rows keyed_rows ordered_keyed_rows ordered_rows ordered_map_rows ordered_set_rows tree_rows tree_change_rows holder_rows queue_rows priority_queue_rows
letters_by kind.Vector keyed = refl
letters_by kind.List keyed = refl
letters_by kind.HashedMap keyed = refl
letters_by kind.OrderedMap keyed = refl
letters_by kind.HashedSet true = refl
letters_by kind.HashedSet false = refl
letters_by kind.OrderedSet true = refl
letters_by kind.OrderedSet false = refl
letters_by kind.Tree keyed = refl
letters_by kind.Holder keyed = refl
letters_by kind.Queue keyed = refl
letters_by kind.PriorityQueue keyed = refl

all_letters : (def : TypeDef) → list_all has_letters (rows_of def) ≡ true
unfolding rows_of
all_letters def = letters_by def.kind def.keyed

pub row_letters : (def : TypeDef) (row : Row) → Contains (rows_of def) row → letters_of row.operation ≡ letters_in row
row_letters def row there =
    letters_same (letters_of row.operation) (letters_in row)
    (All-contains (λ (other : Row). has_letters other ≡ true) (rows_of def) row
    (AllPass-from_list_all has_letters (rows_of def) (all_letters def)) there)

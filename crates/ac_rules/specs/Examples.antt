-- Declarations and statements that keep the rules and that break them, worked out by hand.
use Rattle.std.specs.Prelude.{◌≡◌, ℕ, zero, suc, ◌&&◌, pos, codes, Bool, true, false, not, List, [], ◌∷◌, ◌++◌, map, Option, Some, None, IsTrue}
use Rattle.std.specs.List.{list_all, list_any}
use Rattle.ac_base.specs.declared.value.Value.TheVariants as value
use Rattle.ac_syntax.specs.Code.{stop, loop_at, view_at}
use Rattle.ac_syntax.specs.declared.arg.Arg.{Arg}
use Rattle.ac_syntax.specs.declared.arg.Arg.TheVariants.{Lit, NoElement, Var}
use Rattle.ac_syntax.specs.declared.decl.Decl.{Decl}
use Rattle.ac_syntax.specs.declared.decl.Decl.TheVariants.{TypeDecl, Object, CursorVar, IntVar, TextVar}
use Rattle.ac_syntax.specs.declared.kind.Kind.{Kind}
use Rattle.ac_syntax.specs.declared.kind.Kind.TheVariants as kind
use Rattle.ac_syntax.specs.declared.kind.ElemKind.{ElemKind}
use Rattle.ac_syntax.specs.declared.kind.ElemKind.TheVariants.{Integer, Str}
use Rattle.ac_syntax.specs.declared.stmt.Stmt.{Stmt}
use Rattle.ac_syntax.specs.declared.stmt.Stmt.TheVariants.{Call, Set, Sum, Loop, View, Stable}
use Rattle.ac_syntax.specs.declared.type_def.TypeDef.{TypeDef}
use Rattle.ac_syntax.specs.declared.view_kind.ViewKind.{ViewKind}
use Rattle.ac_syntax.specs.declared.view_kind.ViewKind.TheVariants.{Query, Update, Reference, UpdateKey}
use Rattle.ac_syntax.specs.declared.operation.Operation.{Operation}
use Rattle.ac_syntax.specs.declared.operation.Operation.TheVariants as operation
use Rattle.ac_syntax.specs.declared.operation.SequenceCall.TheVariants as sequence_call
use Rattle.ac_syntax.specs.declared.operation.ListCall.TheVariants as list_call
use Rattle.ac_syntax.specs.declared.operation.VectorCall.TheVariants as vector_call
use Rattle.ac_syntax.specs.declared.operation.MapCall.TheVariants as map_call
use Rattle.ac_syntax.specs.declared.operation.SetCall.TheVariants as set_call
use Rattle.ac_syntax.specs.declared.operation.SetPairCall.TheVariants as set_pair_call
use Rattle.ac_syntax.specs.declared.operation.KeyedCall.TheVariants as keyed_call
use Rattle.ac_syntax.specs.declared.operation.TreeChangeCall.TheVariants as tree_change_call
use Rattle.ac_syntax.specs.declared.operation.QueueCall.TheVariants as queue_call
use Rattle.ac_rules.specs.Operations.{operation_of}
use Rattle.ac_rules.specs.Faults.{is_crowded}
use Rattle.ac_rules.specs.Rules.{is_decl, is_stmt}
use Rattle.ac_rules.specs.Scopes.{Scope, entry, object_of, an_object, a_type, a_cursor, a_value, with_decls, inside}

-- the first keep the rules, and none of the others does

abbrev pub Tells : Scope → (kept broken : List Stmt) → Type 0
Tells scope kept broken = IsTrue (list_all (is_stmt scope) kept && not (list_any (is_stmt scope) broken))

abbrev pub TellsDecls : Scope → (kept broken : List Decl) → Type 0
TellsDecls scope kept broken = IsTrue (list_all (is_decl scope) kept && not (list_any (is_decl scope) broken))

-- statements on line 1

abbrev pub call : (target : Option (List ℕ)) → (object word : List ℕ) → List Arg → Stmt
call target object word args = Call 1 target object word args

abbrev pub done : (object word : List ℕ) → List Arg → Stmt
done object word args = call None object word args

abbrev pub number : ℕ → Arg
number n = Lit (value.Int (pos n))

abbrev pub text : List ℕ → Arg
text bytes = Lit (value.Text bytes)

-- the names of the examples

abbrev pub A : List ℕ
A = codes "a"

abbrev pub B : List ℕ
B = codes "b"

abbrev pub C : List ℕ
C = codes "c"

abbrev pub D : List ℕ
D = codes "d"

abbrev pub E : List ℕ
E = codes "e"

abbrev pub N : List ℕ
N = codes "n"

abbrev pub O : List ℕ
O = codes "o"

abbrev pub S : List ℕ
S = codes "s"

abbrev pub V : List ℕ
V = codes "v"

abbrev pub X : List ℕ
X = codes "x"

abbrev pub Y : List ℕ
Y = codes "y"

abbrev pub def : (bounded : Bool) → Kind → ElemKind → Option ElemKind → (keyed : Bool) → TypeDef
def bounded k first second keyed = record { bounded = bounded; kind = k; first = first; second = second; keyed = keyed }

abbrev pub list_of : ElemKind → TypeDef
list_of elem = def false kind.List elem None false

-- A and B are lists of integers of one type, O of another, and S is of strings; D and E are cursors of A's and of S's; X is an integer, Y a string
abbrev pub scope : Scope
scope = with_decls [] (
    TypeDecl 1 (codes "l") (list_of Integer) ∷ TypeDecl 1 (codes "m") (list_of Integer) ∷ TypeDecl 1 (codes "t") (list_of Str)
    ∷ Object 1 A (codes "l") None ∷ Object 1 B (codes "l") None ∷ Object 1 O (codes "m") None ∷ Object 1 S (codes "t") None
    ∷ CursorVar 1 D (codes "l") ∷ CursorVar 1 E (codes "t") ∷ IntVar 1 X ∷ TextVar 1 Y ∷ [])

-- an element is of the object's type
abbrev pub TakesElements : Type 0
TakesElements = Tells scope
    (done A (codes "append") (number 5 ∷ []) ∷ done S (codes "append") (text Y ∷ []) ∷ done A (codes "append") (Var X ∷ []) ∷ [])
    (done S (codes "append") (number 5 ∷ []) ∷ done A (codes "append") (text Y ∷ []) ∷ done A (codes "append") (Var Y ∷ [])
    ∷ done A (codes "append") (Var D ∷ []) ∷ done A (codes "append") (NoElement ∷ []) ∷ [])

-- a call has a row's arguments, with the last left out where it may be, and no more
abbrev pub CountsArguments : Type 0
CountsArguments = Tells scope
    (done A (codes "append") (number 5 ∷ number 2 ∷ []) ∷ done A (codes "delete_first") [] ∷ done A (codes "delete_first") (number 2 ∷ []) ∷ [])
    (done A (codes "append") [] ∷ done A (codes "append") (number 5 ∷ number 2 ∷ number 1 ∷ []) ∷ done A (codes "delete_first") (number 2 ∷ number 1 ∷ [])
    ∷ done A (codes "clear") (number 2 ∷ []) ∷ [])

-- another object is of the same type by name
abbrev pub SplicesOfOneType : Type 0
SplicesOfOneType = Tells scope
    (done A (codes "splice") (Var D ∷ Var B ∷ Var D ∷ []) ∷ done A (codes "splice") (Var D ∷ Var B ∷ []) ∷ done A (codes "splice") (Var D ∷ Var D ∷ []) ∷ [])
    (done A (codes "splice") (Var D ∷ Var O ∷ Var D ∷ []) ∷ done A (codes "splice") (Var D ∷ Var S ∷ Var D ∷ []) ∷ done A (codes "merge") (Var O ∷ []) ∷ [])

-- a cursor is of the object's type
abbrev pub TakesCursors : Type 0
TakesCursors = Tells scope
    (Set 1 D NoElement ∷ Set 1 D (Var D) ∷ call (Some D) A (codes "first") [] ∷ call (Some X) A (codes "element") (Var D ∷ [])
    ∷ done A (codes "insert") (NoElement ∷ number 5 ∷ []) ∷ [])
    (Set 1 D (Var E) ∷ Set 1 X NoElement ∷ call (Some E) A (codes "first") [] ∷ call (Some X) A (codes "element") (Var E ∷ [])
    ∷ done A (codes "delete") (NoElement ∷ []) ∷ done A (codes "delete") (Var E ∷ []) ∷ [])

-- in a loop over A its cursor C is read, and isn't set
abbrev pub KeepsLoopCursor : Type 0
KeepsLoopCursor = Tells (inside scope (loop_at 1 C false false A))
    (call (Some X) A (codes "element") (Var C ∷ []) ∷ Set 1 D (Var C) ∷ done A (codes "delete") (Var D ∷ []) ∷ [])
    (done A (codes "delete") (Var C ∷ []) ∷ Set 1 C (Var D) ∷ Set 1 C NoElement ∷ [])

-- an answer is taken by a variable of its type, and what is only printed by none
abbrev pub TakesAnswers : Type 0
TakesAnswers = Tells scope
    (call (Some X) A (codes "first_element") [] ∷ call (Some Y) S (codes "first_element") [] ∷ call (Some X) S (codes "length") [] ∷ done A (codes "is_empty") [] ∷ [])
    (call (Some Y) A (codes "first_element") [] ∷ call (Some X) A (codes "is_empty") [] ∷ call (Some X) A (codes "print") []
    ∷ call (Some X) A (codes "clear") [] ∷ call (Some X) A (codes "first") [] ∷ [])

-- a sum is of integers
abbrev pub SumsIntegers : Type 0
SumsIntegers = Tells scope (Sum 1 X X false 1 ∷ Set 1 X (number 1) ∷ []) (Sum 1 Y X false 1 ∷ Sum 1 X Y true 1 ∷ Sum 1 D D false 1 ∷ Set 1 X (Var Y) ∷ [])

-- what a query shows isn't written
abbrev pub WritesNothingQueried : Type 0
WritesNothingQueried = Tells (inside scope (view_at 1 Query A (Some D) V)) (Set 1 X (Var V) ∷ []) (Set 1 V (number 5) ∷ Sum 1 V X false 1 ∷ [])

abbrev pub WritesUpdated : Type 0
WritesUpdated = Tells (inside scope (view_at 1 Update A (Some D) V)) (Set 1 V (number 5) ∷ Set 1 X (Var V) ∷ []) (Set 1 V (Var Y) ∷ [])

-- the elements of a list are written in a loop over them
abbrev pub WritesLooped : Type 0
WritesLooped = Tells (inside scope (loop_at 1 V true false A)) (Set 1 V (number 5) ∷ []) (Set 1 V (Var Y) ∷ done A (codes "delete") (Var V ∷ []) ∷ [])

-- objects of kinds that no declaration makes yet

abbrev made : List ℕ → TypeDef → Scope
made name def = entry name (an_object name def) ∷ []

-- a vector, a hashed map of strings to integers, an ordered one, a keyed set of strings, one without keys, a tree, a holder and a queue
abbrev kinds : Scope
kinds =
    made (codes "list") (list_of Integer) ++ made (codes "vector") (def false kind.Vector Integer None false)
    ++ made (codes "map") (def false kind.HashedMap Str (Some Integer) false) ++ made (codes "ordered") (def false kind.OrderedMap Str (Some Integer) false)
    ++ made (codes "keyed") (def false kind.OrderedSet Str None true) ++ made (codes "set") (def false kind.HashedSet Str None false)
    ++ made (codes "tree") (def false kind.Tree Integer None false) ++ made (codes "holder") (def false kind.Holder Integer None false)
    ++ made (codes "queue") (def false kind.Queue Integer None false)
    ++ entry X (a_value Integer true) ∷ entry Y (a_value Str true) ∷ []

abbrev loop_over : (backward : Bool) → (object : List ℕ) → Stmt
loop_over backward object = Loop 1 C false backward object stop

-- what has cursors is looped over, and backward where its kind lets it
abbrev pub LoopsOverCursors : Type 0
LoopsOverCursors = Tells kinds
    (loop_over true (codes "list") ∷ loop_over true (codes "vector") ∷ loop_over true (codes "ordered") ∷ loop_over false (codes "map")
    ∷ loop_over false (codes "tree") ∷ Stable 1 (codes "set") stop ∷ [])
    (loop_over true (codes "map") ∷ loop_over true (codes "set") ∷ loop_over true (codes "tree") ∷ loop_over false (codes "holder")
    ∷ loop_over false (codes "queue") ∷ loop_over false X ∷ Stable 1 (codes "holder") stop ∷ [])

-- a view of an object with this name, at the cursor of its type
abbrev seen : ViewKind → (object : List ℕ) → Stmt
seen k object = View 1 k object (Some C) V stop

abbrev with_cursor : (type : List ℕ) → Scope
with_cursor type = kinds ++ entry C (a_cursor type false) ∷ []

-- an element is viewed at a cursor of the object's type, and a set's isn't written but for its key's sake
abbrev pub ViewsElements : Type 0
ViewsElements = Tells (with_cursor (codes "list"))
    (seen Query (codes "list") ∷ seen Update (codes "list") ∷ seen Reference (codes "list") ∷ [])
    (seen UpdateKey (codes "list") ∷ seen Query (codes "vector") ∷ View 1 Query (codes "list") None V stop ∷ View 1 Query (codes "list") (Some X) V stop ∷ [])

abbrev pub ViewsSets : Type 0
ViewsSets = Tells (with_cursor (codes "keyed"))
    (seen Query (codes "keyed") ∷ seen UpdateKey (codes "keyed") ∷ []) (seen Update (codes "keyed") ∷ seen Reference (codes "keyed") ∷ [])

-- without keys no key is updated
abbrev pub UpdatesNoKey : Type 0
UpdatesNoKey = Tells (with_cursor (codes "set")) (seen Query (codes "set") ∷ []) (seen UpdateKey (codes "set") ∷ [])

-- a holder's element has no cursor, and a queue's can't be viewed
abbrev pub ViewsHolders : Type 0
ViewsHolders = Tells (with_cursor (codes "holder"))
    (View 1 Query (codes "holder") None V stop ∷ View 1 Update (codes "holder") None V stop ∷ [])
    (seen Query (codes "holder") ∷ View 1 Query (codes "queue") None V stop ∷ [])

-- each kind has its own calls
abbrev pub CallsByKind : Type 0
CallsByKind = Tells kinds
    (call (Some X) (codes "vector") (codes "element") (number 3 ∷ []) ∷ done (codes "map") (codes "insert") (text Y ∷ number 3 ∷ [])
    ∷ call (Some X) (codes "map") (codes "element") (text Y ∷ []) ∷ call (Some Y) (codes "ordered") (codes "last_key") []
    ∷ done (codes "keyed") (codes "key_exclude") (text Y ∷ []) ∷ call (Some X) (codes "queue") (codes "dequeue") []
    ∷ done (codes "set") (codes "union") (Var (codes "set") ∷ []) ∷ done (codes "keyed") (codes "overlap") (Var (codes "keyed") ∷ []) ∷ [])
    (call (Some X) (codes "list") (codes "element") (number 3 ∷ []) ∷ done (codes "map") (codes "insert") (number 3 ∷ text Y ∷ [])
    ∷ call (Some Y) (codes "map") (codes "last_key") [] ∷ done (codes "set") (codes "key_exclude") (text Y ∷ [])
    ∷ done (codes "tree") (codes "length") [] ∷ done (codes "queue") (codes "clear") []
    ∷ done (codes "set") (codes "union") (Var (codes "keyed") ∷ []) ∷ done (codes "map") (codes "union") (Var (codes "map") ∷ [])
    ∷ done (codes "set") (codes "is_subset") (text Y ∷ []) ∷ call (Some X) (codes "set") (codes "union") (Var (codes "set") ∷ []) ∷ [])

-- the elements of a set aren't written in a loop over them
abbrev pub WritesNoSet : Type 0
WritesNoSet = Tells (inside kinds (loop_at 1 V true false (codes "set"))) (Set 1 Y (Var V) ∷ []) (Set 1 V (Var Y) ∷ [])

-- an object has a capacity just where its type is bounded
abbrev pub FitsCapacity : Type 0
FitsCapacity = TellsDecls (with_decls [] (TypeDecl 1 (codes "l") (list_of Integer) ∷ TypeDecl 1 (codes "b") (def true kind.List Integer None false) ∷ []))
    (Object 1 A (codes "l") None ∷ Object 1 A (codes "b") (Some 5) ∷ CursorVar 1 D (codes "b") ∷ [])
    (Object 1 A (codes "l") (Some 5) ∷ Object 1 A (codes "b") None ∷ Object 1 A X None ∷ CursorVar 1 D X ∷ [])

-- of holders and queues there are no cursors
abbrev pub NeedsCursors : Type 0
NeedsCursors = TellsDecls (entry S (a_type (def false kind.HashedSet Str None false)) ∷ entry A (a_type (def false kind.Holder Integer None false)) ∷ [])
    (CursorVar 1 D S ∷ []) (CursorVar 1 D A ∷ [])

abbrev declares : TypeDef → Decl
declares def = TypeDecl 1 A def

abbrev pairs : List Kind
pairs = kind.HashedMap ∷ kind.OrderedMap ∷ []

abbrev singles : List Kind
singles = kind.Vector ∷ kind.List ∷ kind.HashedSet ∷ kind.OrderedSet ∷ kind.Tree ∷ kind.Holder ∷ []

abbrev sets : List Kind
sets = kind.HashedSet ∷ kind.OrderedSet ∷ []

abbrev queues : List Kind
queues = kind.Queue ∷ kind.PriorityQueue ∷ []

-- vectors, lists, sets, trees and holders of one sort of element, maps of two and queues of integers are made yet, and sets of strings alone have keys
abbrev pub MakesRows : Type 0
MakesRows = TellsDecls []
    (map (λ k. declares (def false k Integer None false)) singles ++ map (λ k. declares (def true k Str None false)) singles
    ++ map (λ k. declares (def false k Integer (Some Str) false)) pairs ++ map (λ k. declares (def true k Str (Some Str) false)) pairs
    ++ map (λ k. declares (def false k Str None true)) sets ++ map (λ k. declares (def true k Str None true)) sets
    ++ map (λ k. declares (def false k Integer None false)) queues ++ map (λ k. declares (def true k Integer None false)) queues)
    (map (λ k. declares (def false k Integer (Some Integer) false)) singles ++ map (λ k. declares (def false k Integer None true)) singles
    ++ map (λ k. declares (def false k Str None true)) (kind.Vector ∷ kind.List ∷ kind.Tree ∷ kind.Holder ∷ [])
    ++ map (λ k. declares (def false k Str (Some Str) true)) sets
    ++ map (λ k. declares (def false k Integer None false)) pairs ++ map (λ k. declares (def false k Str (Some Str) true)) pairs
    ++ map (λ k. declares (def false k Str None false)) queues ++ map (λ k. declares (def false k Integer (Some Integer) false)) queues)

abbrev named : ℕ → Scope
named zero = []
named (suc n) = entry Y (a_value Str true) ∷ named n

-- behind 999 names there is room for one more, and behind 1,000 for none
abbrev pub CountsNames : Type 0
CountsNames = IsTrue (not (is_crowded (named 999) (Some X)) && (is_crowded (named 1000) (Some X) && not (is_crowded (named 1000) None)))

-- the operation that a call means

abbrev meant : Scope → (object word : List ℕ) → List Arg → Option Operation
meant names object word args = operation_of names (object_of names object) None word args

-- by its arguments, where one word means several
abbrev pub MeansByArguments : Type 0
MeansByArguments =
    (meant scope A (codes "splice") (Var D ∷ Var B ∷ []) ∷ meant scope A (codes "splice") (Var D ∷ Var B ∷ Var D ∷ [])
    ∷ meant scope A (codes "splice") (Var D ∷ NoElement ∷ []) ∷ meant scope A (codes "splice") (Var D ∷ Var O ∷ [])
    ∷ meant scope A (codes "insert") (Var D ∷ number 5 ∷ []) ∷ meant scope A (codes "insert") (Var D ∷ number 5 ∷ number 2 ∷ [])
    ∷ meant scope A (codes "insert") (Var D ∷ number 5 ∷ Var D ∷ number 2 ∷ []) ∷ [])
    ≡ (Some (operation.List list_call.Splice) ∷ Some (operation.List list_call.SpliceOne)
    ∷ Some (operation.List list_call.SpliceWithin) ∷ None
    ∷ Some (operation.Sequence sequence_call.Insert) ∷ Some (operation.Sequence sequence_call.Insert)
    ∷ Some (operation.Sequence sequence_call.InsertPos) ∷ [])

-- and by its object's kind
abbrev pub MeansByKind : Type 0
MeansByKind =
    (meant kinds (codes "vector") (codes "element") (number 3 ∷ []) ∷ meant kinds (codes "map") (codes "element") (text Y ∷ [])
    ∷ meant kinds (codes "map") (codes "delete") (text Y ∷ []) ∷ meant kinds (codes "set") (codes "delete") (text Y ∷ [])
    ∷ meant kinds (codes "keyed") (codes "key_exclude") (text Y ∷ []) ∷ meant kinds (codes "queue") (codes "peak_use") []
    ∷ meant kinds (codes "set") (codes "difference") (Var (codes "set") ∷ []) ∷ meant kinds (codes "keyed") (codes "is_subset") (Var (codes "keyed") ∷ [])
    ∷ meant kinds (codes "set") (codes "difference") (Var (codes "keyed") ∷ []) ∷ [])
    ≡ (Some (operation.Vector vector_call.ElementIndex) ∷ Some (operation.Map map_call.ElementKey)
    ∷ Some (operation.Map map_call.DeleteKey) ∷ Some (operation.Set set_call.DeleteItem)
    ∷ Some (operation.Keyed keyed_call.KeyExclude) ∷ Some (operation.Queue queue_call.PeakUse)
    ∷ Some (operation.SetPair set_pair_call.Difference) ∷ Some (operation.SetPair set_pair_call.IsSubset) ∷ None ∷ [])

-- of trees: within one tree, with another as the source, and with a variable where one is set
abbrev tree_call : (word : List ℕ) → List Arg → Option Operation
tree_call word args = meant (kinds ++ entry C (a_cursor (codes "tree") true) ∷ []) (codes "tree") word args

abbrev tree : Arg
tree = Var (codes "tree")

abbrev pub TreesMeanByArguments : Type 0
TreesMeanByArguments =
    (tree_call (codes "insert_child") (Var C ∷ NoElement ∷ number 5 ∷ []) ∷ tree_call (codes "insert_child") (Var C ∷ Var C ∷ number 5 ∷ number 2 ∷ [])
    ∷ tree_call (codes "insert_child") (Var C ∷ Var C ∷ number 5 ∷ Var C ∷ number 2 ∷ [])
    ∷ tree_call (codes "copy_subtree") (Var C ∷ NoElement ∷ tree ∷ NoElement ∷ []) ∷ tree_call (codes "copy_subtree") (Var C ∷ NoElement ∷ Var C ∷ [])
    ∷ tree_call (codes "splice_subtree") (Var C ∷ Var C ∷ tree ∷ Var C ∷ []) ∷ tree_call (codes "splice_subtree") (Var C ∷ Var C ∷ tree ∷ NoElement ∷ [])
    ∷ tree_call (codes "splice_subtree") (Var C ∷ Var C ∷ NoElement ∷ []) ∷ tree_call (codes "splice_children") (Var C ∷ Var C ∷ tree ∷ NoElement ∷ [])
    ∷ tree_call (codes "splice_children") (Var C ∷ NoElement ∷ Var C ∷ []) ∷ tree_call (codes "splice_children") (Var C ∷ NoElement ∷ []) ∷ [])
    ≡ (Some (operation.TreeChange tree_change_call.InsertChild) ∷ Some (operation.TreeChange tree_change_call.InsertChild)
    ∷ Some (operation.TreeChange tree_change_call.InsertChildPos)
    ∷ Some (operation.TreeChange tree_change_call.CopySubtree) ∷ None
    ∷ Some (operation.TreeChange tree_change_call.SpliceSubtreeFrom) ∷ None
    ∷ Some (operation.TreeChange tree_change_call.SpliceSubtree) ∷ Some (operation.TreeChange tree_change_call.SpliceChildrenFrom)
    ∷ Some (operation.TreeChange tree_change_call.SpliceChildren) ∷ None ∷ [])

-- States and their texts, worked out by hand.
use Rattle.std.specs.Prelude.{◌≡◌, ℕ, pos, neg_ℤ, codes, Bool, true, false, List, [], ◌∷◌, ◌++◌, Option, Some, None}
use Rattle.ac_base.specs.declared.value.Value.{Value}
use Rattle.ac_base.specs.declared.value.Value.TheVariants as value
use Rattle.ac_syntax.specs.declared.kind.ElemKind.{ElemKind}
use Rattle.ac_syntax.specs.declared.kind.ElemKind.TheVariants.{Integer, Str}
use Rattle.ac_syntax.specs.declared.kind.Kind.{Kind}
use Rattle.ac_syntax.specs.declared.kind.Kind.TheVariants as kinds
use Rattle.ac_syntax.specs.declared.type_def.TypeDef.{TypeDef}
use Rattle.ac_calls.specs.PlainRows.{value_row, keyed_row, node_row}
use Rattle.ac_calls.specs.declared.plains.Plain.{Plain}
use Rattle.ac_calls.specs.declared.plains.Plain.TheVariants as plain
use Rattle.ac_calls.specs.declared.plains.PlainRow.{PlainRow}
use Rattle.ac_snapshot.specs.StateTexts.{entry_text, state_text}

-- Values, rows and types in short

abbrev pub number : ℕ → Value
number n = value.Int (pos n)

abbrev pub minus : ℕ → Value
minus n = value.Int (neg_ℤ (pos n))

abbrev pub text : List ℕ → Value
text bytes = value.Text bytes

abbrev pub item : ℕ → PlainRow
item n = value_row (number n)

abbrev pub text_item : List ℕ → PlainRow
text_item bytes = value_row (text bytes)

abbrev pub one_of : (bounded : Bool) → Kind → ElemKind → TypeDef
one_of bounded kind first = record { bounded = bounded; kind = kind; first = first; second = None; keyed = false }

abbrev pub two_of : (bounded : Bool) → Kind → (first second : ElemKind) → TypeDef
two_of bounded kind first second = record { bounded = bounded; kind = kind; first = first; second = Some second; keyed = false }

abbrev pub keyed_of : (bounded : Bool) → Kind → TypeDef
keyed_of bounded kind = record { bounded = bounded; kind = kind; first = Str; second = None; keyed = true }

-- objects A with a limit, with a Capacity, and with neither

abbrev pub bounded_a : TypeDef → (limit : ℕ) → List PlainRow → Plain
bounded_a def limit rows = plain.Object (codes "a") def (Some limit) None None rows

abbrev pub growing_a : TypeDef → (capacity : ℕ) → List PlainRow → Plain
growing_a def capacity rows = plain.Object (codes "a") def None (Some capacity) None rows

abbrev pub plain_a : TypeDef → List PlainRow → Plain
plain_a def rows = plain.Object (codes "a") def None None None rows

-- and queues

abbrev pub queue_a : Kind → (limit : Option ℕ) → (peak : ℕ) → List PlainRow → Plain
queue_a kind None peak rows = plain.Object (codes "a") (one_of false kind Integer) None None (Some peak) rows
queue_a kind (Some limit) peak rows = plain.Object (codes "a") (one_of true kind Integer) (Some limit) None (Some peak) rows

-- Texts

abbrev pub line : List ℕ → List ℕ
line bytes = bytes ++ 10 ∷ []

abbrev IsWritten : Plain → List ℕ → Type 0
IsWritten e bytes = entry_text e ≡ line bytes

-- a bounded list and an integer
abbrev pub bounded_list : Plain
bounded_list = bounded_a (one_of true kinds.List Integer) 3 (item 4 ∷ item 4 ∷ [])

abbrev pub list_and_integer : List Plain
list_and_integer = bounded_list ∷ plain.Int (codes "n") (pos 7) ∷ []

abbrev pub list_and_integer_text : List ℕ
list_and_integer_text = line (codes "object a bounded list (integer) limit 3 [4, 4]") ++ line (codes "integer n 7")

abbrev pub WritesListAndInteger : Type 0
WritesListAndInteger = state_text list_and_integer ≡ list_and_integer_text

abbrev pub WritesNothing : Type 0
WritesNothing = state_text [] ≡ []

abbrev pub WritesVector : Type 0
WritesVector =
    IsWritten (plain.Object (codes "v") (one_of false kinds.Vector Integer) None (Some 8) None (item 1 ∷ []))
    (codes "object v vector (integer) capacity 8 [1]")

abbrev pub WritesInteger : Type 0
WritesInteger = IsWritten (plain.Int (codes "n") (neg_ℤ (pos 5))) (codes "integer n -5")

-- a quote is doubled
abbrev pub WritesString : Type 0
WritesString = IsWritten (plain.Str (codes "s_1") (codes "a\"b")) (codes "string s_1 \"a\"\"b\"")

abbrev pub WritesList : Type 0
WritesList = IsWritten (plain_a (one_of false kinds.List Str) []) (codes "object a list (string) []")

abbrev pub WritesHashedMap : Type 0
WritesHashedMap =
    IsWritten
    (growing_a (two_of false kinds.HashedMap Str Integer) 8 (keyed_row (text (codes "b")) (number 1) ∷ keyed_row (text (codes "a")) (minus 2) ∷ []))
    (codes "object a hashed_map (string, integer) capacity 8 [\"b\" => 1, \"a\" => -2]")

abbrev pub WritesOrderedMap : Type 0
WritesOrderedMap =
    IsWritten (bounded_a (two_of true kinds.OrderedMap Integer Str) 5 (keyed_row (number 1) (text (codes "x")) ∷ []))
    (codes "object a bounded ordered_map (integer, string) limit 5 [1 => \"x\"]")

abbrev pub WritesKeyedSet : Type 0
WritesKeyedSet =
    IsWritten (growing_a (keyed_of false kinds.HashedSet) 16 (text_item (codes "b=1") ∷ text_item (codes "a") ∷ []))
    (codes "object a hashed_set (string) keyed capacity 16 [\"b=1\", \"a\"]")

abbrev pub WritesBoundedKeyedSet : Type 0
WritesBoundedKeyedSet =
    IsWritten (bounded_a (keyed_of true kinds.OrderedSet) 2 []) (codes "object a bounded ordered_set (string) keyed limit 2 []")

-- depths 2, 3, 4, 2
abbrev pub tree_rows : List PlainRow
tree_rows = node_row 2 (number 1) ∷ node_row 3 (number 2) ∷ node_row 4 (number 3) ∷ node_row 2 (number 4) ∷ []

abbrev pub WritesTree : Type 0
WritesTree = IsWritten (plain_a (one_of false kinds.Tree Integer) tree_rows) (codes "object a tree (integer) [1 [2 [3]], 4]")

abbrev pub WritesEmptyTree : Type 0
WritesEmptyTree = IsWritten (bounded_a (one_of true kinds.Tree Integer) 0 []) (codes "object a bounded tree (integer) limit 0 []")

abbrev pub WritesHolder : Type 0
WritesHolder =
    IsWritten (bounded_a (one_of true kinds.Holder Str) 4 (text_item (codes "abcd") ∷ []))
    (codes "object a bounded holder (string) limit 4 [\"abcd\"]")

abbrev pub WritesQueue : Type 0
WritesQueue = IsWritten (queue_a kinds.Queue None 3 (item 2 ∷ item 1 ∷ [])) (codes "object a queue (integer) peak 3 [2, 1]")

abbrev pub WritesPriorityQueue : Type 0
WritesPriorityQueue =
    IsWritten (queue_a kinds.PriorityQueue (Some 4) 2 (item 500 ∷ item 120 ∷ []))
    (codes "object a bounded priority_queue (integer) limit 4 peak 2 [500, 120]")

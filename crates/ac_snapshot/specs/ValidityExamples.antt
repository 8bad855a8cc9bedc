-- States that are valid, and for each rule states that break it alone, worked out by hand.
use Rattle.std.specs.Prelude.{ℕ, pos, negsuc, ◌-◌, ◌^◌, ◌&&◌, codes, replicate, true, false, not, List, [], ◌∷◌, map, Some, None, IsTrue}
use Rattle.std.specs.List.{list_all, list_any}
use Rattle.ac_syntax.specs.declared.kind.ElemKind.{ElemKind}
use Rattle.ac_syntax.specs.declared.kind.ElemKind.TheVariants.{Integer, Str}
use Rattle.ac_syntax.specs.declared.kind.Kind.TheVariants as kinds
use Rattle.ac_syntax.specs.declared.type_def.TypeDef.{TypeDef}
use Rattle.ac_calls.specs.PlainRows.{keyed_row, node_row}
use Rattle.ac_calls.specs.declared.plains.Plain.{Plain}
use Rattle.ac_calls.specs.declared.plains.Plain.TheVariants as plain
use Rattle.ac_calls.specs.declared.plains.PlainRow.{PlainRow}
use Rattle.ac_snapshot.specs.Validity.{is_valid_entry, is_valid}
use Rattle.ac_snapshot.specs.TextExamples.{number, minus, text, item, text_item, one_of, two_of, keyed_of, bounded_a, growing_a, plain_a, queue_a, tree_rows, list_and_integer}

-- all of the first are valid, and none of the others

abbrev TellsStates : (kept broken : List (List Plain)) → Type 0
TellsStates kept broken = IsTrue (list_all is_valid kept && not (list_any is_valid broken))

abbrev TellsEntries : (kept broken : List Plain) → Type 0
TellsEntries kept broken = IsTrue (list_all is_valid_entry kept && not (list_any is_valid_entry broken))

abbrev named : List ℕ → Plain
named name = plain.Int name (pos 0)

-- no state at all is one
abbrev pub TakesStates : Type 0
TakesStates = TellsStates ([] ∷ list_and_integer ∷ []) []

-- a name is an identifier in lower case, of at most 64 bytes
abbrev pub TellsNames : Type 0
TellsNames = TellsEntries
    (map named (codes "n" ∷ codes "a_1_" ∷ replicate 64 97 ∷ codes "when" ∷ []))
    (map named ([] ∷ codes "N" ∷ codes "nN" ∷ codes "1n" ∷ codes "_n" ∷ codes "n-1" ∷ codes "n " ∷ replicate 65 97 ∷ codes "list" ∷ codes "no_element" ∷ []))

-- and no other entry has it
abbrev pub TellsNamesApart : Type 0
TellsNamesApart = TellsStates
    ((named (codes "n") ∷ named (codes "m") ∷ []) ∷ [])
    ((named (codes "n") ∷ named (codes "m") ∷ plain.Str (codes "n") [] ∷ []) ∷ [])

abbrev pub TellsIntegers : Type 0
TellsIntegers = TellsEntries
    (plain.Int (codes "n") (pos (2 ^ 63 - 1)) ∷ plain.Int (codes "n") (negsuc (2 ^ 63 - 1)) ∷ [])
    (plain.Int (codes "n") (pos (2 ^ 63)) ∷ plain.Int (codes "n") (negsuc (2 ^ 63)) ∷ [])

abbrev pub TellsTexts : Type 0
TellsTexts = TellsEntries
    (map (plain.Str (codes "s")) ([] ∷ codes " ~" ∷ replicate 1000 97 ∷ []))
    (map (plain.Str (codes "s")) ((10 ∷ []) ∷ (127 ∷ []) ∷ replicate 1001 97 ∷ []))

-- a map has two elements and others one, a queue's are integers, and sets of strings alone are keyed

abbrev list_keyed : TypeDef
list_keyed = keyed_of false kinds.List

abbrev integers_keyed : TypeDef
integers_keyed = record (one_of false kinds.OrderedSet Integer) { keyed = true }

abbrev pub TellsTypes : Type 0
TellsTypes = TellsEntries
    (plain_a (two_of false kinds.OrderedMap Integer Str) [] ∷ plain_a (keyed_of false kinds.OrderedSet) [] ∷ queue_a kinds.Queue None 0 [] ∷ [])
    (plain_a (one_of false kinds.OrderedMap Integer) [] ∷ plain_a (two_of false kinds.List Integer Str) [] ∷ plain_a list_keyed []
    ∷ plain_a integers_keyed [] ∷ plain.Object (codes "a") (one_of false kinds.Queue Str) None None (Some 0) [] ∷ [])

-- a limit stands just where the type is bounded
abbrev pub TellsLimits : Type 0
TellsLimits = TellsEntries
    (bounded_a (one_of true kinds.List Integer) 1000000 [] ∷ bounded_a (one_of true kinds.Vector Integer) 0 [] ∷ plain_a (one_of false kinds.List Integer) [] ∷ [])
    (bounded_a (one_of true kinds.List Integer) 1000001 [] ∷ bounded_a (one_of false kinds.List Integer) 1 [] ∷ plain_a (one_of true kinds.List Integer) [] ∷ [])

-- all limits together are a million at most

abbrev with_limits : (first second : ℕ) → List Plain
with_limits first second =
    bounded_a (one_of true kinds.List Integer) first [] ∷ named (codes "n")
    ∷ plain.Object (codes "b") (one_of true kinds.Holder Integer) (Some second) None None [] ∷ []

abbrev pub TellsRoom : Type 0
TellsRoom = TellsStates (with_limits 999992 8 ∷ []) (with_limits 999992 9 ∷ with_limits 1000000 1 ∷ [])

-- a Capacity stands just where a vector or a hashed container isn't bounded; it is 0 or 8 * 2 ^ k

abbrev nine : List PlainRow
nine = replicate 9 (item 1)

abbrev vector : TypeDef
vector = one_of false kinds.Vector Integer

abbrev pub TellsCapacities : Type 0
TellsCapacities = TellsEntries
    (growing_a vector 0 [] ∷ growing_a vector 8 (item 1 ∷ []) ∷ growing_a vector 16 nine ∷ growing_a vector 1048576 []
    ∷ growing_a (one_of false kinds.HashedSet Integer) 32 [] ∷ [])
    (plain_a vector [] ∷ growing_a vector 4 [] ∷ growing_a vector 24 [] ∷ growing_a vector 8 nine ∷ growing_a vector 2097152 []
    ∷ growing_a (one_of false kinds.List Integer) 8 [] ∷ growing_a (one_of false kinds.OrderedSet Integer) 8 []
    ∷ plain.Object (codes "a") (one_of true kinds.Vector Integer) (Some 8) (Some 8) None [] ∷ [])

-- a peak stands just in queues, between their length and their limit
abbrev pub TellsPeaks : Type 0
TellsPeaks = TellsEntries
    (queue_a kinds.Queue None 1 (item 1 ∷ []) ∷ queue_a kinds.Queue None 1000000 [] ∷ queue_a kinds.PriorityQueue (Some 3) 3 (item 1 ∷ []) ∷ [])
    (queue_a kinds.Queue None 0 (item 1 ∷ []) ∷ queue_a kinds.Queue None 1000001 [] ∷ queue_a kinds.PriorityQueue (Some 3) 4 (item 1 ∷ [])
    ∷ plain_a (one_of false kinds.Queue Integer) [] ∷ plain.Object (codes "a") (one_of false kinds.List Integer) None None (Some 0) [] ∷ [])

-- a depth stands in trees alone, a key in maps alone, and each value is of the type that is named for it

abbrev list_with : PlainRow → Plain
list_with r = plain_a (one_of false kinds.List Integer) (r ∷ [])

abbrev map_with : PlainRow → Plain
map_with r = plain_a (two_of false kinds.OrderedMap Integer Str) (r ∷ [])

abbrev pub TellsRows : Type 0
TellsRows = TellsEntries
    (list_with (item 1) ∷ map_with (keyed_row (number 1) (text [])) ∷ [])
    (list_with (node_row 2 (number 1)) ∷ list_with (keyed_row (number 1) (number 1)) ∷ list_with (text_item [])
    ∷ list_with (item (2 ^ 63)) ∷ map_with (text_item []) ∷ map_with (keyed_row (text []) (text [])) ∷ map_with (keyed_row (number 1) (number 1))
    ∷ map_with (keyed_row (number 1) (text (127 ∷ []))) ∷ [])

-- no more rows than the limit
abbrev pub TellsLengths : Type 0
TellsLengths = TellsEntries
    (bounded_a (one_of true kinds.List Integer) 2 (item 1 ∷ item 1 ∷ []) ∷ [])
    (bounded_a (one_of true kinds.List Integer) 1 (item 1 ∷ item 1 ∷ []) ∷ [])

-- a holder has one value, whose size is within its limit: an integer's is 8, a string's its length

abbrev bounded_holder : ElemKind → (limit : ℕ) → PlainRow → Plain
bounded_holder first limit r = bounded_a (one_of true kinds.Holder first) limit (r ∷ [])

abbrev pub TellsHolders : Type 0
TellsHolders = TellsEntries
    (bounded_holder Integer 8 (item 1) ∷ bounded_holder Str 4 (text_item (codes "abcd")) ∷ bounded_holder Str 0 (text_item [])
    ∷ plain_a (one_of false kinds.Holder Str) (text_item (codes "abcd") ∷ []) ∷ bounded_a (one_of true kinds.Holder Integer) 0 [] ∷ [])
    (bounded_holder Integer 7 (item 1) ∷ bounded_holder Str 4 (text_item (codes "abcde")) ∷ plain_a (one_of false kinds.Holder Integer) (item 1 ∷ item 2 ∷ []) ∷ [])

-- no two keys are equivalent: of a keyed set those before `=`

abbrev hashed_map : List PlainRow → Plain
hashed_map rows = growing_a (two_of false kinds.HashedMap Integer Integer) 8 rows

abbrev hashed_set : List PlainRow → Plain
hashed_set rows = growing_a (one_of false kinds.HashedSet Str) 8 rows

abbrev keyed_set : List PlainRow → Plain
keyed_set rows = growing_a (keyed_of false kinds.HashedSet) 8 rows

abbrev texts : (first second : List ℕ) → List PlainRow
texts first second = text_item first ∷ text_item second ∷ []

abbrev pub TellsKeys : Type 0
TellsKeys = TellsEntries
    (hashed_map (keyed_row (number 2) (number 1) ∷ keyed_row (number 1) (number 1) ∷ [])
    ∷ hashed_set (texts (codes "b=1") (codes "b=2")) ∷ keyed_set (texts (codes "b=1") (codes "a=1")) ∷ [])
    (hashed_map (keyed_row (number 2) (number 1) ∷ keyed_row (number 1) (number 1) ∷ keyed_row (number 2) (number 3) ∷ [])
    ∷ hashed_set (texts (codes "b") (codes "b")) ∷ keyed_set (texts (codes "b=1") (codes "b=2")) ∷ keyed_set (texts (codes "b") (codes "b=")) ∷ [])

-- ordered rows ascend

abbrev ordered_map : List PlainRow → Plain
ordered_map rows = plain_a (two_of false kinds.OrderedMap Integer Integer) rows

abbrev ordered_set : List PlainRow → Plain
ordered_set rows = plain_a (one_of false kinds.OrderedSet Str) rows

abbrev ordered_keyed_set : List PlainRow → Plain
ordered_keyed_set rows = plain_a (keyed_of false kinds.OrderedSet) rows

abbrev pub TellsOrders : Type 0
TellsOrders = TellsEntries
    (ordered_map (keyed_row (minus 1) (number 2) ∷ keyed_row (number 1) (number 1) ∷ []) ∷ ordered_set (texts (codes "a") (codes "aa"))
    ∷ ordered_keyed_set (texts (codes "a=2") (codes "b=1")) ∷ [])
    (ordered_map (keyed_row (number 1) (number 1) ∷ keyed_row (minus 1) (number 2) ∷ []) ∷ ordered_map (keyed_row (number 1) (number 1) ∷ keyed_row (number 1) (number 2) ∷ [])
    ∷ ordered_set (texts (codes "b") (codes "a")) ∷ ordered_keyed_set (texts (codes "a=1") (codes "a=2")) ∷ [])

-- a tree's depths begin at 2, and none is more than one deeper than the one before it

abbrev tree : List ℕ → Plain
tree depths = plain_a (one_of false kinds.Tree Integer) (map (λ depth. node_row depth (number 1)) depths)

abbrev pub TellsOutlines : Type 0
TellsOutlines = TellsEntries
    (plain_a (one_of false kinds.Tree Integer) tree_rows ∷ tree (2 ∷ 2 ∷ 3 ∷ 4 ∷ 3 ∷ []) ∷ [])
    (tree (3 ∷ []) ∷ tree (1 ∷ []) ∷ tree (0 ∷ []) ∷ tree (2 ∷ 4 ∷ []) ∷ tree (2 ∷ 1 ∷ []) ∷ [])

-- no item of a priority queue is of a higher priority than the one before it
abbrev pub TellsPriorities : Type 0
TellsPriorities = TellsEntries
    (queue_a kinds.PriorityQueue None 3 (item 210 ∷ item 299 ∷ item 150 ∷ []) ∷ queue_a kinds.Queue None 2 (item 100 ∷ item 200 ∷ []) ∷ [])
    (queue_a kinds.PriorityQueue None 2 (item 199 ∷ item 200 ∷ []) ∷ [])

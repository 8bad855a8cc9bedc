-- Worked rows: what small scripts leave of each kind of object, as plain values.
use Rattle.std.specs.Prelude.{◌≡◌, ℕ, pos, codes, true, false, List, [], ◌∷◌, map, Option, Some, None}
use Rattle.ac_base.specs.declared.value.Value.{Value}
use Rattle.ac_base.specs.declared.value.Value.TheVariants as value
use Rattle.ac_syntax.specs.Code.{Code, stop, one}
use Rattle.ac_syntax.specs.declared.arg.Arg.{Arg}
use Rattle.ac_syntax.specs.declared.arg.Arg.TheVariants.{Var}
use Rattle.ac_syntax.specs.declared.decl.Decl.{Decl}
use Rattle.ac_syntax.specs.declared.decl.Decl.TheVariants as decl
use Rattle.ac_syntax.specs.declared.kind.ElemKind.TheVariants.{Integer, Str}
use Rattle.ac_syntax.specs.declared.kind.Kind.TheVariants as kinds
use Rattle.ac_syntax.specs.declared.type_def.TypeDef.{TypeDef}
use Rattle.ac_rules.specs.Faults.{decl_name}
use Rattle.ac_calls.specs.PlainRows.{value_row, keyed_row, node_row}
use Rattle.ac_calls.specs.declared.plains.Plain.{Plain}
use Rattle.ac_calls.specs.declared.plains.Plain.TheVariants as plain
use Rattle.ac_calls.specs.declared.plains.PlainRow.{PlainRow}
use Rattle.ac_meaning.specs.Examples.{number, string, called, gets, script}
use Rattle.ac_meaning.specs.Execution.{no_orders, run_with}
use Rattle.ac_meaning.specs.Plains.{a_def, plains_of}

abbrev pub int : ℕ → Value
int n = value.Int (pos n)

abbrev pub str : List ℕ → Value
str bytes = value.Text bytes

-- what the script leaves
abbrev pub leaves : List Decl → Code → List Plain
leaves decls stmts = plains_of (map decl_name decls) (run_with no_orders (script decls stmts)).after

-- of one object of this type, called `a`
abbrev pub leaves_one : TypeDef → (capacity : Option ℕ) → Code → List Plain
leaves_one def capacity stmts = leaves (decl.TypeDecl 1 (codes "t") def ∷ decl.Object 2 (codes "a") (codes "t") capacity ∷ []) stmts

abbrev pub an_object : TypeDef → (limit capacity peak : Option ℕ) → List PlainRow → List Plain
an_object def limit capacity peak rows = plain.Object (codes "a") def limit capacity peak rows ∷ []

abbrev pub calls : ℕ → List ℕ → List Arg → Code → Code
calls line word args more = one (called line (codes "a") word args) more

-- an unbounded vector has its Capacity, and a bounded one its limit alone
abbrev pub VectorsArePlain : Type 0
VectorsArePlain =
    (leaves_one (a_def false kinds.Vector Integer None false) None (calls 3 (codes "append") (number 5 ∷ number 2 ∷ []) stop)
    ≡ an_object (a_def false kinds.Vector Integer None false) None (Some 8) None (value_row (int 5) ∷ value_row (int 5) ∷ []))
    × (leaves_one (a_def true kinds.Vector Integer None false) (Some 3) (calls 3 (codes "append") (number 5 ∷ []) stop)
    ≡ an_object (a_def true kinds.Vector Integer None false) (Some 3) None None (value_row (int 5) ∷ []))

abbrev pub ListsArePlain : Type 0
ListsArePlain =
    leaves_one (a_def false kinds.List Str None false) None (calls 3 (codes "append") (string (codes "b") ∷ []) stop)
    ≡ an_object (a_def false kinds.List Str None false) None None None (value_row (str (codes "b")) ∷ [])

-- a map's rows have their keys
abbrev pub MapsArePlain : Type 0
MapsArePlain =
    (leaves_one (a_def false kinds.HashedMap Str (Some Integer) false) None
    (calls 3 (codes "insert") (string (codes "tea") ∷ number 14 ∷ []) (calls 4 (codes "insert") (string (codes "milk") ∷ number 22 ∷ []) stop))
    ≡ an_object (a_def false kinds.HashedMap Str (Some Integer) false) None (Some 8) None
    (keyed_row (str (codes "tea")) (int 14) ∷ keyed_row (str (codes "milk")) (int 22) ∷ []))
    × (leaves_one (a_def false kinds.OrderedMap Integer (Some Str) false) None
    (calls 3 (codes "insert") (number 2 ∷ string (codes "b") ∷ []) (calls 4 (codes "insert") (number 1 ∷ string (codes "a") ∷ []) stop))
    ≡ an_object (a_def false kinds.OrderedMap Integer (Some Str) false) None None None
    (keyed_row (int 1) (str (codes "a")) ∷ keyed_row (int 2) (str (codes "b")) ∷ []))

abbrev pub SetsArePlain : Type 0
SetsArePlain =
    (leaves_one (a_def true kinds.HashedSet Integer None false) (Some 4) (calls 3 (codes "insert") (number 7 ∷ []) stop)
    ≡ an_object (a_def true kinds.HashedSet Integer None false) (Some 4) None None (value_row (int 7) ∷ []))
    × (leaves_one (a_def false kinds.OrderedSet Str None true) None
    (calls 3 (codes "insert") (string (codes "b=1") ∷ []) (calls 4 (codes "insert") (string (codes "a=2") ∷ []) stop))
    ≡ an_object (a_def false kinds.OrderedSet Str None true) None None None (value_row (str (codes "a=2")) ∷ value_row (str (codes "b=1")) ∷ []))

-- a tree's have their depths, which count the root
abbrev pub TreesArePlain : Type 0
TreesArePlain =
    leaves (decl.TypeDecl 1 (codes "t") (a_def false kinds.Tree Integer None false) ∷ decl.Object 2 (codes "a") (codes "t") None ∷ decl.CursorVar 3 (codes "c") (codes "t") ∷ [])
    (one (gets 4 (codes "c") (codes "a") (codes "root") [])
    (calls 5 (codes "append_child") (Var (codes "c") ∷ number 1 ∷ [])
    (one (gets 6 (codes "c") (codes "a") (codes "first_child") (Var (codes "c") ∷ []))
    (calls 7 (codes "append_child") (Var (codes "c") ∷ number 2 ∷ []) stop))))
    ≡ an_object (a_def false kinds.Tree Integer None false) None None None (node_row 2 (int 1) ∷ node_row 3 (int 2) ∷ [])

-- a holder has no row or one, and its limit is in bytes
abbrev pub HoldersArePlain : Type 0
HoldersArePlain =
    (leaves_one (a_def true kinds.Holder Str None false) (Some 9) (calls 3 (codes "replace_element") (string (codes "ab") ∷ []) stop)
    ≡ an_object (a_def true kinds.Holder Str None false) (Some 9) None None (value_row (str (codes "ab")) ∷ []))
    × (leaves_one (a_def false kinds.Holder Integer None false) None stop ≡ an_object (a_def false kinds.Holder Integer None false) None None None [])

-- a queue has its greatest use
abbrev pub QueuesArePlain : Type 0
QueuesArePlain =
    (leaves_one (a_def false kinds.PriorityQueue Integer None false) None
    (calls 3 (codes "enqueue") (number 100 ∷ []) (calls 4 (codes "enqueue") (number 300 ∷ []) (calls 5 (codes "enqueue") (number 200 ∷ []) (calls 6 (codes "dequeue") [] stop))))
    ≡ an_object (a_def false kinds.PriorityQueue Integer None false) None None (Some 3) (value_row (int 200) ∷ value_row (int 100) ∷ []))
    × (leaves_one (a_def true kinds.Queue Integer None false) (Some 2) stop ≡ an_object (a_def true kinds.Queue Integer None false) (Some 2) None (Some 0) [])

-- a cursor variable is none
abbrev pub VariablesArePlain : Type 0
VariablesArePlain =
    leaves (decl.TypeDecl 1 (codes "t") (a_def false kinds.List Integer None false) ∷ decl.IntVar 2 (codes "n") ∷ decl.CursorVar 3 (codes "c") (codes "t") ∷ decl.TextVar 4 (codes "s") ∷ [])
    stop ≡ plain.Int (codes "n") (pos 0) ∷ plain.Str (codes "s") [] ∷ []

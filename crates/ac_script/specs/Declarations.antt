-- Readers of declarations.
use Rattle.std.specs.Prelude.{ℕ, codes, Bool, true, false, List, Option, Some, None, if◌then◌else◌}
use Rattle.std.specs.Str.{bytes_eq}
use Rattle.ac_syntax.specs.declared.decl.Decl.{Decl}
use Rattle.ac_syntax.specs.declared.decl.Decl.TheVariants.{TypeDecl, Object, CursorVar, IntVar, TextVar}
use Rattle.ac_syntax.specs.declared.kind.Kind.{Kind}
use Rattle.ac_syntax.specs.declared.kind.Kind.TheVariants as kinds
use Rattle.ac_syntax.specs.declared.kind.ElemKind.{ElemKind}
use Rattle.ac_syntax.specs.declared.kind.ElemKind.TheVariants.{Integer, Str}
use Rattle.ac_syntax.specs.declared.type_def.TypeDef.{TypeDef}
use Rattle.ac_syntax.specs.declared.token.Mark.TheVariants.{Semicolon, Comma, Open, Close, Dot}
use Rattle.ac_script.specs.Outcomes.{Reader, ◌>>=◌, gives, fork, one}
use Rattle.ac_script.specs.Readers.{as_word_of, word, mark, name, number}

abbrev pub elem_of : List ℕ → Option ElemKind
elem_of found = if bytes_eq found (codes "integer") then Some Integer else if bytes_eq found (codes "string") then Some Str else None

abbrev pub elem : Reader ElemKind
elem = one (as_word_of elem_of)

unfoldable pub other_kind : List ℕ → Option Kind
other_kind found =
    if bytes_eq found (codes "ordered_set") then Some kinds.OrderedSet
    else if bytes_eq found (codes "tree") then Some kinds.Tree
    else if bytes_eq found (codes "holder") then Some kinds.Holder
    else if bytes_eq found (codes "queue") then Some kinds.Queue
    else if bytes_eq found (codes "priority_queue") then Some kinds.PriorityQueue
    else None

unfoldable pub kind_of : List ℕ → Option Kind
kind_of found =
    if bytes_eq found (codes "vector") then Some kinds.Vector
    else if bytes_eq found (codes "list") then Some kinds.List
    else if bytes_eq found (codes "hashed_map") then Some kinds.HashedMap
    else if bytes_eq found (codes "ordered_map") then Some kinds.OrderedMap
    else if bytes_eq found (codes "hashed_set") then Some kinds.HashedSet
    else other_kind found

abbrev pub kind : Reader Kind
kind = one (as_word_of kind_of)

-- `bounded` where there is that word, and a kind
unfoldable pub bounded_kind : Reader (Bool × Kind)
bounded_kind =
    fork (word (codes "bounded"))
    (λ _. kind >>= λ k. gives (true, k))
    (kind >>= λ k. gives (false, k))

-- `, integer` where there is a second element, and `)`
unfoldable pub second_elem : Reader (Option ElemKind)
second_elem =
    fork (mark Comma)
    (λ _. elem >>= λ e. mark Close >>= λ _. gives (Some e))
    (mark Close >>= λ _. gives None)

-- `keyed` where there is that word, and `;`
unfoldable pub keyed_end : Reader Bool
keyed_end =
    fork (word (codes "keyed"))
    (λ _. mark Semicolon >>= λ _. gives true)
    (mark Semicolon >>= λ _. gives false)

-- `bounded list (integer) keyed;`
unfoldable pub type_def : Reader TypeDef
type_def = do
  b ← bounded_kind
  _ ← mark Open
  first ← elem
  second ← second_elem
  keyed ← keyed_end
  gives (record { bounded = b.0; kind = b.1; first = first; second = second; keyed = keyed })

-- what stands behind `type`
unfoldable pub type_declaration : ℕ → Reader Decl
type_declaration line = do
  n ← name
  _ ← word (codes "is")
  def ← type_def
  gives (TypeDecl line n def)

-- `(8)` where there is a capacity, and `;`
unfoldable pub capacity_end : Reader (Option ℕ)
capacity_end =
    fork (mark Open)
    (λ _. number >>= λ n. mark Close >>= λ _. mark Semicolon >>= λ _. gives (Some n))
    (mark Semicolon >>= λ _. gives None)

unfoldable pub integer_end : ℕ → List ℕ → Reader Decl
integer_end line n = mark Semicolon >>= λ _. gives (IntVar line n)

unfoldable pub text_end : ℕ → List ℕ → Reader Decl
text_end line n = mark Semicolon >>= λ _. gives (TextVar line n)

unfoldable pub cursor_end : ℕ → List ℕ → List ℕ → Reader Decl
cursor_end line n of = do
  _ ← word (codes "cursor")
  _ ← mark Semicolon
  gives (CursorVar line n of)

unfoldable pub object_end : ℕ → List ℕ → List ℕ → Reader Decl
object_end line n of = do
  capacity ← capacity_end
  gives (Object line n of capacity)

-- what stands behind the name of a type
unfoldable pub typed_end : ℕ → List ℕ → List ℕ → Reader Decl
typed_end line n of = fork (mark Dot) (λ _. cursor_end line n of) (object_end line n of)

-- a declaration of a cursor or an object
unfoldable pub typed : ℕ → List ℕ → Reader Decl
typed line n = name >>= λ of. typed_end line n of

unfoldable pub text_or_typed : ℕ → List ℕ → Reader Decl
text_or_typed line n = fork (word (codes "string")) (λ _. text_end line n) (typed line n)

-- what stands behind a name and `:`
unfoldable pub declared : ℕ → List ℕ → Reader Decl
declared line n = fork (word (codes "integer")) (λ _. integer_end line n) (text_or_typed line n)

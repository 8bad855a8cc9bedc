-- A state as text: a line for each entry. A type is spelled and spaced as in the canonical text of a script, and rows are listed as Print lists them.
use Rattle.std.specs.Prelude.{ℕ, codes, decimal, List, [], ◌∷◌, ◌++◌, map, Option, Some, None}
use Rattle.std.specs.List.{flat_map}
use Rattle.ac_base.specs.declared.value.Value.{Value}
use Rattle.ac_base.specs.declared.value.Value.TheVariants as value
use Rattle.ac_model.specs.Rows.{Node, entry, node}
use Rattle.ac_syntax.specs.declared.kind.Kind.{Kind}
use Rattle.ac_syntax.specs.declared.kind.Kind.TheVariants as kinds
use Rattle.ac_syntax.specs.declared.type_def.TypeDef.{TypeDef}
use Rattle.ac_syntax.specs.Canonical.{literal_text, parts_text}
use Rattle.ac_syntax.specs.Parts.{type_parts}
use Rattle.ac_calls.specs.Listings as listing
use Rattle.ac_calls.specs.Listings.{bracketed, tree_listing}
use Rattle.ac_calls.specs.declared.plains.Plain.{Plain}
use Rattle.ac_calls.specs.declared.plains.Plain.TheVariants as plain
use Rattle.ac_calls.specs.declared.plains.PlainRow.{PlainRow}

-- a value, behind its key where it has one
abbrev pub item_text : (key : Option Value) → Value → List ℕ
item_text None v = literal_text v
item_text (Some key) v = listing.entry_text literal_text literal_text (entry key v)

abbrev pub row_text : PlainRow → List ℕ
row_text r = item_text r.key r.value

abbrev pub node_of : PlainRow → Node Value
node_of r = node r.depth r.value

abbrev pub rows_text : Kind → List PlainRow → List ℕ
rows_text kinds.Tree rows = tree_listing literal_text (map node_of rows)
rows_text _ rows = bracketed row_text rows

-- a type as its declaration tells it
abbrev pub type_text : TypeDef → List ℕ
type_text def = parts_text (type_parts def)

-- ` limit 3`, where there is a number
abbrev pub number_text : (word : List ℕ) → Option ℕ → List ℕ
number_text word None = []
number_text word (Some n) = 32 ∷ (word ++ 32 ∷ decimal n)

abbrev pub object_text : TypeDef → (limit capacity peak : Option ℕ) → List PlainRow → List ℕ
object_text def limit capacity peak rows =
    type_text def ++ (number_text (codes "limit") limit ++ (number_text (codes "capacity") capacity ++ (number_text (codes "peak") peak
    ++ 32 ∷ rows_text def.kind rows)))

-- a word for the sort of entry, the name, what it holds, and LF
abbrev pub line_text : (word name held : List ℕ) → List ℕ
line_text word name held = word ++ 32 ∷ (name ++ 32 ∷ (held ++ 10 ∷ []))

abbrev pub entry_text : Plain → List ℕ
entry_text (plain.Int name z) = line_text (codes "integer") name (literal_text (value.Int z))
entry_text (plain.Str name bytes) = line_text (codes "string") name (literal_text (value.Text bytes))
entry_text (plain.Object name def limit capacity peak rows) =
    line_text (codes "object") name (object_text def limit capacity peak rows)

abbrev pub state_text : List Plain → List ℕ
state_text s = flat_map entry_text s

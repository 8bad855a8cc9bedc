-- Readers of types, of what stands behind one, and of entries.
use Rattle.std.specs.Prelude.{ℕ, ℤ, codes, Bool, true, false, List, [], ◌∷◌, take, drop, Option, Some, None, if◌then◌else◌}
use Rattle.std.specs.List.{prefix_len}
use Rattle.std.specs.Str.{bytes_eq}
use Rattle.ac_syntax.specs.declared.kind.ElemKind.{ElemKind}
use Rattle.ac_syntax.specs.declared.kind.ElemKind.TheVariants.{Integer, Str}
use Rattle.ac_syntax.specs.declared.kind.Kind.{Kind}
use Rattle.ac_syntax.specs.declared.kind.Kind.TheVariants as kinds
use Rattle.ac_syntax.specs.declared.type_def.TypeDef.{TypeDef}
use Rattle.ac_syntax.specs.Characters.{is_word_byte}
use Rattle.ac_syntax.specs.Parts.{kind_word, elem_word}
use Rattle.ac_calls.specs.declared.plains.Plain.{Plain}
use Rattle.ac_calls.specs.declared.plains.Plain.TheVariants as plain
use Rattle.ac_calls.specs.declared.plains.PlainRow.{PlainRow}
use Rattle.ac_snapshot.specs.declared.entry_reader.Head.{Head}
use Rattle.ac_snapshot.specs.Outcomes.{Outcome, got, stuck, Reader, gives, ◌>>=◌, fork, seen}
use Rattle.ac_snapshot.specs.ValueReaders.{after, word, number, integer, quoted_bytes}
use Rattle.ac_snapshot.specs.RowReaders.{listed}

-- the first of some that has this text
abbrev pub picked : {A : Type 0} → (A → List ℕ) → List A → List ℕ → Option A
picked text [] wanted = None
picked text (a ∷ others) wanted = if bytes_eq wanted (text a) then Some a else picked text others wanted

abbrev pub later_kinds : List Kind
later_kinds = kinds.OrderedSet ∷ kinds.Tree ∷ kinds.Holder ∷ kinds.Queue ∷ kinds.PriorityQueue ∷ []

abbrev pub all_kinds : List Kind
all_kinds = kinds.Vector ∷ kinds.List ∷ kinds.HashedMap ∷ kinds.OrderedMap ∷ kinds.HashedSet ∷ later_kinds

abbrev pub kind_of : List ℕ → Option Kind
kind_of wanted = picked kind_word all_kinds wanted

abbrev pub elem_of : List ℕ → Option ElemKind
elem_of wanted = picked elem_word (Integer ∷ Str ∷ []) wanted

abbrev pub kind : Reader Kind
kind = word >>= λ own. seen (kind_of own)

abbrev pub elem : Reader ElemKind
elem = word >>= λ own. seen (elem_of own)

-- whether these bytes stand here
abbrev pub flag : List ℕ → Reader Bool
flag wanted = fork (after wanted) (λ _. gives true) (gives false)

abbrev pub second_elem : Reader (Option ElemKind)
second_elem = fork (after (codes ", ")) (λ _. elem >>= λ e. gives (Some e)) (gives None)

unfoldable pub type_def : Reader TypeDef
type_def =
    flag (codes "bounded ") >>= λ bounded. kind >>= λ own. after (codes " (") >>= λ _. elem >>= λ first. second_elem >>= λ second.
    after (codes ")") >>= λ _. flag (codes " keyed") >>= λ keyed.
    gives (record { bounded = bounded; kind = own; first = first; second = second; keyed = keyed })

-- a number behind these bytes, where they stand here
abbrev pub number_behind : List ℕ → Reader (Option ℕ)
number_behind wanted = fork (after wanted) (λ _. number >>= λ n. gives (Some n)) (gives None)

unfoldable pub head : Reader Head
head =
    type_def >>= λ def. number_behind (codes " limit ") >>= λ limit. number_behind (codes " capacity ") >>= λ capacity.
    number_behind (codes " peak ") >>= λ peak. gives (record { def = def; limit = limit; capacity = capacity; peak = peak })

-- a name and the space behind it
abbrev pub name : Reader (List ℕ)
name = word >>= λ own. after (codes " ") >>= λ _. gives own

-- the word behind the first space of a line

abbrev pub named_by : Outcome (Unit {0}) → List ℕ
named_by (got _ rest) = take (prefix_len is_word_byte rest) rest
named_by stuck = []

abbrev pub name_in : List ℕ → List ℕ
name_in line = named_by (after (codes " ") (drop (prefix_len is_word_byte line) line))

-- what an entry's line has behind its first word

abbrev pub integer_line : Reader ℤ
integer_line = integer >>= λ z. after (10 ∷ []) >>= λ _. gives z

abbrev pub integer_entry : Reader Plain
integer_entry = name >>= λ own. integer_line >>= λ z. gives (plain.Int own z)

abbrev pub string_entry : Reader Plain
string_entry = name >>= λ own. quoted_bytes >>= λ bytes. after (10 ∷ []) >>= λ _. gives (plain.Str own bytes)

abbrev pub object_head : Reader Head
object_head = head >>= λ h. after (codes " ") >>= λ _. gives h

abbrev pub object_of : List ℕ → Head → List PlainRow → Plain
object_of own h rows = plain.Object own h.def h.limit h.capacity h.peak rows

abbrev pub object_entry : Reader Plain
object_entry = name >>= λ own. object_head >>= λ h. listed h.def >>= λ rows. after (10 ∷ []) >>= λ _. gives (object_of own h rows)

unfoldable pub entry : Reader Plain
entry =
    fork (after (codes "integer ")) (λ _. integer_entry)
    (fork (after (codes "string ")) (λ _. string_entry) (after (codes "object ") >>= λ _. object_entry))

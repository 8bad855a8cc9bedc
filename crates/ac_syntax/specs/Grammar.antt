-- Which token lists derive which script.
use Rattle.std.specs.Prelude.{◌≡◌, ℕ, ℤ, pos, neg_ℤ, ◌⊎◌, codes, Bool, false, List, [], ◌∷◌, ◌++◌, Option, Some, None}
use Rattle.std.specs.List.{list_any}
use Rattle.std.specs.Str.{bytes_eq}
use Rattle.ac_base.specs.declared.value.Value.TheVariants as value
use Rattle.ac_syntax.specs.declared.token.Token.{Token}
use Rattle.ac_syntax.specs.declared.token.Token.TheVariants as token
use Rattle.ac_syntax.specs.declared.token.Mark.TheVariants.{Minus}
use Rattle.ac_syntax.specs.declared.token.Placed.{Placed}
use Rattle.ac_syntax.specs.declared.script.Script.{Script}
use Rattle.ac_syntax.specs.Tokens.{tokens}
use Rattle.ac_syntax.specs.Items.{Item, item_line, script_items}
use Rattle.ac_syntax.specs.Order.{AreInOrder}
use Rattle.ac_syntax.specs.Parts.{Part, says, keywords, marks, names, counts, writes, lacks, item_parts}

-- the words that name nothing, whatever the script
unfoldable pub reserved : List (List ℕ)
reserved =
    codes "type" ∷ codes "is" ∷ codes "bounded" ∷ codes "keyed" ∷ codes "cursor" ∷ codes "integer" ∷ codes "string"
    ∷ codes "vector" ∷ codes "list" ∷ codes "hashed_map" ∷ codes "ordered_map" ∷ codes "hashed_set" ∷ codes "ordered_set"
    ∷ codes "tree" ∷ codes "holder" ∷ codes "queue" ∷ codes "priority_queue" ∷ codes "for" ∷ codes "in" ∷ codes "of"
    ∷ codes "reverse" ∷ codes "loop" ∷ codes "end" ∷ codes "query" ∷ codes "update" ∷ codes "reference" ∷ codes "update_key"
    ∷ codes "at" ∷ codes "as" ∷ codes "do" ∷ codes "stable" ∷ codes "declare" ∷ codes "begin" ∷ codes "tasks" ∷ codes "task"
    ∷ codes "no_element" ∷ []

unfoldable pub is_reserved : List ℕ → Bool
unfolding reserved
is_reserved word = list_any (bytes_eq word) reserved

-- an integer, with a minus where it is negative; 0 may have one too
abbrev pub IsInteger : ℤ → List Token → Type 0
IsInteger z spelled =
    ((n : ℕ) × (z ≡ pos n) × (spelled ≡ token.Number n ∷ []))
    ⊎ ((n : ℕ) × (z ≡ neg_ℤ (pos n)) × (spelled ≡ token.Mark Minus ∷ token.Number n ∷ []))

abbrev pub IsPart : Part → List Token → Type 0
IsPart (says word) spelled = spelled ≡ token.Word word ∷ []
IsPart (keywords own) spelled = spelled ≡ token.Keyword own ∷ []
IsPart (marks mark) spelled = spelled ≡ token.Mark mark ∷ []
IsPart (names word) spelled = (is_reserved word ≡ false) × (spelled ≡ token.Word word ∷ [])
IsPart (counts n) spelled = spelled ≡ token.Number n ∷ []
IsPart (writes (value.Int z)) spelled = IsInteger z spelled
IsPart (writes (value.Text bytes)) spelled = spelled ≡ token.Text bytes ∷ []
IsPart lacks spelled = ⊥

-- these tokens are these parts, one after another
abbrev pub AreParts : List Part → List Token → Type 0
AreParts [] spelled = spelled ≡ []
AreParts (part ∷ parts) spelled =
    (front : List Token) × (rest : List Token) × (spelled ≡ front ++ rest) × IsPart part front × AreParts parts rest

-- the first token stands on this line, where there is one to be on
abbrev pub BeginsOn : Option ℕ → List Placed → Type 0
BeginsOn None placed = Unit {0}
BeginsOn (Some line) [] = ⊥
BeginsOn (Some line) (p ∷ _) = p.line ≡ line

-- these tokens are one item
pub record IsItem (item : Item) (placed : List Placed) : Type 0 where
  pub spelled : AreParts (item_parts item) (tokens placed)
  pub begins : BeginsOn (item_line item) placed

-- these tokens are these items, one after another
abbrev pub AreItems : List Item → List Placed → Type 0
AreItems [] placed = placed ≡ []
AreItems (item ∷ items) placed =
    (front : List Placed) × (rest : List Placed) × (placed ≡ front ++ rest) × IsItem item front × AreItems items rest

-- these tokens derive this script, lines and all: they are its items, and each of these may come where it stands
pub record Derives (placed : List Placed) (script : Script) : Type 0 where
  pub are : AreItems (script_items script) placed
  pub ordered : AreInOrder (script_items script)

-- some derivation begins with these tokens
abbrev pub BeginsScript : List Placed → Type 0
BeginsScript placed = (more : List Placed) × (script : Script) × Derives (placed ++ more) script

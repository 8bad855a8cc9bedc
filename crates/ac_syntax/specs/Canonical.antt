-- The canonical text of a script.
use Rattle.std.specs.Prelude.{ℕ, ◌-◌, ◌^◌, ◌≤◌, ◌==◌, ◌&&◌, ◌||◌, max, pos, negsuc, suc, nat_lt, codes, decimal, replicate, Bool, true, false, List, [], ◌∷◌, ◌++◌, map, flat_map, filter_map, unwrap_or, is_some, not, Option, Some, None, IsTrue, if◌then◌else◌}
use Rattle.std.specs.Char.{is_ascii_lowercase, to_ascii_lowercase}
use Rattle.std.specs.List.{list_all}
use Rattle.std.specs.Fmt.{signed_decimal}
use denote.Enum.Bare.{sameb}
use Rattle.ac_syntax.specs.contracts.token.Mark.{the_type}
use Rattle.ac_base.specs.declared.value.Value.{Value}
use Rattle.ac_base.specs.declared.value.Value.TheVariants as value
use Rattle.ac_syntax.specs.declared.token.Token.{Token}
use Rattle.ac_syntax.specs.declared.token.Token.TheVariants as token
use Rattle.ac_syntax.specs.declared.token.Mark.{Mark}
use Rattle.ac_syntax.specs.declared.token.Mark.TheVariants.{Colon, Semicolon, Comma, Open, Close, Dot, Assign, Plus, Minus, Arrow, BracketOpen, BracketClose, Tick, Star, Equal, NotEqual, Less, LessEqual, Greater, GreaterEqual}
use Rattle.ac_syntax.specs.declared.token.Placed.{Placed}
use Rattle.ac_syntax.specs.declared.script.Script.{Script}
use Rattle.ac_syntax.specs.Characters.{is_quote, is_printable, is_word_byte}
use Rattle.ac_syntax.specs.Tokens.{tokens}
use Rattle.ac_syntax.specs.Keywords.{keyword_text, keyword_of}
use Rattle.ac_syntax.specs.Items.{Item, item_line, script_items}
use Rattle.ac_syntax.specs.Parts.{Part, says, keywords, marks, names, counts, writes, lacks, item_parts}
use Rattle.ac_syntax.specs.Grammar.{Derives}
use Rattle.ac_syntax.specs.Limits.{AreWithinLimits}

abbrev pub mark_text : Mark → List ℕ
mark_text Colon = codes ":"
mark_text Semicolon = codes ";"
mark_text Comma = codes ","
mark_text Open = codes "("
mark_text Close = codes ")"
mark_text Dot = codes "."
mark_text Assign = codes ":="
mark_text Plus = codes "+"
mark_text Minus = codes "-"
mark_text Arrow = codes "=>"
mark_text BracketOpen = codes "["
mark_text BracketClose = codes "]"
mark_text Tick = codes "'"
mark_text Star = codes "*"
mark_text Equal = codes "="
mark_text NotEqual = codes "/="
mark_text Less = codes "<"
mark_text LessEqual = codes "<="
mark_text Greater = codes ">"
mark_text GreaterEqual = codes ">="

-- a quote is doubled
abbrev pub quoted_byte : ℕ → List ℕ
quoted_byte b = if is_quote b then 34 ∷ 34 ∷ [] else b ∷ []

-- a string in quotes
abbrev pub quoted : List ℕ → List ℕ
quoted bytes = 34 ∷ (flat_map quoted_byte bytes ++ 34 ∷ [])

-- a number without leading zeros, and its minus right before it
abbrev pub literal_text : Value → List ℕ
literal_text (value.Int z) = signed_decimal z
literal_text (value.Text bytes) = quoted bytes

abbrev pub part_text : Part → List ℕ
part_text (says word) = word
part_text (keywords own) = keyword_text own
part_text (marks mark) = mark_text mark
part_text (names word) = word
part_text (counts n) = decimal n
part_text (writes literal) = literal_text literal
part_text lacks = []

abbrev pub is_part_mark : Mark → Part → Bool
is_part_mark mark (says _) = false
is_part_mark mark (keywords _) = false
is_part_mark mark (marks found) = sameb the_type found mark
is_part_mark mark (names _) = false
is_part_mark mark (counts _) = false
is_part_mark mark (writes _) = false
is_part_mark mark lacks = false

-- no space stands before `; , ) . ]`
abbrev pub follows_closely : Part → Bool
follows_closely part = is_part_mark Semicolon part || is_part_mark Comma part || is_part_mark Close part || is_part_mark Dot part || is_part_mark BracketClose part

-- no space stands behind `( . [`
abbrev pub leads_closely : Part → Bool
leads_closely part = is_part_mark Open part || is_part_mark Dot part || is_part_mark BracketOpen part

abbrev pub space_between : Part → Part → List ℕ
space_between left right = if leads_closely left || follows_closely right then [] else 32 ∷ []

abbrev pub parts_text : List Part → List ℕ
parts_text [] = []
parts_text (part ∷ []) = part_text part
parts_text (part ∷ next ∷ parts) = part_text part ++ (space_between part next ++ parts_text (next ∷ parts))

-- what stands before an item: LFs up to its line, else a space, unless nothing was written on that line yet
abbrev pub gap : (line : ℕ) (is_empty : Bool) → Option ℕ → List ℕ
gap line is_empty None = if is_empty then [] else 32 ∷ []
gap line is_empty (Some own) = if nat_lt line own then replicate (own - line) 10 else (if is_empty then [] else 32 ∷ [])

-- the line that is reached with an item
abbrev pub line_reached : ℕ → Option ℕ → ℕ
line_reached line own = max line (unwrap_or own line)

-- the text of items from this line on, on which nothing was written yet where `is_empty`
abbrev pub items_text : (line : ℕ) (is_empty : Bool) → List Item → List ℕ
items_text line is_empty [] = []
items_text line is_empty (item ∷ items) =
    gap line is_empty (item_line item) ++ (parts_text (item_parts item) ++ items_text (line_reached line (item_line item)) false items)

-- a text that isn't empty ends with one LF
abbrev pub with_last_line_feed : List ℕ → List ℕ
with_last_line_feed [] = []
with_last_line_feed (b ∷ text) = b ∷ (text ++ 10 ∷ [])

unfoldable pub canonical_text : Script → List ℕ
unfolding item_parts
canonical_text script = with_last_line_feed (items_text 1 true (script_items script))

-- the tokens of the canonical text

abbrev pub literal_tokens : Value → List Token
literal_tokens (value.Int (pos n)) = token.Number n ∷ []
literal_tokens (value.Int (negsuc n)) = token.Mark Minus ∷ token.Number (suc n) ∷ []
literal_tokens (value.Text bytes) = token.Text bytes ∷ []

abbrev pub part_tokens : Part → List Token
part_tokens (says word) = token.Word word ∷ []
part_tokens (keywords own) = token.Keyword own ∷ []
part_tokens (marks mark) = token.Mark mark ∷ []
part_tokens (names word) = token.Word word ∷ []
part_tokens (counts n) = token.Number n ∷ []
part_tokens (writes literal) = literal_tokens literal
part_tokens lacks = []

abbrev pub on_line : ℕ → Token → Placed
on_line line token = record { token = token; line = line }

-- the tokens of items from this line on, each with its line
abbrev pub items_placed : ℕ → List Item → List Placed
items_placed line [] = []
items_placed line (item ∷ items) = map (on_line (line_reached line (item_line item))) (flat_map part_tokens (item_parts item)) ++ items_placed (line_reached line (item_line item)) items

unfoldable pub canonical_placed : Script → List Placed
canonical_placed script = items_placed 1 (script_items script)

abbrev pub canonical_tokens : Script → List Token
canonical_tokens script = tokens (canonical_placed script)

-- a letter first, and only letters in lower case, digits and `_`
abbrev pub is_lower_word : List ℕ → Bool
is_lower_word [] = false
is_lower_word (b ∷ rest) = is_ascii_lowercase b && list_all (λ c. is_word_byte c && to_ascii_lowercase c == c) rest

-- a text whose exceptions propagate, or one whose exceptions don't, can write this token
abbrev pub is_written : (propagating : Bool) → Token → Bool
is_written propagating (token.Word word) = is_lower_word word && not (propagating && is_some (keyword_of word))
is_written propagating (token.Keyword _) = propagating
is_written propagating (token.Number n) = nat_lt n (2 ^ 64)
is_written propagating (token.Text bytes) = list_all is_printable bytes
is_written propagating (token.Mark _) = true

-- the script begins with the pragma
abbrev pub propagates_in : Script → Bool
propagates_in script = is_some script.pragma

-- the lines never fall from this one on
abbrev pub RisesFrom : ℕ → List ℕ → Type 0
RisesFrom line [] = Unit {0}
RisesFrom line (next ∷ lines) = (line ≤ next) × RisesFrom next lines

-- a script that a text can spell
pub record IsWellFormed (script : Script) : Type 0 where
  pub derives : Derives (canonical_placed script) script
  pub within : AreWithinLimits (canonical_tokens script)
  pub written : IsTrue (list_all (is_written (propagates_in script)) (canonical_tokens script))
  pub lines : RisesFrom 1 (filter_map item_line (script_items script))

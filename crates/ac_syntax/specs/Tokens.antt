-- A text as tokens: the piece at its front, taken as long as possible, then the piece at the front of what follows, and so on. The standard's 2.2 is followed where it applies.
use Rattle.std.specs.Prelude.{ℕ, ◌==◌, ◌+◌, ◌-◌, ◌^◌, zero, suc, min, Bool, true, false, not, ◌&&◌, List, [], ◌∷◌, ◌++◌, map, take, Option, Some, None, if◌then◌else◌}
use Rattle.std.specs.Option.{option_map}
use Rattle.std.specs.List.{prefix_len}
use Rattle.std.specs.Char.{is_ascii_alphabetic, is_ascii_digit, to_ascii_lowercase}
use Rattle.std.specs.Str.Parse.{digits_value}
use Rattle.ac_syntax.specs.Characters.{is_word_byte, is_line_feed, is_blank, is_comment_byte, is_quote, is_printable}
use Rattle.ac_syntax.specs.declared.token.Token.{Token}
use Rattle.ac_syntax.specs.declared.token.Token.TheVariants.{Word, Number, Text}
use Rattle.ac_syntax.specs.declared.token.Token.TheVariants as token
use Rattle.ac_syntax.specs.declared.token.Mark.{Mark}
use Rattle.ac_syntax.specs.declared.token.Mark.TheVariants.{Colon, Semicolon, Comma, Open, Close, Dot, Assign, Plus, Minus, Arrow, BracketOpen, BracketClose, Tick, Star, Equal, NotEqual, Less, LessEqual, Greater, GreaterEqual}
use Rattle.ac_syntax.specs.declared.token.Placed.{Placed}
use Rattle.ac_syntax.specs.declared.piece.Piece.{Piece}

abbrev pub blank_of : ℕ → Option Piece
blank_of len = Some (record { len = len; token = None })

abbrev pub token_of : ℕ → Token → Option Piece
token_of len token = Some (record { len = len; token = Some token })

abbrev pub mark_of : ℕ → Mark → Option Piece
mark_of len mark = token_of len (token.Mark mark)

-- a letter, then letters, digits and `_`; case is ignored
abbrev pub word_piece : List ℕ → Option Piece
word_piece text = token_of (prefix_len is_word_byte text) (Word (map to_ascii_lowercase (take (prefix_len is_word_byte text) text)))

-- what a number is kept as: its value, or the greatest u64 where that is less
abbrev pub number_value : List ℕ → ℕ
number_value digits = min (digits_value 10 digits) (2 ^ 64 - 1)

-- digits, with no letter and no `_` right after them
abbrev pub number_piece : List ℕ → Option Piece
number_piece text =
    if prefix_len is_word_byte text == prefix_len is_ascii_digit text
    then token_of (prefix_len is_ascii_digit text) (Number (number_value (take (prefix_len is_ascii_digit text) text)))
    else None

-- the end of a string: what it stands for, and how many bytes it has
pub record Ending : Type 0 where
  pub value : List ℕ
  pub len : ℕ

-- a byte of the string before its end, which stands for these bytes
abbrev pub with_byte : List ℕ → Option Ending → Option Ending
with_byte bytes ending = option_map (λ e. record { value = bytes ++ e.value; len = 1 + e.len }) ending

-- a string's byte, and then its end; a quote counts with the byte after it, which is another quote or stands behind the string
abbrev pub string_step : (after_quote : Bool) → ℕ → Option Ending → Option Ending
string_step true b ending = if is_quote b then with_byte (b ∷ []) ending else Some (record { value = []; len = 0 })
string_step false b ending = if is_quote b then with_byte [] ending else (if is_printable b then with_byte (b ∷ []) ending else None)

-- what follows a string's first quote, up to its last one; `after_quote` where the byte before is a quote that may be the last
abbrev pub string_from : (after_quote : Bool) → List ℕ → Option Ending
string_from true [] = Some (record { value = []; len = 0 })
string_from false [] = None
string_from after_quote (b ∷ rest) = string_step after_quote b (string_from (not after_quote && is_quote b) rest)

-- a string, after its first quote; a doubled quote stands for one
abbrev pub string_piece : List ℕ → Option Piece
string_piece text = option_map (λ e. record { len = 1 + e.len; token = Some (Text e.value) }) (string_from false text)

-- `:=` or `:`, after the colon
abbrev pub colon_piece : List ℕ → Option Piece
colon_piece [] = mark_of 1 Colon
colon_piece (b ∷ _) = if b == 61 then mark_of 2 Assign else mark_of 1 Colon

-- a comment to the end of its line, or `-`, after the first `-`
abbrev pub minus_piece : List ℕ → Option Piece
minus_piece [] = mark_of 1 Minus
minus_piece (b ∷ rest) = if b == 45 then blank_of (2 + prefix_len is_comment_byte rest) else mark_of 1 Minus

-- a mark of two bytes where this byte follows, and of one byte where it doesn't
abbrev pub longer_piece : (next : ℕ) (longer shorter : Mark) → List ℕ → Option Piece
longer_piece next longer shorter [] = mark_of 1 shorter
longer_piece next longer shorter (b ∷ _) = if b == next then mark_of 2 longer else mark_of 1 shorter

-- `/=`, after `/`, which is no mark alone
abbrev pub slash_piece : List ℕ → Option Piece
slash_piece [] = None
slash_piece (b ∷ _) = if b == 61 then mark_of 2 NotEqual else None

-- any other mark
abbrev pub mark_piece : ℕ → Option Piece
mark_piece b =
    if b == 59 then mark_of 1 Semicolon
    else if b == 44 then mark_of 1 Comma
    else if b == 40 then mark_of 1 Open
    else if b == 41 then mark_of 1 Close
    else if b == 46 then mark_of 1 Dot
    else if b == 43 then mark_of 1 Plus
    else if b == 91 then mark_of 1 BracketOpen
    else if b == 93 then mark_of 1 BracketClose
    else if b == 39 then mark_of 1 Tick
    else if b == 42 then mark_of 1 Star
    else None

-- the piece at the front of a byte and the rest; None where it is malformed
abbrev pub piece_at : ℕ → List ℕ → Option Piece
piece_at b rest =
    if is_ascii_alphabetic b then word_piece (b ∷ rest)
    else if is_ascii_digit b then number_piece (b ∷ rest)
    else if is_blank b rest then blank_of 1
    else if is_quote b then string_piece rest
    else if b == 58 then colon_piece rest
    else if b == 45 then minus_piece rest
    else if b == 61 then longer_piece 62 Arrow Equal rest
    else if b == 60 then longer_piece 61 LessEqual Less rest
    else if b == 62 then longer_piece 61 GreaterEqual Greater rest
    else if b == 47 then slash_piece rest
    else mark_piece b

abbrev pub front_piece : List ℕ → Option Piece
front_piece [] = None
front_piece (b ∷ rest) = piece_at b rest

-- lines end with LF
abbrev pub line_after : ℕ → ℕ → ℕ
line_after line b = if is_line_feed b then line + 1 else line

-- a piece's token with its line, if the piece is a token
abbrev pub placed_at : ℕ → Option Token → List Placed
placed_at line None = []
placed_at line (Some token) = (record { token = token; line = line }) ∷ []

-- the tokens up to the first malformed piece, and the line of that piece, if there is one
pub record Cut : Type 0 where
  pub placed : List Placed
  pub malformed : Option ℕ

abbrev pub whole : Cut
whole = record { placed = []; malformed = None }

-- the tokens of a piece on this line, and then those of the rest, which is given the bytes of the piece still to be passed over
abbrev pub with_piece : Option Piece → ℕ → (ℕ → Cut) → Cut
with_piece None line rest = record { placed = []; malformed = Some line }
with_piece (Some piece) line rest = with_tokens (placed_at line piece.token) (rest (piece.len - 1)) where
  with_tokens : List Placed → Cut → Cut
  with_tokens front cut = record { placed = front ++ cut.placed; malformed = cut.malformed }

-- a text cut into tokens, on whose first byte the line is `line`, where `skip` bytes are still of the piece before
abbrev pub cut_from : ℕ → ℕ → List ℕ → Cut
cut_from skip line [] = whole
cut_from (suc skip) line (b ∷ rest) = cut_from skip (line_after line b) rest
cut_from zero line (b ∷ rest) = with_piece (piece_at b rest) line (λ skip. cut_from skip (line_after line b) rest)

-- a whole text cut into tokens, each with its line, from 1
abbrev pub cut_of : List ℕ → Cut
cut_of text = cut_from 0 1 text

abbrev pub tokens : List Placed → List Token
tokens placed = map (λ p. p.token) placed

-- The tokens of a cut can be written, and their lines never fall.
use Rattle.std.proofs.Common.{◌≡◌, ◌+◌, ◌-◌, ◌^◌, ◌≤◌, ◌==◌, ◌&&◌, ℕ, zero, suc, min, Bool, true, false, cond, List, [], ◌∷◌, ◌++◌, map, take, not, refl, sym, ap, subst, ◌∙◌, Option, Some, None, arith, nat_lt, option_map, eq-eqb, eqb-true}
use Rattle.std.proofs.Math.Bool.{true≢false}
use Rattle.std.proofs.Math.Numerals.{one-add}
use Rattle.std.specs.Prelude.{is_some}
use Rattle.std.proofs.lemmas.Bool.{and_from, and_parts, cond-true}
use Rattle.std.proofs.lemmas.Bool.Decides.{nat_tests}
use Rattle.std.proofs.lemmas.List.Folds.{list_all-append}
use Rattle.std.proofs.lemmas.Str.Ascii.{lowercase-lowercase}
use Rattle.std.specs.List.{prefix_len, list_all}
use Rattle.std.specs.Char.{is_ascii_alphabetic, is_ascii_digit, is_ascii_lowercase, to_ascii_lowercase}
use Rattle.std.specs.Str.Parse.{digits_value}
use Rattle.ac_syntax.specs.declared.token.Keyword.{Keyword}
use Rattle.ac_syntax.specs.declared.token.Mark.{Mark}
use Rattle.ac_syntax.specs.declared.token.Token.{Token}
use Rattle.ac_syntax.specs.declared.token.Token.TheVariants as token
use Rattle.ac_syntax.specs.declared.token.Placed.{Placed}
use Rattle.ac_syntax.specs.declared.piece.Piece.{Piece}
use Rattle.ac_syntax.specs.Characters.{is_word_byte, is_blank, is_quote, is_printable}
use Rattle.ac_syntax.specs.Tokens.{Cut, Ending, tokens, cut_from, cut_of, piece_at, word_piece, number_piece, number_value, token_of, with_byte, string_from, colon_piece, minus_piece, longer_piece, slash_piece, mark_piece, line_after, placed_at, with_piece}
use Rattle.ac_syntax.specs.Keywords.{keyword_of, reserved_word, reserved_token, reserved_placed, begins_propagating, reserved_where, script_cut}
use Rattle.ac_syntax.specs.Canonical.{is_lower_word, is_written, RisesFrom}
use Rattle.ac_syntax.proofs.Fronts.{list_all_front}
use Rattle.ac_syntax.proofs.Pieces.{word_byte}
use Rattle.ac_syntax.proofs.Rising.{lines_of, rises_less}

abbrev can_write : Option Token → Bool
can_write None = true
can_write (Some t) = is_written false t

-- the piece is malformed or blank, or its token can be written
abbrev gives_written : Option Piece → Bool
gives_written None = true
gives_written (Some piece) = can_write piece.token

either : (test : Bool) (x y : Option Piece) → (test ≡ true → gives_written x ≡ true) → (test ≡ false → gives_written y ≡ true) → gives_written (cond test x y) ≡ true
either true x y p q = p refl
either false x y p q = q refl

-- words

lowered_first : (b : ℕ) → is_ascii_alphabetic b ≡ true → is_ascii_lowercase (to_ascii_lowercase b) ≡ true
lowered_first b h = grind (arith, nat_tests)

lowered_byte : (b : ℕ) → is_word_byte b ≡ true → is_word_byte (to_ascii_lowercase b) ≡ true
lowered_byte b h = grind (arith, nat_tests)

lowered_bytes : (bytes : List ℕ) → list_all is_word_byte bytes ≡ true → list_all (λ c. is_word_byte c && to_ascii_lowercase c == c) (map to_ascii_lowercase bytes) ≡ true
lowered_bytes [] h = refl
lowered_bytes (b ∷ bytes) h =
    let parts : (is_word_byte b ≡ true) × (list_all is_word_byte bytes ≡ true) = and_parts _ _ h in
    and_from _ _ (and_from _ _ (lowered_byte b parts.0) (eq-eqb _ _ (lowercase-lowercase b))) (lowered_bytes bytes parts.1)

word_written : (b : ℕ) (rest : List ℕ) → is_ascii_alphabetic b ≡ true → gives_written (word_piece (b ∷ rest)) ≡ true
word_written b rest letter =
    let len : prefix_len is_word_byte (b ∷ rest) ≡ suc (prefix_len is_word_byte rest) = cond-true (is_word_byte b) _ _ (word_byte b letter) ∙ one-add (prefix_len is_word_byte rest) in
    let lower : is_lower_word (map to_ascii_lowercase (take (prefix_len is_word_byte (b ∷ rest)) (b ∷ rest))) ≡ true =
    ap (λ n. is_lower_word (map to_ascii_lowercase (take n (b ∷ rest)))) len
    ∙ and_from _ _ (lowered_first b letter) (lowered_bytes (take (prefix_len is_word_byte rest) rest) (list_all_front is_word_byte rest)) in
    and_from _ _ lower refl

-- numbers

small_number : (v : ℕ) → nat_lt (min v (2 ^ 64 - 1)) (2 ^ 64) ≡ true
small_number v = grind (arith, nat_tests)

number_written : (text : List ℕ) → gives_written (number_piece text) ≡ true
number_written text =
    either (prefix_len is_word_byte text == prefix_len is_ascii_digit text)
    (token_of (prefix_len is_ascii_digit text) (token.Number (number_value (take (prefix_len is_ascii_digit text) text)))) None
    (λ _. small_number (digits_value 10 (take (prefix_len is_ascii_digit text) text))) (λ _. refl)

-- strings

abbrev ends_printable : Option Ending → Bool
ends_printable None = true
ends_printable (Some e) = list_all is_printable e.value

byte_printable : (bytes : List ℕ) (ending : Option Ending) → list_all is_printable bytes ≡ true → ends_printable ending ≡ true → ends_printable (with_byte bytes ending) ≡ true
byte_printable bytes None h k = refl
byte_printable bytes (Some e) h k = list_all-append is_printable bytes e.value ∙ and_from _ _ h k

either_end : (test : Bool) (x y : Option Ending) → (test ≡ true → ends_printable x ≡ true) → (test ≡ false → ends_printable y ≡ true) → ends_printable (cond test x y) ≡ true
either_end true x y p q = p refl
either_end false x y p q = q refl

quote_printable : (b : ℕ) → is_quote b ≡ true → list_all is_printable (b ∷ []) ≡ true
quote_printable b h = ap (λ c. list_all is_printable (c ∷ [])) (eqb-true b 34 h)

string_printable : (text : List ℕ) (after_quote : Bool) → ends_printable (string_from after_quote text) ≡ true
string_printable [] true = refl
string_printable [] false = refl
string_printable (b ∷ rest) true = either_end (is_quote b) _ _ (λ is. byte_printable (b ∷ []) (string_from false rest) (quote_printable b is) (string_printable rest false)) (λ _. refl)
string_printable (b ∷ rest) false =
    let ending = string_from (is_quote b) rest in
    let h : ends_printable ending ≡ true = string_printable rest (is_quote b) in
    either_end (is_quote b) _ _ (λ _. byte_printable [] ending refl h)
    (λ _. either_end (is_printable b) _ _ (λ plain. byte_printable (b ∷ []) ending (and_from _ _ plain refl) h) (λ _. refl))

string_written_by : (ending : Option Ending) → ends_printable ending ≡ true → gives_written (option_map (λ e. record { len = 1 + e.len; token = Some (token.Text e.value) }) ending) ≡ true
string_written_by None h = refl
string_written_by (Some e) h = h

-- marks

colon_written : (rest : List ℕ) → gives_written (colon_piece rest) ≡ true
colon_written [] = refl
colon_written (b ∷ rest) = either (b == 61) _ _ (λ _. refl) (λ _. refl)

minus_written : (rest : List ℕ) → gives_written (minus_piece rest) ≡ true
minus_written [] = refl
minus_written (b ∷ rest) = either (b == 45) _ _ (λ _. refl) (λ _. refl)

longer_written : (next : ℕ) (longer shorter : Mark) (rest : List ℕ) → gives_written (longer_piece next longer shorter rest) ≡ true
longer_written next longer shorter [] = refl
longer_written next longer shorter (b ∷ rest) = either (b == next) _ _ (λ _. refl) (λ _. refl)

slash_written : (rest : List ℕ) → gives_written (slash_piece rest) ≡ true
slash_written [] = refl
slash_written (b ∷ rest) = either (b == 61) _ _ (λ _. refl) (λ _. refl)

mark_written : (b : ℕ) → gives_written (mark_piece b) ≡ true
mark_written b =
    either (b == 59) _ _ (λ _. refl) (λ _. either (b == 44) _ _ (λ _. refl) (λ _. either (b == 40) _ _ (λ _. refl)
    (λ _. either (b == 41) _ _ (λ _. refl) (λ _. either (b == 46) _ _ (λ _. refl) (λ _. either (b == 43) _ _ (λ _. refl)
    (λ _. either (b == 91) _ _ (λ _. refl) (λ _. either (b == 93) _ _ (λ _. refl) (λ _. either (b == 39) _ _ (λ _. refl) (λ _. either (b == 42) _ _ (λ _. refl) (λ _. refl))))))))))

piece_written : (b : ℕ) (rest : List ℕ) → gives_written (piece_at b rest) ≡ true
piece_written b rest =
    either (is_ascii_alphabetic b) _ _ (word_written b rest)
    (λ _. either (is_ascii_digit b) _ _ (λ _. number_written (b ∷ rest))
    (λ _. either (is_blank b rest) _ _ (λ _. refl)
    (λ _. either (is_quote b) _ _ (λ _. string_written_by (string_from false rest) (string_printable rest false))
    (λ _. either (b == 58) _ _ (λ _. colon_written rest) (λ _. either (b == 45) _ _ (λ _. minus_written rest)
    (λ _. either (b == 61) _ _ (λ _. longer_written 62 _ _ rest) (λ _. either (b == 60) _ _ (λ _. longer_written 61 _ _ rest)
    (λ _. either (b == 62) _ _ (λ _. longer_written 61 _ _ rest) (λ _. either (b == 47) _ _ (λ _. slash_written rest) (λ _. mark_written b))))))))))

-- the cut

pub record IsTidy (propagating : Bool) (line : ℕ) (placed : List Placed) : Type 0 where
  pub written : list_all (is_written propagating) (tokens placed) ≡ true
  pub rising : RisesFrom line (lines_of placed)

token_tidy : (line later : ℕ) (t : Option Token) (placed : List Placed) → can_write t ≡ true → line ≤ later → IsTidy false later placed → IsTidy false line (placed_at line t ++ placed)
token_tidy line later None placed h le k = record { written = k.written; rising = rises_less line later (lines_of placed) le k.rising }
token_tidy line later (Some t) placed h le k = record { written = and_from _ _ h k.written; rising = (omega arith, rises_less line later (lines_of placed) le k.rising) }

piece_tidy : (line later : ℕ) (piece : Option Piece) (rest : ℕ → Cut) → gives_written piece ≡ true → line ≤ later
    → ((skip : ℕ) → IsTidy false later (rest skip).placed) → IsTidy false line (with_piece piece line rest).placed
piece_tidy line later None rest h le k = record { written = refl; rising = tt }
piece_tidy line later (Some piece) rest h le k = token_tidy line later piece.token (rest (piece.len - 1)).placed h le (k (piece.len - 1))

no_line_less : (line b : ℕ) → line ≤ line_after line b
no_line_less line b = grind arith

pub cut_tidy : (skip line : ℕ) (text : List ℕ) → IsTidy false line (cut_from skip line text).placed
cut_tidy skip line [] = record { written = refl; rising = tt }
cut_tidy (suc skip) line (b ∷ rest) =
    let others = cut_tidy skip (line_after line b) rest in
    record { written = others.written; rising = rises_less line (line_after line b) _ (no_line_less line b) others.rising }
cut_tidy zero line (b ∷ rest) =
    piece_tidy line (line_after line b) (piece_at b rest) (λ skip. cut_from skip (line_after line b) rest) (piece_written b rest) (no_line_less line b)
    (λ skip. cut_tidy skip (line_after line b) rest)

-- where the keywords are reserved

word_reserved : (word : List ℕ) (found : Option Keyword) → keyword_of word ≡ found → is_lower_word word ≡ true → is_written true (reserved_word word found) ≡ true
word_reserved word None e h = and_from _ _ h (ap (λ (o : Option Keyword). not (is_some o)) e)
word_reserved word (Some own) e h = refl

reserved_written : (t : Token) → is_written false t ≡ true → is_written true (reserved_token t) ≡ true
reserved_written (token.Word word) h = word_reserved word (keyword_of word) refl (and_parts (is_lower_word word) true h).0
reserved_written (token.Keyword _) h = absurd (true≢false (sym h))
reserved_written (token.Number _) h = h
reserved_written (token.Text _) h = h
reserved_written (token.Mark _) h = h

all_reserved : (placed : List Placed) → list_all (is_written false) (tokens placed) ≡ true → list_all (is_written true) (tokens (map reserved_placed placed)) ≡ true
all_reserved [] h = refl
all_reserved (p ∷ placed) h =
    let parts : (is_written false p.token ≡ true) × (list_all (is_written false) (tokens placed) ≡ true) = and_parts _ _ h in
    and_from _ _ (reserved_written p.token parts.0) (all_reserved placed parts.1)

same_lines : (placed : List Placed) → lines_of (map reserved_placed placed) ≡ lines_of placed
same_lines [] = refl
same_lines (p ∷ placed) = ap (λ lines. p.line ∷ lines) (same_lines placed)

reserved_tidy : (propagating : Bool) (placed : List Placed) → IsTidy false 1 placed → IsTidy propagating 1 (reserved_where propagating placed)
reserved_tidy false placed tidy = tidy
reserved_tidy true placed tidy = record { written = all_reserved placed tidy.written; rising = subst (RisesFrom 1) (sym (same_lines placed)) tidy.rising }

pub script_tidy : (text : List ℕ) → IsTidy (begins_propagating (cut_of text).placed) 1 (script_cut text).placed
script_tidy text = reserved_tidy (begins_propagating (cut_of text).placed) (cut_of text).placed (cut_tidy 0 1 text)

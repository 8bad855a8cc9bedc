-- No piece but the LF itself has an LF past its first byte, so its other bytes can be passed over at once.
use Rattle.std.proofs.Common.{◌≡◌, ◌+◌, ◌-◌, ◌<◌, ◌≤◌, ℕ, zero, suc, Bool, true, false, not, ◌||◌, ◌&&◌, ◌==◌, List, [], ◌∷◌, refl, ap, ◌∙◌, cond, take, drop, length, Option, Some, None, arith}
use Rattle.std.specs.List.{prefix_len, list_all}
use Rattle.std.specs.Option.{option_map}
use Rattle.std.proofs.Math.Numerals.{one-add}
use Rattle.ac_syntax.specs.declared.token.Token.TheVariants.{Text}
use Rattle.std.proofs.lemmas.List.Sums.{prefix_len-le-length}
use Rattle.std.proofs.lemmas.Option.{none-some}
use Rattle.std.specs.Int.{is_in_range}
use Rattle.std.specs.Char.{is_ascii_alphabetic, is_ascii_digit}
use Rattle.ac_syntax.specs.Characters.{is_word_byte, is_line_feed, is_blank, is_comment_byte, is_quote, is_printable}
use Rattle.ac_syntax.specs.Tokens.{piece_at, cut_from, line_after, word_piece, number_piece, colon_piece, minus_piece, longer_piece, slash_piece, mark_piece, Ending, string_from, with_byte, string_piece}
use Rattle.ac_syntax.specs.declared.piece.Piece.{Piece}
use Rattle.ac_syntax.specs.declared.token.Mark.{Mark}
use Rattle.ac_syntax.specs.declared.token.Token.{Token}
use Rattle.ac_syntax.proofs.Fronts.{list_all_front, list_all_weaker}

pub both_true : (x y : Bool) → (x && y) ≡ true → (x ≡ true) × (y ≡ true)
both_true true y h = (refl, h)
both_true false y h = absurd (cc h)

-- an `if` went one way or the other
pub if_cases : {A : Type 0} (P : Type 0) (b : Bool) (x y z : A) → cond b x y ≡ z → (b ≡ true → x ≡ z → P) → (b ≡ false → y ≡ z → P) → P
if_cases P true x y z e f g = f refl e
if_cases P false x y z e f g = g refl e

same_line_by : (t : Bool) (line : ℕ) → not t ≡ true → cond t (line + 1) line ≡ line
same_line_by true line h = absurd (cc h)
same_line_by false line h = refl

pub same_line : (b : ℕ) (line : ℕ) → is_comment_byte b ≡ true → line_after line b ≡ line
same_line b line h = same_line_by (is_line_feed b) line h

-- bytes that are no LF are passed over on one line
pub skip_plain : (skip line : ℕ) (text : List ℕ) → list_all is_comment_byte (take skip text) ≡ true → cut_from skip line text ≡ cut_from 0 line (drop skip text)
skip_plain zero line text h = refl
skip_plain (suc skip) line [] h = refl
skip_plain (suc skip) line (b ∷ rest) h =
    let parts = both_true (is_comment_byte b) (list_all is_comment_byte (take skip rest)) h in
    ap (λ l. cut_from skip l rest) (same_line b line parts.0) ∙ skip_plain skip line rest parts.1

pub no_line_feed : (p : ℕ → Bool) → p 10 ≡ false → (b : ℕ) → p b ≡ true → is_comment_byte b ≡ true
no_line_feed p none b h = grind (arith, none)

letter_in_word : (x y z w : Bool) → (x || y) ≡ true → (((z || x) || y) || w) ≡ true
letter_in_word x y true w h = refl
letter_in_word true y false w h = refl
letter_in_word false true false w h = refl
letter_in_word false false false w h = absurd (cc h)

-- a piece at the front of a byte and the rest is within them, and no LF stands past its first byte
pub record IsPlain (rest : List ℕ) (piece : Piece) : Type 0 where
  pub some : 0 < piece.len
  pub within : piece.len ≤ 1 + length rest
  pub plain : list_all is_comment_byte (take (piece.len - 1) rest) ≡ true

abbrev len_of : Option Piece → ℕ
len_of None = 0
len_of (Some piece) = piece.len

plain_at : (rest : List ℕ) (len : ℕ) (token : Option Token) (piece : Piece) → Some (record { len = len; token = token }) ≡ Some piece → 0 < len → len ≤ 1 + length rest → list_all is_comment_byte (take (len - 1) rest) ≡ true → IsPlain rest piece
plain_at rest len token piece e some within plain =
    let same : len ≡ piece.len = ap len_of e in
    record { some = rw (← same) some; within = rw (← same) within; plain = rw (← same) plain }

plain_one : (rest : List ℕ) (token : Option Token) (piece : Piece) → Some (record { len = 1; token = token }) ≡ Some piece → IsPlain rest piece
plain_one rest token piece e = plain_at rest 1 token piece e (omega arith) (omega arith) refl

plain_run : (p : ℕ → Bool) (b : ℕ) (rest : List ℕ) (token : Option Token) (piece : Piece) → ((c : ℕ) → p c ≡ true → is_comment_byte c ≡ true) → p b ≡ true → Some (record { len = prefix_len p (b ∷ rest); token = token }) ≡ Some piece → IsPlain rest piece
plain_run p b rest token piece none first e =
    let len : prefix_len p (b ∷ rest) ≡ 1 + prefix_len p rest = rw first refl in
    plain_at rest (1 + prefix_len p rest) token piece (rw (← len) e) (omega arith) (omega (arith, prefix_len-le-length p rest))
    (let skip : (1 + prefix_len p rest) - 1 ≡ prefix_len p rest = omega arith in rw skip (list_all_weaker p is_comment_byte none (take (prefix_len p rest) rest) (list_all_front p rest)))

pub word_byte : (b : ℕ) → is_ascii_alphabetic b ≡ true → is_word_byte b ≡ true
word_byte b h = letter_in_word (is_in_range 65 90 b) (is_in_range 97 122 b) (is_in_range 48 57 b) (b == 95) h

plain_word : (b : ℕ) (rest : List ℕ) (piece : Piece) → is_ascii_alphabetic b ≡ true → word_piece (b ∷ rest) ≡ Some piece → IsPlain rest piece
plain_word b rest piece h e = plain_run is_word_byte b rest _ piece (no_line_feed is_word_byte refl) (word_byte b h) e

plain_number : (b : ℕ) (rest : List ℕ) (piece : Piece) → is_ascii_digit b ≡ true → number_piece (b ∷ rest) ≡ Some piece → IsPlain rest piece
plain_number b rest piece h e =
    if_cases (IsPlain rest piece) _ _ _ _ e (λ _ f. plain_run is_ascii_digit b rest _ piece (no_line_feed is_ascii_digit refl) h f) (λ _ f. absurd (none-some piece f))

plain_colon : (rest : List ℕ) (piece : Piece) → colon_piece rest ≡ Some piece → IsPlain rest piece
plain_colon [] piece e = plain_one [] _ piece e
plain_colon (b ∷ rest) piece e =
    if_cases (IsPlain (b ∷ rest) piece) (b == 61) _ _ _ e
    (λ is f. plain_at (b ∷ rest) 2 _ piece f (omega arith) (omega arith) (rw (no_line_feed (λ c. c == 61) refl b is) refl))
    (λ _ f. plain_one (b ∷ rest) _ piece f)

plain_minus : (rest : List ℕ) (piece : Piece) → minus_piece rest ≡ Some piece → IsPlain rest piece
plain_minus [] piece e = plain_one [] _ piece e
plain_minus (b ∷ rest) piece e =
    if_cases (IsPlain (b ∷ rest) piece) (b == 45) _ _ _ e
    (λ is f. plain_at (b ∷ rest) (2 + prefix_len is_comment_byte rest) _ piece f (omega arith) (omega (arith, prefix_len-le-length is_comment_byte rest)) (plain_comment b rest (no_line_feed (λ c. c == 45) refl b is)))
    (λ _ f. plain_one (b ∷ rest) _ piece f)
  where
    plain_comment : (b : ℕ) (rest : List ℕ) → is_comment_byte b ≡ true → list_all is_comment_byte (take ((2 + prefix_len is_comment_byte rest) - 1) (b ∷ rest)) ≡ true
    plain_comment b rest h =
        let skip : (2 + prefix_len is_comment_byte rest) - 1 ≡ suc (prefix_len is_comment_byte rest) = omega arith in
        rw (skip, h) (list_all_front is_comment_byte rest)

plain_longer : (next : ℕ) (longer shorter : Mark) (rest : List ℕ) (piece : Piece) → (10 == next) ≡ false → longer_piece next longer shorter rest ≡ Some piece → IsPlain rest piece
plain_longer next longer shorter [] piece none e = plain_one [] _ piece e
plain_longer next longer shorter (b ∷ rest) piece none e =
    if_cases (IsPlain (b ∷ rest) piece) (b == next) _ _ _ e
    (λ is f. plain_at (b ∷ rest) 2 _ piece f (omega arith) (omega arith) (rw (no_line_feed (λ c. c == next) none b is) refl))
    (λ _ f. plain_one (b ∷ rest) _ piece f)

plain_slash : (rest : List ℕ) (piece : Piece) → slash_piece rest ≡ Some piece → IsPlain rest piece
plain_slash [] piece e = absurd (none-some piece e)
plain_slash (b ∷ rest) piece e =
    if_cases (IsPlain (b ∷ rest) piece) (b == 61) _ _ _ e
    (λ is f. plain_at (b ∷ rest) 2 _ piece f (omega arith) (omega arith) (rw (no_line_feed (λ c. c == 61) refl b is) refl))
    (λ _ f. absurd (none-some piece f))

plain_mark : (b : ℕ) (rest : List ℕ) (piece : Piece) → mark_piece b ≡ Some piece → IsPlain rest piece
plain_mark b rest piece e =
    let P = IsPlain rest piece in
    let one = λ (token : Option Token) (f : Some (record { len = 1; token = token }) ≡ Some piece). plain_one rest token piece f in
    if_cases P (b == 59) _ _ _ e (λ _ f. one _ f) (λ _ e.
    if_cases P (b == 44) _ _ _ e (λ _ f. one _ f) (λ _ e.
    if_cases P (b == 40) _ _ _ e (λ _ f. one _ f) (λ _ e.
    if_cases P (b == 41) _ _ _ e (λ _ f. one _ f) (λ _ e.
    if_cases P (b == 46) _ _ _ e (λ _ f. one _ f) (λ _ e.
    if_cases P (b == 43) _ _ _ e (λ _ f. one _ f) (λ _ e.
    if_cases P (b == 91) _ _ _ e (λ _ f. one _ f) (λ _ e.
    if_cases P (b == 93) _ _ _ e (λ _ f. one _ f) (λ _ e.
    if_cases P (b == 39) _ _ _ e (λ _ f. one _ f) (λ _ e.
    if_cases P (b == 42) _ _ _ e (λ _ f. one _ f) (λ _ e. absurd (none-some piece e)))))))))))

-- a string's end is within the text, and no LF stands in it
record IsPlainEnd (text : List ℕ) (e : Ending) : Type 0 where
  within : e.len ≤ length text
  plain : list_all is_comment_byte (take e.len text) ≡ true

abbrev end_len : Option Ending → ℕ
end_len None = 0
end_len (Some e) = e.len

no_end : (text : List ℕ) (e : Ending) → Some (record { value = []; len = 0 }) ≡ Some e → IsPlainEnd text e
no_end text e is = let zero : 0 ≡ e.len = ap end_len is in record { within = rw (← zero) (omega arith); plain = rw (← zero) refl }

one_more : (b : ℕ) (rest bytes : List ℕ) (end : Option Ending) (e : Ending) → is_comment_byte b ≡ true → ((f : Ending) → end ≡ Some f → IsPlainEnd rest f) → with_byte bytes end ≡ Some e → IsPlainEnd (b ∷ rest) e
one_more b rest bytes None e h fall is = absurd (none-some e is)
one_more b rest bytes (Some f) e h fall is =
    let len : 1 + f.len ≡ e.len = ap end_len is in
    let plain = fall f refl in
    record { within = rw (← len) (omega (arith, plain.within)); plain = rw (← len, one-add, h) plain.plain }

plain_end : (text : List ℕ) (after_quote : Bool) (e : Ending) → string_from after_quote text ≡ Some e → IsPlainEnd text e
plain_end [] true e is = no_end [] e is
plain_end [] false e is = absurd (none-some e is)
plain_end (b ∷ rest) true e is =
    let P = IsPlainEnd (b ∷ rest) e in
    if_cases P (is_quote b) _ _ _ is
    (λ h f. one_more b rest (b ∷ []) (string_from (not true && is_quote b) rest) e (no_line_feed is_quote refl b h) (λ f e. plain_end rest (not true && is_quote b) f e) f)
    (λ _ f. no_end (b ∷ rest) e f)
plain_end (b ∷ rest) false e is =
    let P = IsPlainEnd (b ∷ rest) e in
    if_cases P (is_quote b) _ _ _ is
    (λ h f. one_more b rest [] (string_from (not false && is_quote b) rest) e (no_line_feed is_quote refl b h) (λ f e. plain_end rest (not false && is_quote b) f e) f)
    (λ _ f. if_cases P (is_printable b) _ _ _ f
    (λ h f. one_more b rest (b ∷ []) (string_from (not false && is_quote b) rest) e (no_line_feed is_printable refl b h) (λ f e. plain_end rest (not false && is_quote b) f e) f)
    (λ _ f. absurd (none-some e f)))

plain_string : (rest : List ℕ) (piece : Piece) → string_piece rest ≡ Some piece → IsPlain rest piece
plain_string rest piece is = by (string_from false rest) refl is
  where
    by : (end : Option Ending) → string_from false rest ≡ end → option_map (λ e. record { len = 1 + e.len; token = Some (Text e.value) }) end ≡ Some piece → IsPlain rest piece
    by None found is = absurd (none-some piece is)
    by (Some e) found is =
        let plain = plain_end rest false e found in
        plain_at rest (1 + e.len) (Some (Text e.value)) piece is (omega arith) (omega (arith, plain.within))
        (let skip : (1 + e.len) - 1 ≡ e.len = omega arith in rw skip plain.plain)

pub plain_piece : (b : ℕ) (rest : List ℕ) (piece : Piece) → piece_at b rest ≡ Some piece → IsPlain rest piece
plain_piece b rest piece e =
    let P = IsPlain rest piece in
    if_cases P (is_ascii_alphabetic b) _ _ _ e (λ h f. plain_word b rest piece h f) (λ _ e.
    if_cases P (is_ascii_digit b) _ _ _ e (λ h f. plain_number b rest piece h f) (λ _ e.
    if_cases P (is_blank b rest) _ _ _ e (λ _ f. plain_one rest _ piece f) (λ _ e.
    if_cases P (is_quote b) _ _ _ e (λ _ f. plain_string rest piece f) (λ _ e.
    if_cases P (b == 58) _ _ _ e (λ _ f. plain_colon rest piece f) (λ _ e.
    if_cases P (b == 45) _ _ _ e (λ _ f. plain_minus rest piece f) (λ _ e.
    if_cases P (b == 61) _ _ _ e (λ _ f. plain_longer 62 _ _ rest piece refl f) (λ _ e.
    if_cases P (b == 60) _ _ _ e (λ _ f. plain_longer 61 _ _ rest piece refl f) (λ _ e.
    if_cases P (b == 62) _ _ _ e (λ _ f. plain_longer 61 _ _ rest piece refl f) (λ _ e.
    if_cases P (b == 47) _ _ _ e (λ _ f. plain_slash rest piece f) (λ _ f. plain_mark b rest piece f))))))))))

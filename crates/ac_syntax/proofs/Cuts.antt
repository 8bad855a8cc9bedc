-- Cutting a text that begins with a part's text: the part's tokens on that line, and then the cut of what follows.
use Rattle.std.proofs.Common.{◌≡◌, ◌+◌, ◌-◌, ◌^◌, ◌<◌, ◌==◌, ℕ, suc, min, Bool, true, false, cond, ◌||◌, ◌&&◌, List, [], ◌∷◌, ◌++◌, map, flat_map, take, length, length-append, refl, sym, ap, ap₂, ◌∙◌, append_assoc, Some, nat_lt, nat_eq, option_map, decimal, arith, ltb-true, eqb-true, eq-eqb}
use Rattle.std.proofs.lemmas.Bool.{and_parts, and_from, or_parts, cond-true, cond-false, true≢false}
use Rattle.std.proofs.lemmas.Bool.Decides.{nat_tests}
use Rattle.std.proofs.lemmas.Fmt.{decimal_is_IsNumeral}
use Rattle.std.proofs.lemmas.Str.Parse.{digit_at}
use Rattle.std.proofs.lemmas.List.Folds.{list_all-append}
use Rattle.std.proofs.Math.Seq.{take-append_seam}
use Rattle.std.specs.List.{prefix_len, list_all, list_any}
use Rattle.std.specs.Int.{IsInRange}
use Rattle.std.specs.Char.{digit_value, is_ascii_alphabetic, is_ascii_digit, is_ascii_lowercase, to_ascii_lowercase}
use Rattle.std.specs.Str.Parse.{AllDigits, digits_value}
use Rattle.ac_syntax.specs.declared.token.Token.{Token}
use Rattle.ac_syntax.specs.declared.token.Token.TheVariants as token
use Rattle.ac_syntax.specs.declared.token.Mark.{Mark}
use Rattle.ac_syntax.specs.declared.token.Mark.TheVariants.{Colon, Semicolon, Comma, Open, Close, Dot, Assign, Plus, Minus, Arrow, BracketOpen, BracketClose, Tick, Star, Equal, NotEqual, Less, LessEqual, Greater, GreaterEqual}
use Rattle.ac_syntax.specs.declared.token.Placed.{Placed}
use Rattle.ac_syntax.specs.Characters.{is_blank, is_word_byte, is_comment_byte, is_quote, is_printable}
use Rattle.ac_syntax.specs.Tokens.{Cut, cut_from, piece_at, token_of, line_after, string_from, with_byte, with_piece, word_piece, number_piece, number_value, longer_piece}
use Rattle.ac_syntax.specs.Canonical.{quoted_byte, quoted, on_line, is_lower_word, mark_text, leads_closely}
use Rattle.ac_syntax.specs.Parts.{marks}
use Rattle.ac_syntax.proofs.Fronts.{list_all_weaker}
use Rattle.ac_syntax.proofs.Pieces.{same_line, no_line_feed}

-- tokens before those of a cut
abbrev pub put_before : List Placed → Cut → Cut
put_before front cut = record { placed = front ++ cut.placed; malformed = cut.malformed }

-- a piece's other bytes are passed over on one line
pass_over : (bytes rest : List ℕ) (line : ℕ) → list_all is_comment_byte bytes ≡ true → cut_from (length bytes) line (bytes ++ rest) ≡ cut_from 0 line rest
pass_over [] rest line h = refl
pass_over (b ∷ bytes) rest line h =
    let parts : (is_comment_byte b ≡ true) × (list_all is_comment_byte bytes ≡ true) = and_parts _ _ h in
    ap (λ l. cut_from (length bytes) l (bytes ++ rest)) (same_line b line parts.0) ∙ pass_over bytes rest line parts.1

-- a token of one byte or more
pub cut_token : (b : ℕ) (bytes rest : List ℕ) (line : ℕ) (t : Token) → piece_at b (bytes ++ rest) ≡ token_of (1 + length bytes) t
    → list_all is_comment_byte (b ∷ bytes) ≡ true → cut_from 0 line (b ∷ (bytes ++ rest)) ≡ put_before (on_line line t ∷ []) (cut_from 0 line rest)
cut_token b bytes rest line t piece plain =
    let parts : (is_comment_byte b ≡ true) × (list_all is_comment_byte bytes ≡ true) = and_parts _ _ plain in
    let len : (1 + length bytes) - 1 ≡ length bytes = omega arith in
    ap (λ p. with_piece p line (λ skip. cut_from skip (line_after line b) (bytes ++ rest))) piece
    ∙ ap₂ (λ n l. put_before (on_line line t ∷ []) (cut_from n l (bytes ++ rest))) len (same_line b line parts.0)
    ∙ ap (put_before (on_line line t ∷ [])) (pass_over bytes rest line parts.1)

-- the bytes at which every part ends
abbrev ending_bytes : List ℕ
ending_bytes = 32 ∷ 10 ∷ 59 ∷ 44 ∷ 41 ∷ 46 ∷ 93 ∷ []

-- a part can't go on in this text
abbrev pub ends_parts : List ℕ → Bool
ends_parts [] = true
ends_parts (b ∷ _) = list_any (nat_eq b) ending_bytes

fails_by : (p : ℕ → Bool) (b e : ℕ) (same : Bool) → nat_eq b e ≡ same → p e ≡ false → (same ≡ false → p b ≡ false) → p b ≡ false
fails_by p b e true is none other = ap p (eqb-true b e is) ∙ none
fails_by p b e false is none other = other refl

fails_at : (p : ℕ → Bool) (ends : List ℕ) (b : ℕ) → list_any p ends ≡ false → list_any (nat_eq b) ends ≡ true → p b ≡ false
fails_at p [] b none h = absurd (true≢false (sym h))
fails_at p (e ∷ ends) b none h =
    let parts : (p e ≡ false) × (list_any p ends ≡ false) = or_parts _ _ none in
    fails_by p b e (nat_eq b e) refl parts.0 (λ is. fails_at p ends b parts.1 (rw is at h))

-- none of the bytes at which parts end passes this test
abbrev no_end : (ℕ → Bool) → Type 0
no_end p = list_any p ending_bytes ≡ false

prefix_none : (p : ℕ → Bool) → no_end p → (rest : List ℕ) → ends_parts rest ≡ true → prefix_len p rest ≡ 0
prefix_none p none [] h = refl
prefix_none p none (b ∷ rest) h = ap (λ t. cond t (1 + prefix_len p rest) 0) (fails_at p ending_bytes b none h)

prefix_all : (p : ℕ → Bool) (bytes rest : List ℕ) → list_all p bytes ≡ true → prefix_len p rest ≡ 0 → prefix_len p (bytes ++ rest) ≡ length bytes
prefix_all p [] rest h e = e
prefix_all p (b ∷ bytes) rest h e =
    let parts : (p b ≡ true) × (list_all p bytes ≡ true) = and_parts _ _ h in
    ap (λ t. cond t (1 + prefix_len p (bytes ++ rest)) 0) parts.0 ∙ omega (arith, prefix_all p bytes rest parts.1 e)

-- words

abbrev is_lower_byte : ℕ → Bool
is_lower_byte c = is_word_byte c && to_ascii_lowercase c == c

lower_same : (b : ℕ) → is_lower_byte b ≡ true → to_ascii_lowercase b ≡ b
lower_same b h = eqb-true (to_ascii_lowercase b) b (and_parts (is_word_byte b) (to_ascii_lowercase b == b) h).1

all_lower_same : (bytes : List ℕ) → list_all is_lower_byte bytes ≡ true → map to_ascii_lowercase bytes ≡ bytes
all_lower_same [] h = refl
all_lower_same (b ∷ bytes) h =
    let parts : (is_lower_byte b ≡ true) × (list_all is_lower_byte bytes ≡ true) = and_parts _ _ h in
    ap₂ (λ c cs. c ∷ cs) (lower_same b parts.0) (all_lower_same bytes parts.1)

lower_letter : (b : ℕ) → is_ascii_lowercase b ≡ true → (is_ascii_alphabetic b ≡ true) × (is_lower_byte b ≡ true)
lower_letter b h = (grind (arith, nat_tests), grind (arith, nat_tests))

word_piece_of : (word rest : List ℕ) (n : ℕ) → prefix_len is_word_byte (word ++ rest) ≡ n → n ≡ length word → map to_ascii_lowercase word ≡ word
    → word_piece (word ++ rest) ≡ token_of n (token.Word word)
word_piece_of word rest n len same lower =
    ap (λ k. token_of k (token.Word (map to_ascii_lowercase (take k (word ++ rest))))) len
    ∙ ap (λ k. token_of n (token.Word (map to_ascii_lowercase (take k (word ++ rest))))) same
    ∙ ap (λ bytes. token_of n (token.Word (map to_ascii_lowercase bytes))) (take-append_seam word rest)
    ∙ ap (λ bytes. token_of n (token.Word bytes)) lower

word_at : (b : ℕ) (bytes rest : List ℕ) → is_ascii_alphabetic b ≡ true → list_all is_lower_byte (b ∷ bytes) ≡ true → ends_parts rest ≡ true
    → piece_at b (bytes ++ rest) ≡ token_of (1 + length bytes) (token.Word (b ∷ bytes))
word_at b bytes rest letter lower ends =
    let words : list_all is_word_byte (b ∷ bytes) ≡ true = list_all_weaker is_lower_byte is_word_byte (λ c h. (and_parts (is_word_byte c) (to_ascii_lowercase c == c) h).0) (b ∷ bytes) lower in
    let len : prefix_len is_word_byte (b ∷ (bytes ++ rest)) ≡ 1 + length bytes = prefix_all is_word_byte (b ∷ bytes) rest words (prefix_none is_word_byte refl rest ends) ∙ omega arith in
    cond-true (is_ascii_alphabetic b) (word_piece (b ∷ (bytes ++ rest))) _ letter
    ∙ word_piece_of (b ∷ bytes) rest (1 + length bytes) len (omega arith) (all_lower_same (b ∷ bytes) lower)

pub cut_word : (word rest : List ℕ) (line : ℕ) → is_lower_word word ≡ true → ends_parts rest ≡ true
    → cut_from 0 line (word ++ rest) ≡ put_before (on_line line (token.Word word) ∷ []) (cut_from 0 line rest)
cut_word [] rest line h ends = absurd (true≢false (sym h))
cut_word (b ∷ bytes) rest line h ends =
    let parts : (is_ascii_lowercase b ≡ true) × (list_all is_lower_byte bytes ≡ true) = and_parts _ _ h in
    let first : (is_ascii_alphabetic b ≡ true) × (is_lower_byte b ≡ true) = lower_letter b parts.0 in
    let lower : list_all is_lower_byte (b ∷ bytes) ≡ true = and_from _ _ first.1 parts.1 in
    cut_token b bytes rest line (token.Word (b ∷ bytes)) (word_at b bytes rest first.0 lower ends)
    (list_all_weaker is_lower_byte is_comment_byte (no_line_feed is_lower_byte refl) (b ∷ bytes) lower)

-- numbers

pub digit_byte : (b : ℕ) → digit_value b < 10 → is_ascii_digit b ≡ true
digit_byte b h = let d : IsInRange 48 57 b = digit_at (b ∷ []) 0 (h, tt) (omega arith) in grind (arith, nat_tests)

all_digit_bytes : (ds : List ℕ) → AllDigits 10 ds → list_all is_ascii_digit ds ≡ true
all_digit_bytes [] h = refl
all_digit_bytes (b ∷ ds) h = and_from _ _ (digit_byte b h.0) (all_digit_bytes ds h.1)

digit_in_word : (b : ℕ) → is_ascii_digit b ≡ true → is_word_byte b ≡ true
digit_in_word b h = grind (arith, nat_tests)

digit_no_letter : (b : ℕ) → is_ascii_digit b ≡ true → is_ascii_alphabetic b ≡ false
digit_no_letter b h = grind (arith, nat_tests)

number_piece_of : (ds rest : List ℕ) (n : ℕ) → prefix_len is_word_byte (ds ++ rest) ≡ length ds → prefix_len is_ascii_digit (ds ++ rest) ≡ length ds
    → digits_value 10 ds ≡ n → n < 2 ^ 64 → number_piece (ds ++ rest) ≡ token_of (length ds) (token.Number n)
number_piece_of ds rest n words digits value small =
    let same : (prefix_len is_word_byte (ds ++ rest) == prefix_len is_ascii_digit (ds ++ rest)) ≡ true = eq-eqb _ _ (words ∙ sym digits) in
    let least : min n (2 ^ 64 - 1) ≡ n = grind arith in
    cond-true _ _ _ same
    ∙ ap (λ k. token_of k (token.Number (number_value (take k (ds ++ rest))))) digits
    ∙ ap (λ bytes. token_of (length ds) (token.Number (number_value bytes))) (take-append_seam ds rest)
    ∙ ap (λ k. token_of (length ds) (token.Number (min k (2 ^ 64 - 1)))) value
    ∙ ap (λ k. token_of (length ds) (token.Number k)) least

pub cut_digits : (ds rest : List ℕ) (line n : ℕ) → 0 < length ds → AllDigits 10 ds → digits_value 10 ds ≡ n → n < 2 ^ 64 → ends_parts rest ≡ true
    → cut_from 0 line (ds ++ rest) ≡ put_before (on_line line (token.Number n) ∷ []) (cut_from 0 line rest)
cut_digits [] rest line n some digits value small ends = absurd (omega arith)
cut_digits (b ∷ ds) rest line n some digits value small ends =
    let all : list_all is_ascii_digit (b ∷ ds) ≡ true = all_digit_bytes (b ∷ ds) digits in
    let first : is_ascii_digit b ≡ true = (and_parts (is_ascii_digit b) (list_all is_ascii_digit ds) all).0 in
    let words : prefix_len is_word_byte ((b ∷ ds) ++ rest) ≡ length (b ∷ ds) =
    prefix_all is_word_byte (b ∷ ds) rest (list_all_weaker is_ascii_digit is_word_byte digit_in_word (b ∷ ds) all) (prefix_none is_word_byte refl rest ends) in
    let numbers : prefix_len is_ascii_digit ((b ∷ ds) ++ rest) ≡ length (b ∷ ds) = prefix_all is_ascii_digit (b ∷ ds) rest all (prefix_none is_ascii_digit refl rest ends) in
    let len : length (b ∷ ds) ≡ 1 + length ds = omega arith in
    cut_token b ds rest line (token.Number n)
    (cond-false (is_ascii_alphabetic b) _ _ (digit_no_letter b first) ∙ cond-true (is_ascii_digit b) _ _ first
    ∙ number_piece_of (b ∷ ds) rest n words numbers value small ∙ ap (λ k. token_of k (token.Number n)) len)
    (list_all_weaker is_ascii_digit is_comment_byte (no_line_feed is_ascii_digit refl) (b ∷ ds) all)

pub cut_number : (n : ℕ) (rest : List ℕ) (line : ℕ) → nat_lt n (2 ^ 64) ≡ true → ends_parts rest ≡ true
    → cut_from 0 line (decimal n ++ rest) ≡ put_before (on_line line (token.Number n) ∷ []) (cut_from 0 line rest)
cut_number n rest line h ends =
    let small : n < 2 ^ 64 = ltb-true n (2 ^ 64) h in
    let d = decimal_is_IsNumeral n small in
    cut_digits (decimal n) rest line n d.0.0 d.0.1 d.1 small ends

-- strings

quote_ends : (rest : List ℕ) → ends_parts rest ≡ true → string_from true rest ≡ Some (record { value = []; len = 0 })
quote_ends [] h = refl
quote_ends (b ∷ rest) h = cond-false (is_quote b) _ _ (fails_at is_quote ending_bytes b refl h)

-- one more byte at the front of a string; `more` is what follows, before its last quote
string_more : (b : ℕ) (bytes more rest : List ℕ) (quote : Bool) → is_quote b ≡ quote → is_printable b ≡ true
    → string_from false (more ++ 34 ∷ rest) ≡ Some (record { value = bytes; len = 1 + length more })
    → string_from false ((cond quote (34 ∷ 34 ∷ []) (b ∷ []) ++ more) ++ 34 ∷ rest) ≡ Some (record { value = b ∷ bytes; len = 1 + length (cond quote (34 ∷ 34 ∷ []) (b ∷ []) ++ more) })
string_more b bytes more rest true is plain h =
    let len : 1 + (1 + (1 + length more)) ≡ 1 + suc (suc (length more)) = omega arith in
    ap (λ e. with_byte [] (with_byte (34 ∷ []) e)) h ∙ ap₂ (λ c n. Some (record { value = c ∷ bytes; len = n })) (sym (eqb-true b 34 is)) len
string_more b bytes more rest false is plain h =
    let len : 1 + (1 + length more) ≡ 1 + suc (length more) = omega arith in
    cond-false (is_quote b) _ _ is ∙ cond-true (is_printable b) _ _ plain
    ∙ ap (λ q. with_byte (b ∷ []) (string_from q (more ++ 34 ∷ rest))) is ∙ ap (with_byte (b ∷ [])) h
    ∙ ap (λ n. Some (record { value = b ∷ bytes; len = n })) len

string_ends : (bytes rest : List ℕ) → list_all is_printable bytes ≡ true → ends_parts rest ≡ true
    → string_from false (flat_map quoted_byte bytes ++ 34 ∷ rest) ≡ Some (record { value = bytes; len = 1 + length (flat_map quoted_byte bytes) })
string_ends [] rest h ends = ap (with_byte []) (quote_ends rest ends)
string_ends (b ∷ bytes) rest h ends =
    let parts : (is_printable b ≡ true) × (list_all is_printable bytes ≡ true) = and_parts _ _ h in
    string_more b bytes (flat_map quoted_byte bytes) rest (is_quote b) refl parts.0 (string_ends bytes rest parts.1 ends)

byte_plain : (b : ℕ) (quote : Bool) → is_printable b ≡ true → list_all is_comment_byte (cond quote (34 ∷ 34 ∷ []) (b ∷ [])) ≡ true
byte_plain b true h = refl
byte_plain b false h = and_from _ _ (no_line_feed is_printable refl b h) refl

string_plain : (bytes : List ℕ) → list_all is_printable bytes ≡ true → list_all is_comment_byte (flat_map quoted_byte bytes) ≡ true
string_plain [] h = refl
string_plain (b ∷ bytes) h =
    let parts : (is_printable b ≡ true) × (list_all is_printable bytes ≡ true) = and_parts _ _ h in
    list_all-append is_comment_byte (quoted_byte b) (flat_map quoted_byte bytes) ∙ and_from _ _ (byte_plain b (is_quote b) parts.0) (string_plain bytes parts.1)

no_blank : (rest : List ℕ) → is_blank 34 rest ≡ false
no_blank [] = refl
no_blank (_ ∷ _) = refl

pub cut_string : (bytes rest : List ℕ) (line : ℕ) → list_all is_printable bytes ≡ true → ends_parts rest ≡ true
    → cut_from 0 line (quoted bytes ++ rest) ≡ put_before (on_line line (token.Text bytes) ∷ []) (cut_from 0 line rest)
cut_string bytes rest line h ends =
    let inner = flat_map quoted_byte bytes in
    let len : 1 + (1 + length inner) ≡ 1 + length (inner ++ 34 ∷ []) = omega (arith, length-append inner (34 ∷ [])) in
    cut_token 34 (inner ++ 34 ∷ []) rest line (token.Text bytes)
    (ap (piece_at 34) (append_assoc inner (34 ∷ []) rest)
    ∙ cond-false (is_blank 34 (inner ++ 34 ∷ rest)) _ _ (no_blank (inner ++ 34 ∷ rest))
    ∙ ap (option_map (λ e. record { len = 1 + e.len; token = Some (token.Text e.value) })) (string_ends bytes rest h ends)
    ∙ ap (λ n. token_of n (token.Text bytes)) len)
    (list_all-append is_comment_byte inner (34 ∷ []) ∙ and_from _ _ (string_plain bytes h) refl)

-- marks

-- a mark of one byte, where the byte of the longer one doesn't follow
shorter : (b next : ℕ) (longer mark : Mark) (rest : List ℕ) → (b == next) ≡ false → longer_piece next longer mark (b ∷ rest) ≡ token_of 1 (token.Mark mark)
shorter b next longer mark rest h = cond-false (b == next) _ _ h

-- a minus, where what follows doesn't begin with another
pub cut_minus : (b : ℕ) (rest : List ℕ) (line : ℕ) → (b == 45) ≡ false → cut_from 0 line (45 ∷ b ∷ rest) ≡ put_before (on_line line (token.Mark Minus) ∷ []) (cut_from 0 line (b ∷ rest))
cut_minus b rest line h = cut_token 45 [] (b ∷ rest) line (token.Mark Minus) (cond-false (b == 45) _ _ h) refl

pub cut_mark : (mark : Mark) (rest : List ℕ) (line : ℕ) → (leads_closely (marks mark) || ends_parts rest) ≡ true
    → cut_from 0 line (mark_text mark ++ rest) ≡ put_before (on_line line (token.Mark mark) ∷ []) (cut_from 0 line rest)
cut_mark Colon [] line h = refl
cut_mark Colon (b ∷ rest) line h = cut_token 58 [] (b ∷ rest) line (token.Mark Colon) (cond-false (b == 61) _ _ (fails_at (λ c. c == 61) ending_bytes b refl h)) refl
cut_mark Semicolon [] line h = refl
cut_mark Semicolon (_ ∷ _) line h = refl
cut_mark Comma [] line h = refl
cut_mark Comma (_ ∷ _) line h = refl
cut_mark Open [] line h = refl
cut_mark Open (_ ∷ _) line h = refl
cut_mark Close [] line h = refl
cut_mark Close (_ ∷ _) line h = refl
cut_mark Dot [] line h = refl
cut_mark Dot (_ ∷ _) line h = refl
cut_mark Assign rest line h = refl
cut_mark Plus [] line h = refl
cut_mark Plus (_ ∷ _) line h = refl
cut_mark Minus [] line h = refl
cut_mark Minus (b ∷ rest) line h = cut_minus b rest line (fails_at (λ c. c == 45) ending_bytes b refl h)
cut_mark Arrow rest line h = refl
cut_mark BracketOpen [] line h = refl
cut_mark BracketOpen (_ ∷ _) line h = refl
cut_mark BracketClose [] line h = refl
cut_mark BracketClose (_ ∷ _) line h = refl
cut_mark Tick [] line h = refl
cut_mark Tick (_ ∷ _) line h = refl
cut_mark Star [] line h = refl
cut_mark Star (_ ∷ _) line h = refl
cut_mark Equal [] line h = refl
cut_mark Equal (b ∷ rest) line h = cut_token 61 [] (b ∷ rest) line (token.Mark Equal) (shorter b 62 Arrow Equal rest (fails_at (λ c. c == 62) ending_bytes b refl h)) refl
cut_mark NotEqual rest line h = refl
cut_mark Less [] line h = refl
cut_mark Less (b ∷ rest) line h = cut_token 60 [] (b ∷ rest) line (token.Mark Less) (shorter b 61 LessEqual Less rest (fails_at (λ c. c == 61) ending_bytes b refl h)) refl
cut_mark LessEqual rest line h = refl
cut_mark Greater [] line h = refl
cut_mark Greater (b ∷ rest) line h = cut_token 62 [] (b ∷ rest) line (token.Mark Greater) (shorter b 61 GreaterEqual Greater rest (fails_at (λ c. c == 61) ending_bytes b refl h)) refl
cut_mark GreaterEqual rest line h = refl

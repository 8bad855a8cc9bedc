-- Values are read as they are written.
use Rattle.std.proofs.Common.{◌≡◌, ◌==◌, ◌&&◌, ◌-◌, ◌<◌, ◌≤◌, ◌^◌, ℕ, ℤ, zero, suc, min, pos, negsuc, Bool, true, false, not, List, [], ◌∷◌, ◌++◌, length, take, drop, flat_map, codes, decimal, refl, sym, ap, ap₂, ◌∙◌, arith, nat_le, append_assoc, eqb-true, Option, Some, None, if◌then◌else◌}
use Rattle.std.specs.List.{prefix_len, list_all}
use Rattle.std.specs.Char.{is_ascii_digit, digit_value}
use Rattle.std.specs.Int.{IsInRange}
use Rattle.std.specs.Fmt.{signed_decimal}
use Rattle.std.specs.Str.{bytes_eq}
use Rattle.std.specs.Str.Parse.{AllDigits}
use Rattle.std.proofs.lemmas.Bool.{and_from, and_parts, cond-true, cond-false, not-true, leb-true, le-leb}
use Rattle.std.proofs.lemmas.Bool.Decides.{nat_tests}
use Rattle.std.proofs.lemmas.Fmt.{decimal_is_IsNumeral}
use Rattle.std.proofs.lemmas.Str.Parse.{digit_at}
use Rattle.std.proofs.lemmas.Slice.Eq.{bytes_eq-Decides}
use Rattle.std.proofs.lemmas.List.{take-append-drop}
use Rattle.std.proofs.Math.Seq.{take-append_seam, drop-append_seam}
use Rattle.ac_base.specs.declared.value.Value.{Value}
use Rattle.ac_base.specs.declared.value.Value.TheVariants as value
use Rattle.ac_base.specs.Text.{is_printable}
use Rattle.ac_syntax.specs.declared.kind.ElemKind.{ElemKind}
use Rattle.ac_syntax.specs.declared.kind.ElemKind.TheVariants.{Integer, Str}
use Rattle.ac_syntax.specs.Characters.{is_word_byte, is_quote}
use Rattle.ac_syntax.specs.Tokens.{number_value}
use Rattle.ac_syntax.specs.Canonical.{quoted_byte, quoted, literal_text}
use Rattle.ac_snapshot.specs.RowValidity.{is_integer, is_text, is_value_of}
use Rattle.ac_snapshot.specs.Outcomes.{Outcome, got, stuck, Reader, gives, onward, either, seen}
use Rattle.ac_snapshot.specs.ValueReaders.{after, spelled, number, positive, negative, integer, plain_byte, string_byte, before_more, string_by, quoted_bytes, literal}
use Rattle.ac_snapshot.specs.Writings.{ends, ReadsNumbers, ReadsIntegers, ReadsTexts, ReadsValues}

-- what a step gave, and what the next made of it

pub step_found : {X A : Type 0} (P : Type 0) (o : Outcome X) (next : X → Reader A) (a : A) (rest : List ℕ) → onward o next ≡ got a rest
    → ((x : X) (r : List ℕ) → o ≡ got x r → next x r ≡ got a rest → P) → P
step_found P (got x r) next a rest e f = f x r refl e
step_found P stuck next a rest e f = absurd (cc e)

pub fork_found : {X A : Type 0} (P : Type 0) (o : Outcome X) (next : X → Reader A) (other : Reader A) (t : List ℕ) (a : A) (rest : List ℕ)
    → either o next other t ≡ got a rest
    → ((x : X) (r : List ℕ) → o ≡ got x r → next x r ≡ got a rest → P) → (other t ≡ got a rest → P) → P
fork_found P (got x r) next other t a rest e f g = f x r refl e
fork_found P stuck next other t a rest e f g = g e

pub seen_found : {A : Type 0} (P : Type 0) (o : Option A) (r : List ℕ) (a : A) (rest : List ℕ) → seen o r ≡ got a rest → (o ≡ Some a → r ≡ rest → P) → P
seen_found P (Some x) r a rest e f = let same : x ≡ a = cc e in let left : r ≡ rest = cc e in f (ap Some same) left
seen_found P None r a rest e f = absurd (cc e)

if_found : {A : Type 0} (b : Bool) (x a : A) → (if b then Some x else None) ≡ Some a → (b ≡ true) × (x ≡ a)
if_found true x a e = let same : x ≡ a = cc e in (refl, same)
if_found false x a e = absurd (cc e)

-- these very bytes

abbrev pub passed : List ℕ → Outcome (Unit {0})
passed t = got tt t

after_by : (b : Bool) (wanted t : List ℕ) (u : Unit {0}) (rest : List ℕ) → bytes_eq (take (length wanted) t) wanted ≡ b
    → (if b then passed (drop (length wanted) t) else stuck) ≡ got u rest → t ≡ wanted ++ rest
after_by false wanted t u rest is h = absurd (cc h)
after_by true wanted t u rest is h =
    let left : drop (length wanted) t ≡ rest = cc h in
    sym (take-append-drop (length wanted) t) ∙ ap₂ (λ f r. f ++ r) ((bytes_eq-Decides (take (length wanted) t) wanted).0 is) left

pub after_found : (wanted t : List ℕ) (u : Unit {0}) (rest : List ℕ) → after wanted t ≡ got u rest → t ≡ wanted ++ rest
after_found wanted t u rest h = after_by (bytes_eq (take (length wanted) t) wanted) wanted t u rest refl h

pub after_read : (wanted rest : List ℕ) → after wanted (wanted ++ rest) ≡ got tt rest
after_read wanted rest =
    cond-true _ (passed (drop (length wanted) (wanted ++ rest))) stuck ((bytes_eq-Decides (take (length wanted) (wanted ++ rest)) wanted).1 (take-append_seam wanted rest))
    ∙ ap passed (drop-append_seam wanted rest)

-- digits

digit_byte : (b : ℕ) → digit_value b < 10 → is_ascii_digit b ≡ true
digit_byte b h = let d : IsInRange 48 57 b = digit_at (b ∷ []) 0 (h, tt) (omega arith) in grind (arith, nat_tests)

pub digit_bytes : (ds : List ℕ) → AllDigits 10 ds → list_all is_ascii_digit ds ≡ true
digit_bytes [] h = refl
digit_bytes (b ∷ ds) h = and_from _ _ (digit_byte b h.0) (digit_bytes ds h.1)

no_word : (b : ℕ) (rest : List ℕ) → ends (b ∷ rest) ≡ true → is_word_byte b ≡ false
no_word b rest h = not-true (is_word_byte b) (and_parts (not (is_word_byte b)) (not (is_quote b)) h).0

no_quote : (b : ℕ) (rest : List ℕ) → ends (b ∷ rest) ≡ true → is_quote b ≡ false
no_quote b rest h = not-true (is_quote b) (and_parts (not (is_word_byte b)) (not (is_quote b)) h).1

no_digit : (b : ℕ) → is_word_byte b ≡ false → is_ascii_digit b ≡ false
no_digit b h = grind (arith, nat_tests)

digits_end : (rest : List ℕ) → ends rest ≡ true → prefix_len is_ascii_digit rest ≡ 0
digits_end [] h = refl
digits_end (b ∷ rest) h = cond-false (is_ascii_digit b) _ _ (no_digit b (no_word b rest h))

pub words_end : (rest : List ℕ) → ends rest ≡ true → prefix_len is_word_byte rest ≡ 0
words_end [] h = refl
words_end (b ∷ rest) h = cond-false (is_word_byte b) _ _ (no_word b rest h)

pub prefix_all : (p : ℕ → Bool) (bytes rest : List ℕ) → list_all p bytes ≡ true → prefix_len p rest ≡ 0 → prefix_len p (bytes ++ rest) ≡ length bytes
prefix_all p [] rest h e = e
prefix_all p (b ∷ bytes) rest h e =
    let parts = and_parts (p b) (list_all p bytes) h in
    cond-true (p b) _ _ parts.0 ∙ omega (arith, prefix_all p bytes rest parts.1 e)

-- numbers

spelled_found : (ds : List ℕ) (n : ℕ) → spelled ds ≡ Some n → ds ≡ decimal n
spelled_found ds n e =
    let same = if_found (bytes_eq (decimal (number_value ds)) ds) (number_value ds) n e in
    sym ((bytes_eq-Decides (decimal (number_value ds)) ds).0 same.0) ∙ ap decimal same.1

number_found : (t : List ℕ) (n : ℕ) (rest : List ℕ) → number t ≡ got n rest → t ≡ decimal n ++ rest
number_found t n rest e =
    let len = prefix_len is_ascii_digit t in
    seen_found (t ≡ decimal n ++ rest) (spelled (take len t)) (drop len t) n rest e
    (λ is left. sym (take-append-drop len t) ∙ ap₂ (λ f r. f ++ r) (spelled_found (take len t) n is) left)

value_again : (n : ℕ) → n < 2 ^ 64 → number_value (decimal n) ≡ n
value_again n small =
    let least : min n (2 ^ 64 - 1) ≡ n = grind arith in
    ap (λ k. min k (2 ^ 64 - 1)) (decimal_is_IsNumeral n small).1 ∙ least

spelled_again : (n : ℕ) → n < 2 ^ 64 → spelled (decimal n) ≡ Some n
spelled_again n small =
    ap (λ v. if bytes_eq (decimal v) (decimal n) then Some v else None) (value_again n small)
    ∙ cond-true _ _ _ ((bytes_eq-Decides (decimal n) (decimal n)).1 refl)

number_only : (n : ℕ) (rest : List ℕ) → n < 2 ^ 64 → ends rest ≡ true → number (decimal n ++ rest) ≡ got n rest
number_only n rest small e =
    let text = decimal n in
    let len = prefix_all is_ascii_digit text rest (digit_bytes text (decimal_is_IsNumeral n small).0.1) (digits_end rest e) in
    ap₂ (λ k m. seen (spelled (take k (text ++ rest))) (drop m (text ++ rest))) len len
    ∙ ap₂ (λ f r. seen (spelled f) r) (take-append_seam text rest) (drop-append_seam text rest)
    ∙ ap (λ o. seen o rest) (spelled_again n small)

pub numbers_read : ReadsNumbers
numbers_read = record { found = number_found; only = number_only }

-- integers

positive_found : (n : ℕ) (z : ℤ) → positive n ≡ Some z → z ≡ pos n
positive_found n z e = sym (if_found (nat_le n (2 ^ 63 - 1)) (pos n) z e).1

negative_found : (n : ℕ) (z : ℤ) → negative n ≡ Some z → 45 ∷ decimal n ≡ signed_decimal z
negative_found n z e =
    let is = if_found (nat_le 1 n && nat_le n (2 ^ 63)) (negsuc (n - 1)) z e in
    let some : 1 ≤ n = leb-true 1 n (and_parts (nat_le 1 n) (nat_le n (2 ^ 63)) is.0).0 in
    let same : n ≡ suc (n - 1) = omega (arith, some) in
    ap (λ m. 45 ∷ decimal m) same ∙ ap signed_decimal is.1

integer_found : (t : List ℕ) (z : ℤ) (rest : List ℕ) → integer t ≡ got z rest → t ≡ signed_decimal z ++ rest
integer_found t z rest e =
    fork_found (t ≡ signed_decimal z ++ rest) (after (codes "-") t) (λ _ r. onward (number r) (λ n. seen (negative n))) (λ r. onward (number r) (λ n. seen (positive n))) t z rest e
    (λ u r is more.
    step_found (t ≡ signed_decimal z ++ rest) (number r) (λ n. seen (negative n)) z rest more
    (λ n r_2 is_2 more_2.
    seen_found (t ≡ signed_decimal z ++ rest) (negative n) r_2 z rest more_2
    (λ own left.
    after_found (codes "-") t u r is ∙ ap (λ r. 45 ∷ r) (number_found r n r_2 is_2) ∙ ap₂ (λ f r. f ++ r) (negative_found n z own) left)))
    (λ more.
    step_found (t ≡ signed_decimal z ++ rest) (number t) (λ n. seen (positive n)) z rest more
    (λ n r is more_2.
    seen_found (t ≡ signed_decimal z ++ rest) (positive n) r z rest more_2
    (λ own left. number_found t n r is ∙ ap₂ (λ z r. signed_decimal z ++ r) (sym (positive_found n z own)) left)))

no_minus : (b : ℕ) → is_ascii_digit b ≡ true → (b == 45) ≡ false
no_minus b h = grind (arith, nat_tests)

no_minus_before : (ds rest : List ℕ) → 0 < length ds → list_all is_ascii_digit ds ≡ true → after (codes "-") (ds ++ rest) ≡ stuck
no_minus_before [] rest some h = absurd (omega (arith, some))
no_minus_before (b ∷ ds) rest some h =
    ap (λ t. if t && true then passed (ds ++ rest) else stuck) (no_minus b (and_parts (is_ascii_digit b) (list_all is_ascii_digit ds) h).0)

integer_only : (z : ℤ) (rest : List ℕ) → is_integer z ≡ true → ends rest ≡ true → integer (signed_decimal z ++ rest) ≡ got z rest
integer_only (pos n) rest fits e =
    let within : nat_le n (2 ^ 63 - 1) ≡ true = fits in
    let small : n < 2 ^ 64 = omega (arith, leb-true n (2 ^ 63 - 1) within) in
    let numeral = decimal_is_IsNumeral n small in
    ap (λ o. either o (λ _ r. onward (number r) (λ n. seen (negative n))) (λ r. onward (number r) (λ n. seen (positive n))) (decimal n ++ rest))
    (no_minus_before (decimal n) rest numeral.0.0 (digit_bytes (decimal n) numeral.0.1))
    ∙ ap (λ o. onward o (λ n. seen (positive n))) (number_only n rest small e)
    ∙ ap (λ o. seen o rest) (cond-true (nat_le n (2 ^ 63 - 1)) (Some (pos n)) None within)
integer_only (negsuc n) rest fits e =
    let within : nat_le n (2 ^ 63 - 1) ≡ true = (and_parts (nat_le n (2 ^ 63 - 1)) true fits).0 in
    let small : n ≤ 2 ^ 63 - 1 = leb-true n (2 ^ 63 - 1) within in
    let test : (nat_le 1 (suc n) && nat_le (suc n) (2 ^ 63)) ≡ true = and_from _ _ (le-leb 1 (suc n) (omega arith)) (le-leb (suc n) (2 ^ 63) (omega (arith, small))) in
    let less : suc n - 1 ≡ n = omega arith in
    ap (λ o. onward o (λ n. seen (negative n))) (number_only (suc n) rest (omega (arith, small)) e)
    ∙ ap (λ o. seen o rest) (cond-true _ (Some (negsuc (suc n - 1))) None test ∙ ap (λ m. Some (negsuc m)) less)

pub integers_read : ReadsIntegers
integers_read = record { found = integer_found; only = integer_only }

-- strings

-- what a byte of a string is written as, and the quote that ends it
abbrev end_text : Option ℕ → List ℕ
end_text None = 34 ∷ []
end_text (Some b) = quoted_byte b

plain_found : (t : List ℕ) (o : Option ℕ) (rest : List ℕ) → plain_byte t ≡ got o rest → after (codes "\"") t ≡ stuck → t ≡ end_text o ++ rest
plain_found [] o rest h alone = absurd (cc h)
plain_found (b ∷ bytes) o rest h alone = tests (is_printable b) (is_quote b) refl h alone
  where
    tests : (plain quote : Bool) → is_quote b ≡ quote → (if plain then got (Some b) bytes else stuck) ≡ got o rest
        → (if quote && true then passed bytes else stuck) ≡ stuck → b ∷ bytes ≡ end_text o ++ rest
    tests false quote is h alone = absurd (cc h)
    tests true true is h alone = absurd (cc alone)
    tests true false is h alone =
        let own : Some b ≡ o = cc h in
        let left : bytes ≡ rest = cc h in
        ap₂ (λ f r. f ++ r) (sym (cond-false (is_quote b) (34 ∷ 34 ∷ []) (b ∷ []) is) ∙ ap end_text own) left

fork_stuck : {X A : Type 0} (P : Type 0) (o : Outcome X) (next : X → Reader A) (other : Reader A) (t : List ℕ) (a : A) (rest : List ℕ)
    → either o next other t ≡ got a rest
    → ((x : X) (r : List ℕ) → o ≡ got x r → next x r ≡ got a rest → P) → (o ≡ stuck → other t ≡ got a rest → P) → P
fork_stuck P (got x r) next other t a rest e f g = f x r refl e
fork_stuck P stuck next other t a rest e f g = g refl e

string_byte_found : (t : List ℕ) (o : Option ℕ) (rest : List ℕ) → string_byte t ≡ got o rest → t ≡ end_text o ++ rest
string_byte_found t o rest e =
    fork_found (t ≡ end_text o ++ rest) (after (codes "\"\"") t) (λ _. gives (Some 34)) (λ t. either (after (codes "\"") t) (λ _. gives None) plain_byte t) t o rest e
    (λ u r is more.
    let own : Some 34 ≡ o = cc more in
    let left : r ≡ rest = cc more in
    after_found (codes "\"\"") t u r is ∙ ap₂ (λ o r. end_text o ++ r) own left)
    (λ more.
    fork_stuck (t ≡ end_text o ++ rest) (after (codes "\"") t) (λ _. gives None) plain_byte t o rest more
    (λ u r is more_2.
    let own : None ≡ o = cc more_2 in
    let left : r ≡ rest = cc more_2 in
    after_found (codes "\"") t u r is ∙ ap₂ (λ o r. end_text o ++ r) own left)
    (λ alone more_2. plain_found t o rest more_2 alone))

string_found : (n : ℕ) (t bytes rest : List ℕ) → string_by n t ≡ got bytes rest → t ≡ flat_map quoted_byte bytes ++ 34 ∷ rest
unfolding string_by
string_found zero t bytes rest e = absurd (cc e)
string_found (suc n) t bytes rest e =
    step_found (t ≡ flat_map quoted_byte bytes ++ 34 ∷ rest) (string_byte t) (before_more (string_by n)) bytes rest e
    (λ o r is more. string_byte_found t o r is ∙ onward_from (string_found n) o r more)
  where
    onward_from : ((t bytes rest : List ℕ) → string_by n t ≡ got bytes rest → t ≡ flat_map quoted_byte bytes ++ 34 ∷ rest)
        → (o : Option ℕ) (r : List ℕ) → before_more (string_by n) o r ≡ got bytes rest → end_text o ++ r ≡ flat_map quoted_byte bytes ++ 34 ∷ rest
    onward_from again None r more =
        let own : [] ≡ bytes = cc more in
        let left : r ≡ rest = cc more in
        ap₂ (λ bytes r. flat_map quoted_byte bytes ++ 34 ∷ r) own left
    onward_from again (Some b) r more =
        step_found (quoted_byte b ++ r ≡ flat_map quoted_byte bytes ++ 34 ∷ rest) (string_by n r) (λ bytes. gives (b ∷ bytes)) bytes rest more
        (λ others r_2 is more_2.
        let own : b ∷ others ≡ bytes = cc more_2 in
        let left : r_2 ≡ rest = cc more_2 in
        ap (λ r. quoted_byte b ++ r) (again r others r_2 is) ∙ sym (append_assoc (quoted_byte b) (flat_map quoted_byte others) (34 ∷ r_2))
        ∙ ap₂ (λ bytes r. flat_map quoted_byte bytes ++ 34 ∷ r) own left)

texts_found : (t bytes rest : List ℕ) → quoted_bytes t ≡ got bytes rest → t ≡ quoted bytes ++ rest
texts_found t bytes rest e =
    step_found (t ≡ quoted bytes ++ rest) (after (codes "\"") t) (λ _. string_by 1001) bytes rest e
    (λ u r is more.
    after_found (codes "\"") t u r is
    ∙ ap (λ r. 34 ∷ r) (string_found 1001 r bytes rest more ∙ sym (append_assoc (flat_map quoted_byte bytes) (34 ∷ []) rest)))

-- the byte behind a quote that ends a string is no quote

end_read : (rest : List ℕ) → ends rest ≡ true → string_byte (34 ∷ rest) ≡ got None rest
end_read [] e = refl
end_read (b ∷ rest) e =
    ap (λ q. either (if q && true then passed rest else stuck) (λ _. gives (Some 34)) (λ t. either (after (codes "\"") t) (λ _. gives None) plain_byte t) (34 ∷ b ∷ rest)) (no_quote b rest e)

byte_read : (b : ℕ) (rest : List ℕ) → is_printable b ≡ true → string_byte (quoted_byte b ++ rest) ≡ got (Some b) rest
byte_read b rest plain = by_quote (is_quote b) refl
  where
    by_quote : (quote : Bool) → is_quote b ≡ quote → string_byte (quoted_byte b ++ rest) ≡ got (Some b) rest
    by_quote true is =
        ap (λ t. string_byte (t ++ rest)) (cond-true (is_quote b) (34 ∷ 34 ∷ []) (b ∷ []) is) ∙ ap (λ b. got (Some b) rest) (sym (eqb-true b 34 is))
    by_quote false is =
        ap (λ t. string_byte (t ++ rest)) (cond-false (is_quote b) (34 ∷ 34 ∷ []) (b ∷ []) is)
        ∙ ap (λ p. either p (λ _. gives (Some 34)) (λ t. either (after (codes "\"") t) (λ _. gives None) plain_byte t) (b ∷ rest)) (two rest)
        ∙ ap (λ q. either q (λ _. gives None) plain_byte (b ∷ rest)) (one rest)
        ∙ cond-true (is_printable b) (got (Some b) rest) stuck plain
      where
        two : (rest : List ℕ) → after (codes "\"\"") (b ∷ rest) ≡ stuck
        two rest = ap (λ q. if q && bytes_eq (take 1 rest) (34 ∷ []) then passed (drop 1 rest) else stuck) is

        one : (rest : List ℕ) → after (codes "\"") (b ∷ rest) ≡ stuck
        one rest = ap (λ q. if q && true then passed rest else stuck) is

string_only : (n : ℕ) (bytes rest : List ℕ) → list_all is_printable bytes ≡ true → length bytes < n → ends rest ≡ true
    → string_by n (flat_map quoted_byte bytes ++ 34 ∷ rest) ≡ got bytes rest
unfolding string_by
string_only zero bytes rest plain few e = absurd (omega (arith, few))
string_only (suc n) [] rest plain few e = ap (λ o. onward o (before_more (string_by n))) (end_read rest e)
string_only (suc n) (b ∷ bytes) rest plain few e =
    let parts = and_parts (is_printable b) (list_all is_printable bytes) plain in
    let more = flat_map quoted_byte bytes ++ 34 ∷ rest in
    ap (λ t. onward (string_byte t) (before_more (string_by n))) (append_assoc (quoted_byte b) (flat_map quoted_byte bytes) (34 ∷ rest))
    ∙ ap (λ o. onward o (before_more (string_by n))) (byte_read b more parts.0)
    ∙ ap (λ o. onward o (λ bytes. gives (b ∷ bytes))) (string_only n bytes rest parts.1 (omega (arith, few)) e)

texts_only : (bytes rest : List ℕ) → is_text bytes ≡ true → ends rest ≡ true → quoted_bytes (quoted bytes ++ rest) ≡ got bytes rest
texts_only bytes rest fits e =
    let parts = and_parts (nat_le (length bytes) 1000) (list_all is_printable bytes) fits in
    ap (string_by 1001) (append_assoc (flat_map quoted_byte bytes) (34 ∷ []) rest)
    ∙ string_only 1001 bytes rest parts.1 (omega (arith, leb-true (length bytes) 1000 parts.0)) e

pub texts_read : ReadsTexts
texts_read = record { found = texts_found; only = texts_only }

-- values of either type

literal_found : (e : ElemKind) (t : List ℕ) (v : Value) (rest : List ℕ) → literal e t ≡ got v rest → t ≡ literal_text v ++ rest
literal_found Integer t v rest h =
    step_found (t ≡ literal_text v ++ rest) (integer t) (λ z. gives (value.Int z)) v rest h
    (λ z r is more.
    let own : value.Int z ≡ v = cc more in
    let left : r ≡ rest = cc more in
    integer_found t z r is ∙ ap₂ (λ v r. literal_text v ++ r) own left)
literal_found Str t v rest h =
    step_found (t ≡ literal_text v ++ rest) (quoted_bytes t) (λ bytes. gives (value.Text bytes)) v rest h
    (λ bytes r is more.
    let own : value.Text bytes ≡ v = cc more in
    let left : r ≡ rest = cc more in
    texts_found t bytes r is ∙ ap₂ (λ v r. literal_text v ++ r) own left)

literal_only : (e : ElemKind) (v : Value) (rest : List ℕ) → is_value_of e v ≡ true → ends rest ≡ true → literal e (literal_text v ++ rest) ≡ got v rest
literal_only Integer (value.Int z) rest fits e = ap (λ o. onward o (λ z. gives (value.Int z))) (integer_only z rest fits e)
literal_only Integer (value.Text bytes) rest fits e = absurd (cc fits)
literal_only Str (value.Int z) rest fits e = absurd (cc fits)
literal_only Str (value.Text bytes) rest fits e = ap (λ o. onward o (λ bytes. gives (value.Text bytes))) (texts_only bytes rest fits e)

pub literals_read : ReadsValues
literals_read e = record { found = literal_found e; only = literal_only e }

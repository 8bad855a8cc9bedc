-- Bytes with no bad place are printable, and the other way round.
use Rattle.std.specs.Prelude.{◌≡◌, ℕ, ◌+◌, ◌<◌, ◌≤◌, ◌↔◌, nat_lt, if◌then◌else◌, List, length, All, true, Some, None}
use Rattle.std.specs.List.{prefix_len}
use Rattle.std.proofs.Common.{arith, sym, ◌∙◌, true≢false}
use Rattle.std.proofs.lemmas.Bool.Decides.{nat_tests}
use Rattle.std.proofs.lemmas.List.Sums.{prefix_len_passes, prefix_len_stops}
use Rattle.ac_base.specs.Text.{IsPrintable, IsText, is_printable, first_bad_place}

printable_where_tested : (byte : ℕ) → is_printable byte ≡ true → IsPrintable byte
printable_where_tested byte passes = grind (arith, nat_tests)

tested_where_printable : (byte : ℕ) → IsPrintable byte → is_printable byte ≡ true
tested_where_printable byte printable = grind (arith, nat_tests)

whole_where_none : (good all : ℕ) → (if nat_lt good all then Some (good + 1) else None) ≡ None → all ≤ good
whole_where_none good all none = grind (arith, nat_tests)

none_where_whole : (good all : ℕ) → all ≤ good → (if nat_lt good all then Some (good + 1) else None) ≡ None
none_where_whole good all whole = grind (arith, nat_tests)

all_printable : (bytes : List ℕ) → first_bad_place bytes ≡ None → All IsPrintable bytes
all_printable bytes none k d within =
    let whole : length bytes ≤ prefix_len is_printable bytes = whole_where_none _ _ none in
    printable_where_tested _ (prefix_len_passes is_printable bytes k d (omega arith))

pub text_of : (bytes : List ℕ) → first_bad_place bytes ≡ None → length bytes ≤ 1000 → IsText bytes
text_of bytes none within = record { within = within; printable = all_printable bytes none }

-- no byte of a text is bad
no_bad_place : (bytes : List ℕ) → IsText bytes → first_bad_place bytes ≡ None
no_bad_place bytes text =
    let stops = prefix_len_stops is_printable bytes 0 in
    let never : prefix_len is_printable bytes < length bytes → ⊥ =
    λ short. true≢false (sym (tested_where_printable _ (text.printable _ 0 short)) ∙ stops short) in
    none_where_whole _ _ (omega (arith, never))

pub text_exactly : (bytes : List ℕ) → IsText bytes ↔ ((first_bad_place bytes ≡ None) × (length bytes ≤ 1000))
text_exactly bytes = (λ text. (no_bad_place bytes text, text.within), λ good. text_of bytes good.0 good.1)

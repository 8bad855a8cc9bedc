-- What the tests of integers, texts and Capacities decide.
use Rattle.std.proofs.Common.{◌≡◌, ◌+◌, ◌*◌, ◌^◌, ◌==◌, ◌≤◌, ◌<◌, arith, ℕ, zero, suc, ℤ, pos, negsuc, Bool, true, false, ◌||◌, inl, inr, List, length, refl, ap, ◌∙◌, w64, FitsSigned}
use Rattle.std.specs.Prelude.{nat_le}
use Rattle.std.specs.Bool.{Decides}
use Rattle.std.specs.List.{list_all, list_any, range_with_len, All}
use Rattle.std.proofs.Math.Pow.{pow_mono}
use Rattle.std.proofs.lemmas.Bool.{false≢true, cases_eq, cases_lt, eqb-true, eq-eqb, le-leb, leb-true, or_cases}
use Rattle.std.proofs.lemmas.Bool.Decides.{nat_tests, Decides-eqb, Decides-and, Decides-or, Decides-like, Decides-by_and}
use Rattle.ac_base.specs.Text.{IsPrintable, IsText, is_printable}
use Rattle.ac_model.specs.Capacities.{IsPower, IsStep, greatest_capacity}
use Rattle.ac_snapshot.specs.RowValidity.{is_integer, is_text}
use Rattle.ac_snapshot.specs.Validity.{is_step}

-- Integers

pub integer_decided : (z : ℤ) → Decides (is_integer z) (FitsSigned w64 z)
integer_decided (pos n) = (λ h. record { sfits = grind (arith, nat_tests) }, λ fits. let within = fits.sfits in grind (arith, nat_tests))
integer_decided (negsuc n) = (λ h. record { sfits = grind (arith, nat_tests) }, λ fits. let within = fits.sfits in grind (arith, nat_tests))

-- Texts

le_decided : (a b : ℕ) → Decides (nat_le a b) (a ≤ b)
le_decided a b = (leb-true a b, le-leb a b)

printable_decided : (byte : ℕ) → Decides (is_printable byte) (IsPrintable byte)
printable_decided byte = Decides-and (nat_le 32 byte) (nat_le byte 126) (le_decided 32 byte) (le_decided byte 126)

all_printable : (bytes : List ℕ) → Decides (list_all is_printable bytes) (All IsPrintable bytes)
all_printable bytes = Decides-by_and is_printable IsPrintable (list_all is_printable) printable_decided refl (λ _ _. refl) bytes

pub text_decided : (bytes : List ℕ) → Decides (is_text bytes) (IsText bytes)
text_decided bytes =
    Decides-like (is_text bytes)
    (λ both. record { within = both.0; printable = both.1 })
    (λ text. (text.within, text.printable))
    (Decides-and (nat_le (length bytes) 1000) (list_all is_printable bytes) (le_decided (length bytes) 1000) (all_printable bytes))

-- Capacities

abbrev is_power : ℕ → ℕ → Bool
is_power c k = c == 8 * 2 ^ k

power_of : (c from count : ℕ) → from + count ≤ 18 → list_any (is_power c) (range_with_len from count) ≡ true → IsPower c
power_of c from zero within h = absurd (false≢true h)
power_of c from (suc count) within h =
    elim (or_cases (is_power c from) (list_any (is_power c) (range_with_len (from + 1) count)) h) [
      | inl here ↦
          let is = eqb-true c (8 * 2 ^ from) here in
          record { exponent = from; is = is; within = omega (arith, is, pow_mono {i = from} {j = 17} (omega (arith, within))) }
      | inr later ↦ power_of c (from + 1) count (omega (arith, within)) later
    ]

or_right : (a b : Bool) → b ≡ true → (a || b) ≡ true
or_right true b h = refl
or_right false b h = h

or_left : (a b : Bool) → a ≡ true → (a || b) ≡ true
or_left true b h = refl
or_left false b h = absurd (false≢true h)

found_from : (c k from count : ℕ) → c ≡ 8 * 2 ^ k → from ≤ k → k < from + count → list_any (is_power c) (range_with_len from count) ≡ true
found_from c k from zero is above below = absurd (omega (arith, above, below))
found_from c k from (suc count) is above below =
    let more = list_any (is_power c) (range_with_len (from + 1) count) in
    elim (cases_eq k from) [
      | inl same ↦ or_left (is_power c from) more (eq-eqb c (8 * 2 ^ from) (is ∙ ap (λ n. 8 * 2 ^ n) same))
      | inr other ↦ or_right (is_power c from) more (found_from c k (from + 1) count is (omega (arith, above, other)) (omega (arith, below)))
    ]

exponent_below : (c k : ℕ) → c ≡ 8 * 2 ^ k → c ≤ greatest_capacity → k < 18
exponent_below c k is within =
    elim (cases_lt k 18) [
      | inl below ↦ below
      | inr above ↦ absurd (omega (arith, is, within, pow_mono {i = 18} {j = k} above))
    ]

powers_decided : (c : ℕ) → Decides (list_any (is_power c) (range_with_len 0 18)) (IsPower c)
powers_decided c =
    (power_of c 0 18 (omega arith), λ power. found_from c power.exponent 0 18 power.is (omega arith) (exponent_below c power.exponent power.is power.within))

pub step_decided : (c : ℕ) → Decides (is_step c) (IsStep c)
step_decided c = Decides-or (c == 0) (list_any (is_power c) (range_with_len 0 18)) (Decides-eqb c 0) (powers_decided c)

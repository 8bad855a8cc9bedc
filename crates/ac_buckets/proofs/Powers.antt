-- A number with one bit set is a power of two.
use Rattle.std.specs.Prelude.{◌≡◌, ℕ, zero, suc, ◌+◌, ◌*◌, ◌%◌, ◌/◌, ◌^◌, ◌≤◌, ◌⊎◌, ◌≢◌, true, false, eqb, count_ones}
use Rattle.std.proofs.Common.{arith, ap, ◌∙◌, inl, inr}
use Rattle.std.proofs.lemmas.Bool.Decides.{eqb_tells}
use Rattle.std.proofs.lemmas.Nat.{zero_from_ones, ones_le_self, ones_cat}

abbrev IsPower : ℕ → Type 0
IsPower n = (k : ℕ) × (n ≡ 2 ^ k)

-- the bits of a half, and the last bit
last_bit : (n : ℕ) → count_ones n ≡ count_ones (n / 2) + count_ones (n % 2)
last_bit n =
    let whole : n ≡ n / 2 * 2 ^ 1 + n % 2 = omega arith in
    ap count_ones whole ∙ ones_cat 1 (n / 2) (n % 2) (omega arith)

of_one : count_ones 1 ≡ 1
of_one = grind (arith, ones_le_self 1, zero_from_ones 1)

one_bit_by : (n : ℕ) → (count_ones (n / 2) ≡ 1 → IsPower (n / 2)) → count_ones n ≡ 1
    → ((eqb (n % 2) 0 ≡ true) × (n % 2 ≡ 0)) ⊎ ((eqb (n % 2) 0 ≡ false) × (n % 2 ≢ 0)) → IsPower n
one_bit_by n half one (inl (_, even)) =
    let (k, is) = half (omega (arith, last_bit n, ap count_ones even, ones_le_self 0)) in
    (suc k, omega arith)
one_bit_by n half one (inr (_, odd)) =
    let last : n % 2 ≡ 1 = omega arith in
    let none = zero_from_ones (n / 2) (omega (arith, last_bit n, ap count_ones last, of_one)) in
    (0, omega arith)

one_bit : (most n : ℕ) → n ≤ most → count_ones n ≡ 1 → IsPower n
one_bit zero n few one = (0, omega (arith, ones_le_self n))
one_bit (suc most) n few one = one_bit_by n (λ e. one_bit most (n / 2) (omega (arith, ones_le_self n)) e) one (eqb_tells (n % 2) 0)

pub power_with_one_bit : (n : ℕ) → count_ones n ≡ 1 → (k : ℕ) × (n ≡ 2 ^ k)
power_with_one_bit n = one_bit n n (omega arith)

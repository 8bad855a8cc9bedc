-- What a growth makes is the least 8 * 2 ^ k that is enough.
use Rattle.std.proofs.Common.{◌≡◌, ℕ, zero, suc, ◌+◌, ◌-◌, ◌*◌, ◌^◌, ◌<◌, ◌≤◌, true, false, refl, sym, ap, subst, inl, inr, cond, leb, arith}
use Rattle.std.proofs.lemmas.Bool.{cases_lt, leb-true, leb-false}
use Rattle.std.proofs.Math.Nat.{pow-succ'}
use Rattle.ac_base.specs.Growth.{doubled, pow8, IsLeastPow8}

pub power_more : (k : ℕ) → 2 ^ suc k ≡ 2 * 2 ^ k
power_more k = pow-succ' 2 k

power_above : (k : ℕ) → 0 < 2 ^ k
power_above zero = omega arith
power_above (suc k) = omega (arith, power_more k, power_above k)

powers_rise : (a d : ℕ) → 2 ^ a ≤ 2 ^ (a + d)
powers_rise a zero = let same : a + 0 ≡ a = omega arith in let e : 2 ^ (a + 0) ≡ 2 ^ a = ap (λ n. 2 ^ n) same in omega arith
powers_rise a (suc d) = let same : a + suc d ≡ suc (a + d) = omega arith in let e : 2 ^ (a + suc d) ≡ 2 ^ suc (a + d) = ap (λ n. 2 ^ n) same in omega (arith, power_more (a + d), powers_rise a d)

-- of two powers the one above is at least double
pub next_power : (j k : ℕ) → 8 * 2 ^ j < 8 * 2 ^ k → 2 * (8 * 2 ^ j) ≤ 8 * 2 ^ k
next_power j k h = elim (cases_lt j k) [
  | inl lt ↦ let d : (d : ℕ) × (k ≡ suc j + d) = ((k - suc j), omega arith) in
      let up : 2 ^ suc j ≤ 2 ^ k = subst (λ m. 2 ^ suc j ≤ 2 ^ m) (sym d.1) (powers_rise (suc j) d.0) in omega (arith, power_more j)
  | inr le ↦ let d : (d : ℕ) × (j ≡ k + d) = ((j - k), omega arith) in
      let up : 2 ^ k ≤ 2 ^ j = subst (λ m. 2 ^ k ≤ 2 ^ m) (sym d.1) (powers_rise k d.0) in absurd (omega arith)
]

-- s is such a power, and none below it is enough
pub record IsLow (n s : ℕ) : Type 0 where
  pub power : (k : ℕ) × (s ≡ 8 * 2 ^ k)
  pub above : 0 < s
  pub least : (k : ℕ) → n ≤ 8 * 2 ^ k → s ≤ 8 * 2 ^ k

pub IsLow-first : (n : ℕ) → IsLow n 8
IsLow-first n = record { power = (0, omega arith); above = omega arith; least = λ k h. omega (arith, power_above k) }

pub IsLow-more : (n s t : ℕ) → IsLow n s → s < n → t ≡ 2 * s → IsLow n t
IsLow-more n s t h lt e = let j = h.power.0 in let is = h.power.1 in record {
  power = (suc j, omega (arith, power_more j));
  above = omega (arith, h.above);
  least = λ k enough. let up : 2 * (8 * 2 ^ j) ≤ 8 * 2 ^ k = next_power j k (omega arith) in omega arith;
}

pub IsLeastPow8-low : (n s : ℕ) → IsLow n s → n ≤ s → IsLeastPow8 n s
IsLeastPow8-low n s h enough = record { power = h.power; enough = enough; least = h.least }

doubles : (fuel s n : ℕ) → IsLow n s → n ≤ s + fuel → IsLeastPow8 n (doubled fuel s n)
doubles zero s n h enough = IsLeastPow8-low n s h (omega arith)
doubles (suc fuel) s n h enough = elim (leb n s) as (λ b. leb n s ≡ b → IsLeastPow8 n (cond b s (doubled fuel (2 * s) n))) [
  | true ↦ λ e. IsLeastPow8-low n s h (leb-true n s e)
  | false ↦ λ e. let lt = leb-false n s e in doubles fuel (2 * s) n (IsLow-more n s (2 * s) h lt refl) (omega (arith, h.above))
] refl

pub IsLeastPow8-pow8 : (n : ℕ) → IsLeastPow8 n (pow8 n)
unfolding pow8
IsLeastPow8-pow8 n = doubles n 8 n (IsLow-first n) (omega arith)

pub pow8-unique : (n s : ℕ) → IsLeastPow8 n s → s ≡ pow8 n
pow8-unique n s h = let p = IsLeastPow8-pow8 n in
    let a : s ≤ pow8 n = subst (λ m. s ≤ m) (sym p.power.1) (h.least p.power.0 (subst (λ m. n ≤ m) p.power.1 p.enough)) in
    let b : pow8 n ≤ s = subst (λ m. pow8 n ≤ m) (sym h.power.1) (p.least h.power.0 (subst (λ m. n ≤ m) h.power.1 h.enough)) in omega arith

-- a power that is enough bounds the least
pub pow8-within : (n k : ℕ) → n ≤ 8 * 2 ^ k → pow8 n ≤ 8 * 2 ^ k
pow8-within n k h = (IsLeastPow8-pow8 n).least k h

pub pow8-enough : (n : ℕ) → n ≤ pow8 n
pow8-enough n = (IsLeastPow8-pow8 n).enough

pub pow8-rises : (m n : ℕ) → m ≤ n → pow8 m ≤ pow8 n
pow8-rises m n h =
    let p = IsLeastPow8-pow8 n in
    let enough : m ≤ pow8 n = omega (arith, p.enough) in
    subst (λ s. pow8 m ≤ s) (sym p.power.1) (pow8-within m p.power.0 (subst (λ s. m ≤ s) p.power.1 enough))

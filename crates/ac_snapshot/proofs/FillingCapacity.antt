-- What is reserved of a Capacity makes the whole of it.
use Rattle.std.proofs.Common.{◌≡◌, ◌*◌, ◌^◌, ◌<◌, ◌≤◌, arith, ℕ, suc, min, true, false, refl, sym, subst, ◌∙◌, inl, inr}
use Rattle.std.specs.Prelude.{nat_le, nat_lt, if◌then◌else◌}
use Rattle.std.proofs.Math.Pow.{pow_mono}
use Rattle.std.proofs.lemmas.Bool.{cases_lt, cond-false, lt-leb, le-ltb}
use Rattle.ac_base.proofs.Powers.{power_more, pow8-unique}
use Rattle.ac_base.specs.declared.limit.TheConstants.{GREATEST_LENGTH}
use Rattle.ac_base.specs.Growth.{pow8}
use Rattle.ac_model.specs.Capacities.{IsPower}
use Rattle.ac_snapshot.specs.Validity.{is_step}
use Rattle.ac_snapshot.proofs.Decided.{step_decided}

-- no lesser power is enough
least_power : (c j k : ℕ) → c ≡ 8 * 2 ^ k → c ≤ 1048576 → min c GREATEST_LENGTH ≤ 8 * 2 ^ j → c ≤ 8 * 2 ^ j
least_power c j k is most enough = elim (cases_lt j k) [
  | inl below ↦ omega (arith, is, most, enough, power_more j, pow_mono {i = suc j} {j = k} (omega (arith, below)))
  | inr above ↦ omega (arith, is, pow_mono {i = k} {j = j} above)
]

power_reserved : (c : ℕ) → IsPower c → (if nat_le (min c GREATEST_LENGTH) 0 then 0 else pow8 (min c GREATEST_LENGTH)) ≡ c
power_reserved c power =
    let k = power.exponent in
    let some : 2 ^ 0 ≤ 2 ^ k = pow_mono {i = 0} {j = k} (omega arith) in
    let above : 0 < min c GREATEST_LENGTH = omega (arith, power.is, some) in
    let whole : c ≡ pow8 (min c GREATEST_LENGTH) = pow8-unique (min c GREATEST_LENGTH) c (record {
      power = (k, power.is);
      enough = omega arith;
      least = λ j enough. least_power c j k power.is power.within enough;
    }) in
    cond-false _ _ _ (lt-leb (min c GREATEST_LENGTH) 0 above) ∙ sym whole

pub step_reserved : (c : ℕ) → is_step c ≡ true → (if nat_le (min c GREATEST_LENGTH) 0 then 0 else pow8 (min c GREATEST_LENGTH)) ≡ c
step_reserved c h = elim ((step_decided c).0 h) [
  | inl none ↦ subst (λ n. (if nat_le (min n GREATEST_LENGTH) 0 then 0 else pow8 (min n GREATEST_LENGTH)) ≡ n) (sym none) refl
  | inr power ↦ power_reserved c power
]

pub none_past : (c : ℕ) → nat_lt GREATEST_LENGTH (min c GREATEST_LENGTH) ≡ false
none_past c = le-ltb GREATEST_LENGTH (min c GREATEST_LENGTH) (omega arith)

-- How far memory grows: the slots of a pool, and the Capacity that Ada's containers tell (A.18.2, A.18.5, A.18.8).
use Rattle.std.specs.Prelude.{◌≡◌, ℕ, zero, suc, ◌*◌, ◌^◌, ◌≤◌, nat_le, if◌then◌else◌}

-- s doubled until it is not below n, at most fuel times
abbrev pub doubled : ℕ → ℕ → ℕ → ℕ
doubled zero s n = s
doubled (suc fuel) s n = if nat_le n s then s else doubled fuel (2 * s) n

-- the least 8 * 2 ^ k that is not below n
unfoldable pub pow8 : ℕ → ℕ
pow8 n = doubled n 8 n

-- s is the least 8 * 2 ^ k that is not below n
pub record IsLeastPow8 (n s : ℕ) : Type 0 where
  pub power : (k : ℕ) × (s ≡ 8 * 2 ^ k)
  pub enough : n ≤ s
  pub least : (k : ℕ) → n ≤ 8 * 2 ^ k → s ≤ 8 * 2 ^ k

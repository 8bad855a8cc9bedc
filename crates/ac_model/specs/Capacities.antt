-- An object whose Capacity follows a need, and what a Capacity may be.
use Rattle.std.specs.Prelude.{◌≡◌, ◌*◌, ◌^◌, ◌≤◌, ◌⊎◌, ℕ}
use Rattle.ac_model.specs.Objects.{Object, capacity_after}

-- the object after a need of so many elements
abbrev pub widened : {V : Type 0} → Object ℕ V → ℕ → Object ℕ V
widened o need = record o { capacity = capacity_after o.limit o.capacity need }

-- the greatest Capacity that an unbounded object may have: the least 8 * 2 ^ k that is no less than the greatest length
abbrev pub greatest_capacity : ℕ
greatest_capacity = 1048576

-- 8 * 2 ^ k, and no more than the greatest Capacity
pub record IsPower (c : ℕ) : Type 0 where
  pub exponent : ℕ
  pub is : c ≡ 8 * 2 ^ exponent
  pub within : c ≤ greatest_capacity

-- what the Capacity of an unbounded object may be: 0, before anything is asked of it, or such a power
abbrev pub IsStep : ℕ → Type 0
IsStep c = (c ≡ 0) ⊎ IsPower c

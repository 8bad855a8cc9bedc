-- A search takes at most so many steps, where the square of one row more is below a power of two.
use Rattle.std.proofs.Common.{◌+◌, ◌*◌, ◌^◌, ◌<◌, ℕ, inl, inr, arith}
use Rattle.std.proofs.Math.Pow.{pow_mono}
use Rattle.std.proofs.lemmas.Bool.{cases_lt}
use Rattle.ac_balance.specs.Bounds.{TakesAtMost}

pub takes_at_most : (n height : ℕ) → (n + 1) ^ 2 < 2 ^ (height + 1) → TakesAtMost n (2 * height + 2)
takes_at_most n height less before after f = elim (cases_lt height f.height) [
  | inl high ↦ absurd (let up = pow_mono {i = height + 1} {j = f.height} (omega arith) in let low = f.low in omega (arith, up, low, less))
  | inr le ↦ let few = f.few in omega (arith, few, le)
]

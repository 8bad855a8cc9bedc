-- Rows that are in the order of their keys.
use Rattle.std.proofs.Common.{◌≡◌, Bool}
use Rattle.ac_base.specs.Order.{are_level}

-- neither is less, by the keys and by the rows
pub level_rows : {K V : Type 0} (less : K → K → Bool) (key : V → K) (rows : V → V → Bool) → ((v w : V) → rows v w ≡ less (key v) (key w)) → (v w : V) → are_level rows v w ≡ are_level less (key v) (key w)
level_rows less key rows law v w = λ i. are_level (λ x y. law x y i) v w

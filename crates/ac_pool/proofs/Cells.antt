-- What is kept in a cell.
use Rattle.std.proofs.Common.{◌≡◌, ℕ, zero, suc, ◌<◌, List, [], ◌∷◌, length, get_or, replicate, Option, Some, None, refl, arith}
use Rattle.ac_pool.specs.Cell.{serial_of}

pub within : {A : Type 0} (cs : List (Option A)) (i : ℕ) (x : A) → get_or cs i None ≡ Some x → i < length cs
within [] i x e = cc
within (c ∷ cs) zero x e = omega arith
within (c ∷ cs) (suc i) x e = omega (arith, within cs i x e)

pub no_serial : {X : Type 0} (cell : Option (ℕ × X)) → serial_of cell ≡ None → cell ≡ None
no_serial None e = refl
no_serial (Some d) e = cc

-- an empty cell, or none
pub blank_at : {X : Type 0} (m i : ℕ) → get_or (replicate {A = Option X} m None) i None ≡ None
blank_at zero i = refl
blank_at (suc m) zero = refl
blank_at (suc m) (suc i) = blank_at m i

-- A list of one element again and again, with one more at its end.
use Rattle.std.proofs.Common.{◌≡◌, ◌+◌, ℕ, zero, suc, [], ◌∷◌, ◌++◌, replicate, refl, ap, add-one}

more_behind : {A : Type 0} (n : ℕ) (x : A) → x ∷ replicate n x ≡ replicate n x ++ x ∷ []
more_behind zero x = refl
more_behind (suc n) x = ap (λ xs. x ∷ xs) (more_behind n x)

pub replicate_push : {A : Type 0} (n : ℕ) (x : A) → replicate (n + 1) x ≡ replicate n x ++ x ∷ []
replicate_push n x = rw add-one (more_behind n x)

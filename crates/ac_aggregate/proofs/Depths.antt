-- How deep tokens are nested.
use Rattle.std.proofs.Common.{◌≡◌, ◌<◌, ◌≤◌, ℕ, max, nat_lt, Bool, true, false, List, [], ◌∷◌, refl, arith}
use Rattle.std.proofs.lemmas.Bool.{ltb-true, ltb-false, lt-ltb}
use Rattle.ac_syntax.specs.declared.token.Token.{Token}
use Rattle.ac_aggregate.specs.Limits.{open_after, nesting}

-- so many are count at least
at_least : (count : ℕ) (ts : List Token) → count ≤ nesting count ts
at_least count [] = omega arith
at_least count (t ∷ ts) = omega arith

pub deep : (count : ℕ) (ts : List Token) → 16 < count → nat_lt 16 (nesting count ts) ≡ true
deep count ts h = lt-ltb 16 (nesting count ts) (omega (arith, h, at_least count ts))

same_test : (a b : Bool) (m n k : ℕ) → nat_lt m n ≡ a → nat_lt m k ≡ b → (m < n → m < k) → (m < k → m < n) → a ≡ b
same_test true true m n k e f g h = refl
same_test true false m n k e f g h = absurd (omega (arith, ltb-false m k f, g (ltb-true m n e)))
same_test false true m n k e f g h = absurd (omega (arith, ltb-false m n e, h (ltb-true m k f)))
same_test false false m n k e f g h = refl

-- what stands behind a token decides
pub goes_on : (count : ℕ) (t : Token) (ts : List Token) → count ≤ 16 → nat_lt 16 (nesting count (t ∷ ts)) ≡ nat_lt 16 (nesting (open_after count t) ts)
goes_on count t ts h =
    let n : ℕ = nesting (open_after count t) ts in
    same_test (nat_lt 16 (max count n)) (nat_lt 16 n) 16 (max count n) n refl refl (λ g. omega (arith, g, h)) (λ g. omega (arith, g))

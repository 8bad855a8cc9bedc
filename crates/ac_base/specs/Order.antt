-- What an order of values is, and the orders of the integers and of the texts.
use Rattle.std.specs.Prelude.{◌≡◌, ◌&&◌, ℕ, ℤ, Bool, true, false, not, List, nat_eq}
use Rattle.std.specs.Ordering.{int_cmp, nat_cmp, is_lt}
use Rattle.std.specs.Cmp.Lexicographic.{slice_cmp, pointwise}

-- neither is less than the other
abbrev pub IsTied : {A : Type 0} → (A → A → Bool) → A → A → Type 0
IsTied less x y = (less x y ≡ false) × (less y x ≡ false)

-- the same as a test
abbrev pub are_level : {A : Type 0} → (A → A → Bool) → A → A → Bool
are_level less x y = not (less x y) && not (less y x)

-- a strict weak order
pub record IsWeakOrder {A : Type 0} (less : A → A → Bool) : Type 0 where
  pub irreflexive : (x : A) → less x x ≡ false
  pub transitive : (x y z : A) → less x y ≡ true → less y z ≡ true → less x z ≡ true
  pub ties_transitive : (x y z : A) → IsTied less x y → IsTied less y z → IsTied less x z

-- integers are ordered by value
abbrev pub integer_less : ℤ → ℤ → Bool
integer_less x y = is_lt (int_cmp x y)

-- texts are ordered by their bytes: the first that differs decides, and else a front of the other is less
abbrev pub text_less : List ℕ → List ℕ → Bool
text_less x y = is_lt (slice_cmp nat_cmp x y)

-- texts are alike where they have the same bytes
abbrev pub text_alike : List ℕ → List ℕ → Bool
text_alike x y = pointwise nat_eq x y

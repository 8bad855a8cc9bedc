-- Rows that are copied one after another, by their places.
use Rattle.std.proofs.Common.{◌≡◌, ◌+◌, ℕ, zero, suc, List, [], ◌∷◌, ◌++◌, map, take, Some, sym, ap, ◌∙◌, arith}
use Rattle.std.specs.Prelude.{slice_get}
use Rattle.std.proofs.lemmas.Option.{none-some, same_Some}

module _ {A B : Type 0} (f : A → B) where
  one_taken : (xs : List A) (i : ℕ) (a : A) → slice_get xs i ≡ Some a → map f (take i xs) ++ f a ∷ [] ≡ map f (take (suc i) xs)
  one_taken [] i a e = absurd (none-some a e)
  one_taken (x ∷ xs) zero a e = ap (λ b. f b ∷ []) (sym (same_Some x a e))
  one_taken (x ∷ xs) (suc i) a e = ap (λ ys. f x ∷ ys) (one_taken xs i a e)

  -- with the copy of the one at this place
  pub copied_next : (xs : List A) (i : ℕ) (a : A) (now next : List B) (b : B) → slice_get xs i ≡ Some a → now ≡ map f (take i xs) → b ≡ f a →
      next ≡ now ++ b ∷ [] → next ≡ map f (take (i + 1) xs)
  copied_next xs i a now next b at is copy e =
      let one_more : suc i ≡ i + 1 = omega arith in
      e ∙ ((λ j. is j ++ copy j ∷ []) ∙ (one_taken xs i a at ∙ ap (λ n. map f (take n xs)) one_more))

-- What is still to be written of a listing, from a place on.
use Rattle.std.proofs.Common.{◌≡◌, ◌+◌, ℕ, zero, suc, List, [], ◌∷◌, ◌++◌, length, drop, Some, refl, sym, ap, ◌∙◌, arith, nat_eq, ne_eqb}
use Rattle.std.specs.Prelude.{slice_get, codes}
use Rattle.std.proofs.lemmas.Option.{none-some, same_Some}
use Rattle.std.proofs.Math.ListN.{drop_of_length-le}
use Rattle.ac_calls.specs.Listings.{after_commas, separated}
use Rattle.ac_calls.specs.Listed.{comma_at}

module _ {A : Type 0} (text : A → List ℕ) where
  -- the items from a place on
  abbrev pub listed_from : ℕ → List A → List ℕ
  listed_from zero items = separated text items
  listed_from (suc place) items = after_commas text (drop (suc place) items)

  after_one : (items : List A) (i : ℕ) (a : A) → slice_get items i ≡ Some a → after_commas text (drop i items) ≡ (codes ", " ++ text a) ++ after_commas text (drop (suc i) items)
  after_one [] i a e = absurd (none-some a e)
  after_one (b ∷ items) zero a e = ap (λ c. (codes ", " ++ text c) ++ after_commas text items) (same_Some b a e)
  after_one (b ∷ items) (suc i) a e = after_one items i a e

  one_from : (items : List A) (i : ℕ) (a : A) → slice_get items i ≡ Some a → listed_from i items ≡ (comma_at (nat_eq i 0) ++ text a) ++ listed_from (suc i) items
  one_from [] i a e = absurd (none-some a e)
  one_from (b ∷ items) zero a e = ap (λ c. text c ++ after_commas text items) (same_Some b a e)
  one_from (b ∷ items) (suc i) a e =
      after_one (b ∷ items) (suc i) a e
      ∙ ap (λ is_first. (comma_at is_first ++ text a) ++ listed_from (suc (suc i)) (b ∷ items)) (sym (ne_eqb (suc i) 0 (λ same. absurd (omega (arith, same)))))

  pub from_place : (items : List A) (i : ℕ) (a : A) → slice_get items i ≡ Some a → listed_from i items ≡ (comma_at (nat_eq i 0) ++ text a) ++ listed_from (i + 1) items
  from_place items i a e =
      let next : suc i ≡ i + 1 = omega arith in
      one_from items i a e ∙ ap (λ n. (comma_at (nat_eq i 0) ++ text a) ++ listed_from n items) next

  pub at_end : (items : List A) (i : ℕ) → i ≡ length items → listed_from i items ≡ []
  at_end [] zero e = refl
  at_end (a ∷ items) zero e = absurd (omega (arith, e))
  at_end items (suc i) e = ap (after_commas text) (drop_of_length-le items {i = suc i} (omega (arith, e)))

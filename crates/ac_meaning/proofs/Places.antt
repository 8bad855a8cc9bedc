-- What stands in the places of lists.
use Rattle.std.proofs.Common.{◌≡◌, ◌<◌, ◌≤◌, ℕ, zero, suc, List, [], ◌∷◌, map, length, get_or, slice_get, slice_set, refl, sym, ap, subst, ◌∙◌, arith, option_map, Some, None}
use Rattle.std.specs.Prelude.{All}
use Rattle.ac_meaning.proofs.CallsStay.{none_some}

module _ {A : Type 0} where
  pub same_some : (x y : A) → Some x ≡ Some y → x ≡ y
  same_some x y e = cc

  pub all_at : (P : A → Type 0) (xs : List A) (i : ℕ) (x : A) → All P xs → slice_get xs i ≡ Some x → P x
  all_at P [] i x h e = none_some x e
  all_at P (y ∷ xs) zero x h e = subst P (same_some y x e) (h 0 y (omega arith))
  all_at P (y ∷ xs) (suc i) x h e = all_at P xs i x (λ k d l. h (suc k) d (omega (arith, l))) e

  all_first : (P : A → Type 0) (x : A) (xs : List A) → P x → All P xs → All P (x ∷ xs)
  all_first P x xs p h zero d l = p
  all_first P x xs p h (suc k) d l = h k d (omega (arith, l))

  pub all_set : (P : A → Type 0) (xs : List A) (i : ℕ) (y : A) → All P xs → P y → All P (slice_set xs i y)
  all_set P [] i y h p = h
  all_set P (x ∷ xs) zero y h p = all_first P y xs p (λ k d l. h (suc k) d (omega (arith, l)))
  all_set P (x ∷ xs) (suc i) y h p =
      all_first P x (slice_set xs i y) (h 0 x (omega arith)) (all_set P xs i y (λ k d l. h (suc k) d (omega (arith, l))) p)

  pub get_read : (xs : List A) (k : ℕ) (d : A) → k < length xs → slice_get xs k ≡ Some (get_or xs k d)
  get_read [] k d l = absurd (omega (arith, l))
  get_read (x ∷ xs) zero d l = refl
  get_read (x ∷ xs) (suc k) d l = get_read xs k d (omega (arith, l))

  pub all_by : (P : A → Type 0) (xs : List A) → ((k : ℕ) (x : A) → slice_get xs k ≡ Some x → P x) → All P xs
  all_by P xs f k d l = f k (get_or xs k d) (get_read xs k d l)

  pub get_other : (xs : List A) (i j : ℕ) (y : A) → (i ≡ j → ⊥) → slice_get (slice_set xs i y) j ≡ slice_get xs j
  get_other [] i j y n = refl
  get_other (x ∷ xs) zero zero y n = absurd (n refl)
  get_other (x ∷ xs) zero (suc j) y n = refl
  get_other (x ∷ xs) (suc i) zero y n = refl
  get_other (x ∷ xs) (suc i) (suc j) y n = get_other xs i j y (λ e. n (ap suc e))

  pub get_own : (xs : List A) (i : ℕ) (x y : A) → slice_get xs i ≡ Some x → slice_get (slice_set xs i y) i ≡ Some y
  get_own [] i x y e = none_some x e
  get_own (z ∷ xs) zero x y e = refl
  get_own (z ∷ xs) (suc i) x y e = get_own xs i x y e

  pub within : (xs : List A) (i : ℕ) (x : A) → slice_get xs i ≡ Some x → i < length xs
  within [] i x e = none_some x e
  within (z ∷ xs) zero x e = omega arith
  within (z ∷ xs) (suc i) x e = omega (arith, within xs i x e)

  pub found_or : (xs : List A) (i : ℕ) (x d : A) → slice_get xs i ≡ Some x → get_or xs i d ≡ x
  found_or [] i x d e = none_some x e
  found_or (z ∷ xs) zero x d e = same_some z x e
  found_or (z ∷ xs) (suc i) x d e = found_or xs i x d e

  pub length_set : (xs : List A) (i : ℕ) (y : A) → length (slice_set xs i y) ≡ length xs
  length_set [] i y = refl
  length_set (x ∷ xs) zero y = refl
  length_set (x ∷ xs) (suc i) y = ap suc (length_set xs i y)

  -- what stands there already
  pub set_same : (xs : List A) (i : ℕ) (x : A) → slice_get xs i ≡ Some x → slice_set xs i x ≡ xs
  set_same [] i x e = none_some x e
  set_same (z ∷ xs) zero x e = ap (λ y. y ∷ xs) (sym (same_some z x e))
  set_same (z ∷ xs) (suc i) x e = ap (λ ys. z ∷ ys) (set_same xs i x e)

  pub set_twice : (xs : List A) (i : ℕ) (a b : A) → slice_set (slice_set xs i a) i b ≡ slice_set xs i b
  set_twice [] i a b = refl
  set_twice (x ∷ xs) zero a b = refl
  set_twice (x ∷ xs) (suc i) a b = ap (λ ys. x ∷ ys) (set_twice xs i a b)

  -- the first place is set at last
  pub set_around : (xs : List A) (i j : ℕ) (a b c : A) → (i ≡ j → ⊥) →
      slice_set (slice_set (slice_set xs i a) j b) i c ≡ slice_set (slice_set xs i c) j b
  set_around [] i j a b c n = refl
  set_around (x ∷ xs) zero zero a b c n = absurd (n refl)
  set_around (x ∷ xs) zero (suc j) a b c n = refl
  set_around (x ∷ xs) (suc i) zero a b c n = ap (λ ys. b ∷ ys) (set_twice xs i a c)
  set_around (x ∷ xs) (suc i) (suc j) a b c n = ap (λ ys. x ∷ ys) (set_around xs i j a b c (λ e. n (ap suc e)))

  -- what a look at a place finds
  pub seen_there : (xs bs : List A) (i : ℕ) (b x : A) → xs ≡ bs → i < length xs → b ≡ get_or xs i b → b ≡ x → slice_get bs i ≡ Some x
  seen_there xs bs i b x same l e f =
      ap (λ ys. slice_get ys i) (sym same) ∙ (get_read xs i b l ∙ ap (λ y. Some y) (sym e ∙ f))

  get_past : (xs : List A) (i : ℕ) → length xs ≤ i → slice_get xs i ≡ None
  get_past [] i l = refl
  get_past (x ∷ xs) zero l = absurd (omega (arith, l))
  get_past (x ∷ xs) (suc i) l = get_past xs i (omega (arith, l))

  pub seen_past : (xs bs : List A) (i : ℕ) → xs ≡ bs → length xs ≤ i → slice_get bs i ≡ None
  seen_past xs bs i same l = ap (λ ys. slice_get ys i) (sym same) ∙ get_past xs i l

module _ {A B : Type 0} (f : A → B) where
  pub map_set : (xs : List A) (i : ℕ) (x : A) → map f (slice_set xs i x) ≡ slice_set (map f xs) i (f x)
  map_set [] i x = refl
  map_set (y ∷ xs) zero x = refl
  map_set (y ∷ xs) (suc i) x = ap (λ ys. f y ∷ ys) (map_set xs i x)

  pub map_get : (xs : List A) (i : ℕ) → slice_get (map f xs) i ≡ option_map f (slice_get xs i)
  map_get [] i = refl
  map_get (y ∷ xs) zero = refl
  map_get (y ∷ xs) (suc i) = map_get xs i

  -- with something in its place that looks the same
  pub map_same : (xs : List A) (i : ℕ) (old x : A) → slice_get xs i ≡ Some old → f x ≡ f old → map f (slice_set xs i x) ≡ map f xs
  map_same [] i old x e same = refl
  map_same (y ∷ xs) zero old x e same = ap (λ b. b ∷ map f xs) (same ∙ ap f (sym (same_some y old e)))
  map_same (y ∷ xs) (suc i) old x e same = ap (λ ys. f y ∷ ys) (map_same xs i old x e same)

-- In how many rows a name stands, after each change of a list of rows.
use Rattle.std.proofs.Common.{◌≡◌, ◌+◌, ◌≤◌, ◌<◌, ℕ, zero, suc, Bool, true, false, List, [], ◌∷◌, ◌++◌, length, take, drop, reverse, refl, arith, Option, Some, None, if◌then◌else◌}
use Rattle.std.proofs.lemmas.Bool.Decides.{nat_tests}
use Rattle.std.proofs.lemmas.List.{drop-drop, reverse-append}
use Rattle.ac_base.specs.Rows.{Row}
use Rattle.ac_model.specs.Rows.{fresh, cut, put, with_value, with_some_value, over, sorted, sorted_in, merged, merged_in}
use Rattle.ac_model.specs.Objects.{times}

pub times-append : {V : Type 0} (s : ℕ) (xs ys : List (Row ℕ V)) → times s (xs ++ ys) ≡ times s xs + times s ys
times-append s [] ys = grind arith
times-append s (x ∷ xs) ys = omega (arith, times-append s xs ys)

pub times-split : {V : Type 0} (s : ℕ) (n : ℕ) (xs : List (Row ℕ V)) → times s (take n xs) + times s (drop n xs) ≡ times s xs
times-split s zero xs = omega arith
times-split s (suc n) [] = omega arith
times-split s (suc n) (x ∷ xs) = omega (arith, times-split s n xs)

pub times-drop_less : {V : Type 0} (s n : ℕ) (xs : List (Row ℕ V)) → times s (drop n xs) ≤ times s xs
times-drop_less s n xs = omega (arith, times-split s n xs)

pub times-take_less : {V : Type 0} (s n : ℕ) (xs : List (Row ℕ V)) → times s (take n xs) ≤ times s xs
times-take_less s n xs = omega (arith, times-split s n xs)

pub times-drop_more : {V : Type 0} (s n m : ℕ) (xs : List (Row ℕ V)) → times s (drop (n + m) xs) ≤ times s (drop n xs)
times-drop_more s n m xs = rw (← drop-drop m n xs) (times-drop_less s m (drop n xs))

pub times-cut : {V : Type 0} (s : ℕ) (xs : List (Row ℕ V)) (place count : ℕ) → times s (cut xs place count) ≤ times s xs
times-cut s xs place count =
    omega (arith, times-append s (take place xs) (drop (place + count) xs), times-split s place xs, times-drop_more s place count xs)

pub times-put : {V : Type 0} (s : ℕ) (xs : List (Row ℕ V)) (place : ℕ) (more : List (Row ℕ V)) → times s (put xs place more) ≡ times s xs + times s more
times-put s xs place more =
    omega (arith, times-append s (take place xs ++ more) (drop place xs), times-append s (take place xs) more, times-split s place xs)

pub times-reverse : {V : Type 0} (s : ℕ) (xs : List (Row ℕ V)) → times s (reverse xs) ≡ times s xs
times-reverse s [] = refl
times-reverse s (x ∷ xs) = rw (reverse-append (x ∷ []) xs) (omega (arith, times-append s (reverse xs) (x ∷ []), times-reverse s xs))

pub times-fresh_below : {V : Type 0} (s next : ℕ) (vs : List V) → s < next → times s (fresh next vs) ≡ 0
times-fresh_below s next [] h = refl
times-fresh_below s next (v ∷ vs) h = grind (arith, times-fresh_below s (next + 1) vs)

pub times-fresh_above : {V : Type 0} (s next : ℕ) (vs : List V) → next + length vs ≤ s → times s (fresh next vs) ≡ 0
times-fresh_above s next [] h = refl
times-fresh_above s next (v ∷ vs) h = grind (arith, times-fresh_above s (next + 1) vs)

pub times-fresh_once : {V : Type 0} (s next : ℕ) (vs : List V) → times s (fresh next vs) ≤ 1
times-fresh_once s next [] = omega arith
times-fresh_once s next (v ∷ vs) = grind (arith, times-fresh_once s (next + 1) vs, times-fresh_below s (next + 1) vs)

pub times-with_value : {V : Type 0} (s : ℕ) (xs : List (Row ℕ V)) (name : ℕ) (v : V) → times s (with_value xs name v) ≡ times s xs
times-with_value s [] name v = refl
times-with_value s (x ∷ xs) name v = grind (arith, nat_tests, times-with_value s xs name v)

pub times-with_some_value : {V : Type 0} (s : ℕ) (xs : List (Row ℕ V)) (name : ℕ) (v : Option V) → times s (with_some_value xs name v) ≡ times s xs
times-with_some_value s xs name None = refl
times-with_some_value s xs name (Some v) = times-with_value s xs name v

pub times-over : {V : Type 0} (s : ℕ) (xs : List (Row ℕ V)) (vs : List V) → times s (over xs vs) ≡ times s xs
times-over s [] vs = refl
times-over s (x ∷ xs) [] = refl
times-over s (x ∷ xs) (v ∷ vs) = omega (arith, times-over s xs vs)

pub times-sorted_in : {V : Type 0} (less : V → V → Bool) (s : ℕ) (x : Row ℕ V) (xs : List (Row ℕ V)) → times s (sorted_in less x xs) ≡ times s (x ∷ xs)
times-sorted_in less s x [] = refl
times-sorted_in less s x (y ∷ xs) =
    elim (less y.value x.value) as (λ b. times s (if b then y ∷ sorted_in less x xs else x ∷ y ∷ xs) ≡ times s (x ∷ y ∷ xs)) [
      | true ↦ omega (arith, times-sorted_in less s x xs)
      | false ↦ refl
    ]

pub times-sorted : {V : Type 0} (less : V → V → Bool) (s : ℕ) (xs : List (Row ℕ V)) → times s (sorted less xs) ≡ times s xs
times-sorted less s [] = refl
times-sorted less s (x ∷ xs) = omega (arith, times-sorted_in less s x (sorted less xs), times-sorted less s xs)

pub times-merged_in : {V : Type 0} (less : V → V → Bool) (s n : ℕ) (x : Row ℕ V) (rest : List (Row ℕ V) → List (Row ℕ V)) → ((ys : List (Row ℕ V)) → times s (rest ys) ≡ n + times s ys) → (ys : List (Row ℕ V)) → times s (merged_in less x rest ys) ≡ times s (x ∷ []) + n + times s ys
times-merged_in less s n x rest h [] = omega (arith, h [])
times-merged_in less s n x rest h (y ∷ ys) =
    elim (less y.value x.value) as (λ b. times s (if b then y ∷ merged_in less x rest ys else x ∷ rest (y ∷ ys)) ≡ times s (x ∷ []) + n + times s (y ∷ ys)) [
      | true ↦ omega (arith, times-merged_in less s n x rest h ys)
      | false ↦ omega (arith, h (y ∷ ys))
    ]

pub times-merged : {V : Type 0} (less : V → V → Bool) (s : ℕ) (xs ys : List (Row ℕ V)) → times s (merged less xs ys) ≡ times s xs + times s ys
times-merged less s [] ys = omega arith
times-merged less s (x ∷ xs) ys = omega (arith, times-merged_in less s (times s xs) x (merged less xs) (times-merged less s xs) ys)

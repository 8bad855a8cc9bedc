-- How many rows there are after each change of a list of rows.
use Rattle.std.proofs.Common.{◌≡◌, ◌+◌, ◌≤◌, ℕ, suc, Bool, true, false, List, [], ◌∷◌, length, take, drop, refl, ap, arith, Option, Some, None, if◌then◌else◌}
use Rattle.std.proofs.lemmas.List.{length-append, length-drop, length-take, length-map}
use Rattle.ac_base.specs.Rows.{Row, values}
use Rattle.ac_model.specs.Rows.{fresh, cut, with_value, with_some_value, over, sorted, sorted_in, merged, merged_in}

pub length-fresh : {V : Type 0} (next : ℕ) (vs : List V) → length (fresh next vs) ≡ length vs
length-fresh next [] = refl
length-fresh next (v ∷ vs) = ap suc (length-fresh (next + 1) vs)

pub length-cut : {V : Type 0} (xs : List (Row ℕ V)) (place count : ℕ) → length (cut xs place count) ≤ length xs
length-cut xs place count =
    omega (arith, length-append (take place xs) (drop (place + count) xs), length-take place xs, length-drop (place + count) xs)

pub length-with_value : {V : Type 0} (xs : List (Row ℕ V)) (name : ℕ) (v : V) → length (with_value xs name v) ≡ length xs
length-with_value xs name v = simp length-map

pub length-with_some_value : {V : Type 0} (xs : List (Row ℕ V)) (name : ℕ) (v : Option V) → length (with_some_value xs name v) ≡ length xs
length-with_some_value xs name None = refl
length-with_some_value xs name (Some v) = length-with_value xs name v

pub length-over : {V : Type 0} (xs : List (Row ℕ V)) (vs : List V) → length (over xs vs) ≡ length xs
length-over [] vs = refl
length-over (x ∷ xs) [] = refl
length-over (x ∷ xs) (v ∷ vs) = ap suc (length-over xs vs)

pub length-sorted_in : {V : Type 0} (less : V → V → Bool) (x : Row ℕ V) (xs : List (Row ℕ V)) → length (sorted_in less x xs) ≡ suc (length xs)
length-sorted_in less x [] = refl
length-sorted_in less x (y ∷ xs) =
    elim (less y.value x.value) as (λ b. length (if b then y ∷ sorted_in less x xs else x ∷ y ∷ xs) ≡ suc (suc (length xs))) [
      | true ↦ ap suc (length-sorted_in less x xs)
      | false ↦ refl
    ]

pub length-sorted : {V : Type 0} (less : V → V → Bool) (xs : List (Row ℕ V)) → length (sorted less xs) ≡ length xs
length-sorted less [] = refl
length-sorted less (x ∷ xs) = omega (arith, length-sorted_in less x (sorted less xs), length-sorted less xs)

pub length-merged_in : {V : Type 0} (less : V → V → Bool) (n : ℕ) (x : Row ℕ V) (rest : List (Row ℕ V) → List (Row ℕ V)) → ((ys : List (Row ℕ V)) → length (rest ys) ≡ n + length ys) → (ys : List (Row ℕ V)) → length (merged_in less x rest ys) ≡ suc (n + length ys)
length-merged_in less n x rest h [] = ap suc (h [])
length-merged_in less n x rest h (y ∷ ys) =
    elim (less y.value x.value) as (λ b. length (if b then y ∷ merged_in less x rest ys else x ∷ rest (y ∷ ys)) ≡ suc (n + suc (length ys))) [
      | true ↦ omega (arith, length-merged_in less n x rest h ys)
      | false ↦ omega (arith, h (y ∷ ys))
    ]

pub length-merged : {V : Type 0} (less : V → V → Bool) (xs ys : List (Row ℕ V)) → length (merged less xs ys) ≡ length xs + length ys
length-merged less [] ys = omega arith
length-merged less (x ∷ xs) ys = omega (arith, length-merged_in less (length xs) x (merged less xs) (length-merged less xs) ys)

pub length-values : {V : Type 0} (xs : List (Row ℕ V)) → length (values xs) ≡ length xs
length-values xs = simp length-map

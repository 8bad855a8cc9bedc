-- In how many rows a name stands, and how many rows there are, after one row or two have moved.
use Rattle.std.proofs.Common.{◌≡◌, ◌==◌, ◌+◌, ◌≤◌, ℕ, suc, Bool, cond, true, false, ◌||◌, List, [], ◌∷◌, ◌++◌, length, take, drop, map, refl, ap, arith, Some, if◌then◌else◌}
use Rattle.std.proofs.lemmas.Bool.Decides.{nat_tests}
use Rattle.std.proofs.Math.Nat.{suc-add}
use Rattle.std.proofs.lemmas.List.{length-append, length-map, take-append-drop}
use Rattle.ac_base.specs.Rows.{Row}
use Rattle.ac_model.specs.Rows.{cut, put, place_of, named, is_named, with_exchanged_rows}
use Rattle.ac_model.specs.Objects.{times}
use Rattle.ac_model.specs.Lists.{one_row, moved_before}
use Rattle.ac_model.specs.Letters.{Mark, name_of, place_at}
use Rattle.ac_model.proofs.Times.{times-put}

pub times-named : {V : Type 0} (s : ℕ) (xs : List (Row ℕ V)) → is_named xs s ≡ true → 1 ≤ times s xs
times-named s [] h = cc
times-named s (x ∷ xs) h = grind (arith, nat_tests, times-named s xs)

found_step : {V : Type 0} (s : ℕ) (x : Row ℕ V) (xs : List (Row ℕ V)) (b : Bool) → (x.name == s) ≡ b →
    (is_named xs s ≡ true → (r : Row ℕ V) × (named xs s ≡ Some r) × (r.name ≡ s)) →
    (b || is_named xs s) ≡ true → (r : Row ℕ V) × (cond b (Some x) (named xs s) ≡ Some r) × (r.name ≡ s)
found_step s x xs true e later h = (x, refl, grind (arith, nat_tests))
found_step s x xs false e later h = later h

pub found : {V : Type 0} (s : ℕ) (xs : List (Row ℕ V)) → is_named xs s ≡ true → (r : Row ℕ V) × (named xs s ≡ Some r) × (r.name ≡ s)
found s [] h = cc
found s (x ∷ xs) h = found_step s x xs (x.name == s) refl (found s xs) h

pub times-cut_one : {V : Type 0} (t s : ℕ) (xs : List (Row ℕ V)) → times t (cut xs (place_of xs s) 1) + times t (one_row (named xs s)) ≡ times t xs
times-cut_one t s [] = refl
times-cut_one t s (x ∷ xs) =
    elim (x.name == s) as (λ b. times t (cut (x ∷ xs) (if b then 0 else suc (place_of xs s)) 1) + times t (one_row (cond b (Some x) (named xs s))) ≡ times t (x ∷ xs)) [
      | true ↦ omega arith
      | false ↦ rw (suc-add (place_of xs s) 1) (omega (arith, times-cut_one t s xs))
    ]

pub length-cut_one : {V : Type 0} (s : ℕ) (xs : List (Row ℕ V)) → length (cut xs (place_of xs s) 1) + length (one_row (named xs s)) ≡ length xs
length-cut_one s [] = refl
length-cut_one s (x ∷ xs) =
    elim (x.name == s) as (λ b. length (cut (x ∷ xs) (if b then 0 else suc (place_of xs s)) 1) + length (one_row (cond b (Some x) (named xs s))) ≡ length (x ∷ xs)) [
      | true ↦ omega arith
      | false ↦ rw (suc-add (place_of xs s) 1) (omega (arith, length-cut_one s xs))
    ]

pub times-moved : {V : Type 0} (t : ℕ) (xs : List (Row ℕ V)) (before position : Mark) → times t (moved_before xs before position) ≡ times t xs
times-moved t xs before position =
    elim (name_of before == name_of position) as (λ b. times t (if b then xs else put (cut xs (place_at xs position) 1) (place_at (cut xs (place_at xs position) 1) before) (one_row (named xs (name_of position)))) ≡ times t xs) [
      | true ↦ refl
      | false ↦ omega (arith, times-cut_one t (name_of position) xs, times-put t (cut xs (place_at xs position) 1) (place_at (cut xs (place_at xs position) 1) before) (one_row (named xs (name_of position))))
    ]

pub length-put : {V : Type 0} (xs : List (Row ℕ V)) (place : ℕ) (more : List (Row ℕ V)) → length (put xs place more) ≡ length xs + length more
length-put xs place more =
    omega (arith, length-append (take place xs ++ more) (drop place xs), length-append (take place xs) more, length-append (take place xs) (drop place xs), ap length (take-append-drop place xs))

pub length-moved : {V : Type 0} (xs : List (Row ℕ V)) (before position : Mark) → length (moved_before xs before position) ≡ length xs
length-moved xs before position =
    elim (name_of before == name_of position) as (λ b. length (if b then xs else put (cut xs (place_at xs position) 1) (place_at (cut xs (place_at xs position) 1) before) (one_row (named xs (name_of position)))) ≡ length xs) [
      | true ↦ refl
      | false ↦ omega (arith, length-cut_one (name_of position) xs, length-put (cut xs (place_at xs position) 1) (place_at (cut xs (place_at xs position) 1) before) (one_row (named xs (name_of position))))
    ]

pub times-exchanged : {V : Type 0} (t a b : ℕ) (first second : Row ℕ V) (xs : List (Row ℕ V)) → first.name ≡ a → second.name ≡ b →
    times t (map (λ r. if r.name == a then second else if r.name == b then first else r) xs) ≡ times (if t == a then b else if t == b then a else t) xs
times-exchanged t a b first second [] h k = refl
times-exchanged t a b first second (x ∷ xs) h k = grind (arith, nat_tests, times-exchanged t a b first second xs h k)

-- two rows that are there, exchanged
pub times-exchanged_rows : {V : Type 0} (t a b : ℕ) (xs : List (Row ℕ V)) → is_named xs a ≡ true → is_named xs b ≡ true →
    times t (with_exchanged_rows xs a b) ≡ times (if t == a then b else if t == b then a else t) xs
times-exchanged_rows t a b xs h k =
    let first = found a xs h in
    let second = found b xs k in
    rw first.1 (rw second.1 (times-exchanged t a b first.0 second.0 xs first.2 second.2))

pub length-exchanged_rows : {V : Type 0} (xs : List (Row ℕ V)) (a b : ℕ) → length (with_exchanged_rows xs a b) ≡ length xs
length-exchanged_rows xs a b = simp length-map

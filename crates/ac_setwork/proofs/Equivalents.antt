-- How many elements of two sets have an equivalent in the other.
use Rattle.std.proofs.Common.{◌≡◌, ◌||◌, ◌+◌, ◌≤◌, ℕ, suc, Bool, true, false, not, true≢false, List, [], ◌∷◌, length, refl, ap, ◌∙◌, inl, inr, arith, if◌then◌else◌}
use Rattle.std.specs.Prelude.{filter}
use Rattle.std.specs.List.{list_any}
use Rattle.std.specs.Cmp.{IsEquivalence}
use Rattle.std.proofs.lemmas.Bool.{cases_Bool}
use Rattle.ac_base.proofs.Equivalences.{turned}
use Rattle.ac_base.specs.Rows.{Row, values}
use Rattle.ac_model.specs.Keyed.{Order, has}
use Rattle.ac_model.proofs.Counts.{count, count-cons, count_implied, count_step}
use Rattle.ac_model.proofs.KeysDiffer.{Differ}

-- where no value passes both tests
three_counts : {X : Type 0} (p q : X → Bool) → ((x : X) → p x ≡ true → q x ≡ false) → (xs : List X) → length (filter (λ x. not (p x || q x)) xs) + length (filter p xs) ≡ length (filter (λ x. not (q x)) xs)
three_counts p q apart [] = refl
three_counts p q apart (x ∷ xs) =
    let later = three_counts p q apart xs in
    let first = count_step (not (p x || q x)) x (filter (λ y. not (p y || q y)) xs) in
    let second = count_step (p x) x (filter p xs) in
    let third = count_step (not (q x)) x (filter (λ y. not (q y)) xs) in
    let one : ◌≡◌ {A = ℕ} ((if not (p x || q x) then 1 else 0) + (if p x then 1 else 0)) (if not (q x) then 1 else 0) = of_one (p x) (q x) (apart x) in
    omega (arith, later, first, second, third, one)
  where
    of_one : (a b : Bool) → (a ≡ true → b ≡ false) → ◌≡◌ {A = ℕ} ((if not (a || b) then 1 else 0) + (if a then 1 else 0)) (if not b then 1 else 0)
    of_one true true h = absurd (true≢false (h refl))
    of_one true false h = refl
    of_one false true h = refl
    of_one false false h = refl

none_passes : {X : Type 0} (p : X → Bool) (xs : List X) → length (filter p xs) ≡ 0 → list_any p xs ≡ false
none_passes p [] h = refl
none_passes p (x ∷ xs) h =
    let step = count_step (p x) x (filter p xs) in
    elim (cases_Bool (p x)) [
      | inl t ↦ absurd (let one : ◌≡◌ {A = ℕ} (if p x then 1 else 0) 1 = ap (λ b. if b then 1 else 0) t in omega (arith, h, step, one))
      | inr f ↦ ap (λ b. b || list_any p xs) f ∙ none_passes p xs (omega (arith, h, step))
    ]

-- of at most one that passes
one_passes : {V : Type 0} (p : V → Bool) (rows : List (Row ℕ V)) → count p rows ≤ 1 → count p rows ≡ (if list_any p (values rows) then 1 else 0)
one_passes p [] few = refl
one_passes p (r ∷ rows) few =
    let step = count-cons p r rows in
    elim (cases_Bool (p r.value)) [
      | inl t ↦
          let one : ◌≡◌ {A = ℕ} (if p r.value then 1 else 0) 1 = ap (λ b. if b then 1 else 0) t in
          let is : ◌≡◌ {A = ℕ} (if p r.value || list_any p (values rows) then 1 else 0) 1 = ap (λ b. if b || list_any p (values rows) then 1 else 0) t in
          omega (arith, few, step, one, is)
      | inr f ↦
          let none : ◌≡◌ {A = ℕ} (if p r.value then 1 else 0) 0 = ap (λ b. if b then 1 else 0) f in
          let later = one_passes p rows (omega (arith, few, step)) in
          let is : ◌≡◌ {A = ℕ} (if p r.value || list_any p (values rows) then 1 else 0) (if list_any p (values rows) then 1 else 0) = ap (λ b. if b || list_any p (values rows) then 1 else 0) f in
          omega (arith, step, none, later, is)
    ]

if_not : (b : Bool) → ◌≡◌ {A = ℕ} ((if b then 1 else 0) + (if not b then 1 else 0)) 1
if_not true = refl
if_not false = refl

-- as many rows have an equivalent among the values as values have one among the rows
pub as_many : {V : Type 0} (order : Order V) → IsEquivalence order.alike → (rows : List (Row ℕ V)) → Differ order.alike rows → (vs : List V) → ((u : V) → length (filter (λ w. order.alike w u) vs) ≤ 1)
    → length (filter (λ r. not (has order vs r.value)) rows) + length vs ≡ length rows + length (filter (λ v. not (has order (values rows) v)) vs)
as_many order equal rows differ [] few = let all = every rows in omega (arith, all)
  where
    every : {X : Type 0} (xs : List X) → length (filter (λ x. not false) xs) ≡ length xs
    every [] = refl
    every (x ∷ xs) = ap suc (every xs)
as_many {V} order equal rows differ (v ∷ vs) few =
    let p : Row ℕ V → Bool = λ r. order.alike v r.value in
    let q : Row ℕ V → Bool = λ r. has order vs r.value in
    let fewer : (u : V) → length (filter (λ w. order.alike w u) vs) ≤ 1 = λ u. let most = few u in let step = count_step (order.alike v u) v (filter (λ w. order.alike w u) vs) in omega (arith, most, step) in
    let later = as_many order equal rows differ vs fewer in
    let apart : (r : Row ℕ V) → p r ≡ true → q r ≡ false = λ r t.
    let step = count_step (order.alike v r.value) v (filter (λ w. order.alike w r.value) vs) in
    let one : ◌≡◌ {A = ℕ} (if order.alike v r.value then 1 else 0) 1 = ap (λ b. if b then 1 else 0) t in
    none_passes (λ w. order.alike w r.value) vs (let most = few r.value in omega (arith, most, step, one)) in
    let split = three_counts p q apart rows in
    let there : count (λ w. order.alike w v) rows ≡ (if has order (values rows) v then 1 else 0) = one_passes (λ w. order.alike w v) rows (differ v) in
    let one_way = count_implied (λ w. order.alike v w) (λ w. order.alike w v) (λ w h. turned equal v w h) rows in
    let other_way = count_implied (λ w. order.alike w v) (λ w. order.alike v w) (λ w h. turned equal w v h) rows in
    let new = count_step (not (has order (values rows) v)) v (filter (λ w. not (has order (values rows) w)) vs) in
    let either = if_not (has order (values rows) v) in
    omega (arith, later, split, there, one_way, other_way, new, either)

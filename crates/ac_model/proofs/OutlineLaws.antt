-- In an outline every node but the root has a parent.
use Rattle.std.proofs.Common.{◌≡◌, ◌==◌, ◌+◌, ◌-◌, ◌≤◌, ◌<◌, ℕ, zero, suc, Bool, cond, true, false, ◌&&◌, ◌||◌, List, [], ◌∷◌, ◌++◌, length, take, map, reverse, refl, ap, subst, arith, Some, append_assoc, inl, inr}
use Rattle.std.specs.Prelude.{nat_le, find}
use Rattle.std.specs.List.{list_any}
use Rattle.std.proofs.lemmas.Bool.Decides.{nat_tests}
use Rattle.std.proofs.lemmas.Bool.{cases_lt}
use Rattle.std.proofs.lemmas.List.{reverse-append, reverse-reverse, length-map}
use Rattle.ac_base.specs.Rows.{Row}
use Rattle.ac_model.specs.Rows.{Node}
use Rattle.ac_model.specs.Outline.{Spot, root, spot, spots, follows, depths, is_outline, depth_at, HasParent}

any-append : {X : Type 0} (p : X → Bool) (xs ys : List X) → list_any p (xs ++ ys) ≡ (list_any p xs || list_any p ys)
any-append p [] ys = refl
any-append p (x ∷ xs) ys = elim (p x) as (λ b. (b || list_any p (xs ++ ys)) ≡ ((b || list_any p xs) || list_any p ys)) [ true ↦ refl | false ↦ any-append p xs ys ]

or_left : (a b : Bool) → a ≡ true → (a || b) ≡ true
or_left true b h = refl
or_left false b h = cc

or_right : (a b : Bool) → b ≡ true → (a || b) ≡ true
or_right true b h = refl
or_right false b h = h

any_front : {X : Type 0} (p : X → Bool) (xs ys : List X) → list_any p xs ≡ true → list_any p (xs ++ ys) ≡ true
any_front p xs ys h = rw (any-append p xs ys) (or_left (list_any p xs) (list_any p ys) h)

any_back : {X : Type 0} (p : X → Bool) (xs ys : List X) → list_any p ys ≡ true → list_any p (xs ++ ys) ≡ true
any_back p xs ys h = rw (any-append p xs ys) (or_right (list_any p xs) (list_any p ys) h)

in_case : {X : Type 0} (p : X → Bool) (x : X) (xs : List X) (b : Bool) → p x ≡ b → (list_any p xs ≡ true → list_any p (reverse xs) ≡ true) → (b || list_any p xs) ≡ true → list_any p (reverse xs ++ x ∷ []) ≡ true
in_case p x xs true e later h = any_back p (reverse xs) (x ∷ []) (or_left (p x) false e)
in_case p x xs false e later h = any_front p (reverse xs) (x ∷ []) (later h)

any_reverse : {X : Type 0} (p : X → Bool) (xs : List X) → list_any p xs ≡ true → list_any p (reverse xs) ≡ true
any_reverse p [] h = cc
any_reverse p (x ∷ xs) h = rw (reverse-append (x ∷ []) xs) (in_case p x xs (p x) refl (any_reverse p xs) h)

implied_case : {X : Type 0} (p q : X → Bool) → ((x : X) → p x ≡ true → q x ≡ true) → (x : X) (xs : List X) (b : Bool) → p x ≡ b → (list_any p xs ≡ true → list_any q xs ≡ true) → (b || list_any p xs) ≡ true → (q x || list_any q xs) ≡ true
implied_case p q implied x xs true e later h = or_left (q x) (list_any q xs) (implied x e)
implied_case p q implied x xs false e later h = or_right (q x) (list_any q xs) (later h)

any_implied : {X : Type 0} (p q : X → Bool) → ((x : X) → p x ≡ true → q x ≡ true) → (xs : List X) → list_any p xs ≡ true → list_any q xs ≡ true
any_implied p q implied [] h = cc
any_implied p q implied (x ∷ xs) h = implied_case p q implied x xs (p x) refl (any_implied p q implied xs) h

found_case : {X : Type 0} (p : X → Bool) (x : X) (xs : List X) (b : Bool) → p x ≡ b →
    (list_any p xs ≡ true → (y : X) × (find p xs ≡ Some y) × (p y ≡ true) × ((q : X → Bool) → q y ≡ true → list_any q xs ≡ true)) → (b || list_any p xs) ≡ true →
    (y : X) × (cond b (Some x) (find p xs) ≡ Some y) × (p y ≡ true) × ((q : X → Bool) → q y ≡ true → (q x || list_any q xs) ≡ true)
found_case p x xs true e later h = (x, refl, e, λ q k. or_left (q x) (list_any q xs) k)
found_case p x xs false e later h =
    let rest = later h in (rest.0, rest.1, rest.2, λ q k. or_right (q x) (list_any q xs) (rest.3 q k))

-- what find finds passes the test, and is in the list
found_in : {X : Type 0} (p : X → Bool) (xs : List X) → list_any p xs ≡ true → (x : X) × (find p xs ≡ Some x) × (p x ≡ true) × ((q : X → Bool) → q x ≡ true → list_any q xs ≡ true)
found_in p [] h = cc
found_in p (x ∷ xs) h = found_case p x xs (p x) refl (found_in p xs) h

from_reverse : {X : Type 0} (p : X → Bool) (xs : List X) → list_any p (reverse xs) ≡ true → list_any p xs ≡ true
from_reverse p xs h = subst (λ l. list_any p l ≡ true) (reverse-reverse xs) (any_reverse p (reverse xs) h)

is_test : (a b : ℕ) → a ≡ b → (a == b) ≡ true
is_test a b e = grind (arith, nat_tests)

is_same : (a b : ℕ) → (a == b) ≡ true → a ≡ b
is_same a b h = grind (arith, nat_tests)

is_le : (a b : ℕ) → nat_le a b ≡ true → a ≤ b
is_le a b h = grind (arith, nat_tests)

and_left : (a b : Bool) → (a && b) ≡ true → a ≡ true
and_left true b h = refl
and_left false b h = cc

and_right : (a b : Bool) → (a && b) ≡ true → b ≡ true
and_right true b h = h
and_right false b h = cc

-- the depths from 1 to this one all stand among those seen
Reached : List Spot → ℕ → Type 0
Reached seen depth = (e : ℕ) → 1 ≤ e → e ≤ depth → list_any (λ s. s.depth == e) seen ≡ true

spot_depths : List Spot → List ℕ
spot_depths all = map (λ s. s.depth) all

one_deeper : (seen : List Spot) (before : ℕ) (r : Spot) → Reached seen before → r.depth ≤ before + 1 → Reached (seen ++ r ∷ []) r.depth
unfolding Reached
one_deeper seen before r reached le e from to =
    elim (cases_lt before e) [
      | inl below ↦ let same : r.depth ≡ e = omega arith in any_back (λ s. s.depth == e) seen (r ∷ []) (or_left (r.depth == e) false (is_test r.depth e same))
      | inr above ↦ any_front (λ s. s.depth == e) seen (r ∷ []) (reached e from above)
    ]

reaches : (before : ℕ) (seen rest : List Spot) → follows before (spot_depths rest) ≡ true → Reached seen before → (k : ℕ) → k < length rest →
    list_any (λ s. s.depth + 1 == depth_at rest k) (seen ++ take k rest) ≡ true
unfolding spot_depths Reached
reaches before seen [] h reached k below = absurd (omega arith)
reaches before seen (r ∷ rest) h reached zero below =
    let deep : nat_le 2 r.depth ≡ true = and_left (nat_le 2 r.depth) (nat_le r.depth (before + 1)) (and_left (nat_le 2 r.depth && nat_le r.depth (before + 1)) (follows r.depth (spot_depths rest)) h) in
    let near : nat_le r.depth (before + 1) ≡ true = and_right (nat_le 2 r.depth) (nat_le r.depth (before + 1)) (and_left (nat_le 2 r.depth && nat_le r.depth (before + 1)) (follows r.depth (spot_depths rest)) h) in
    let two : 2 ≤ r.depth = is_le 2 r.depth deep in
    let most : r.depth ≤ before + 1 = is_le r.depth (before + 1) near in
    any_front (λ s. s.depth + 1 == r.depth) seen []
    (any_implied (λ s. s.depth == r.depth - 1) (λ s. s.depth + 1 == r.depth)
    (λ s k. let e : s.depth ≡ r.depth - 1 = is_same s.depth (r.depth - 1) k in is_test (s.depth + 1) r.depth (omega arith))
    seen (reached (r.depth - 1) (omega arith) (omega arith)))
reaches before seen (r ∷ rest) h reached (suc k) below =
    let near : nat_le r.depth (before + 1) ≡ true = and_right (nat_le 2 r.depth) (nat_le r.depth (before + 1)) (and_left (nat_le 2 r.depth && nat_le r.depth (before + 1)) (follows r.depth (spot_depths rest)) h) in
    subst (λ l. list_any (λ s. s.depth + 1 == depth_at rest k) l ≡ true) (append_assoc seen (r ∷ []) (take k rest))
    (reaches r.depth (seen ++ r ∷ []) rest (and_right (nat_le 2 r.depth && nat_le r.depth (before + 1)) (follows r.depth (spot_depths rest)) h)
    (one_deeper seen before r reached (is_le r.depth (before + 1) near)) k (omega arith))

same_depths : {T : Type 0} (rows : List (Row ℕ (Node T))) → spot_depths (map spot rows) ≡ depths rows
unfolding spot_depths
same_depths [] = refl
same_depths (r ∷ rows) = ap (λ ds. r.value.depth ∷ ds) (same_depths rows)

root_reached : Reached (root ∷ []) 1
unfolding Reached
root_reached e from to = let one : 1 ≡ e = omega arith in or_left (1 == e) false (is_test 1 e one)

pub has_parent : {T : Type 0} (rows : List (Row ℕ (Node T))) → is_outline rows ≡ true → (place : ℕ) → 0 < place → place ≤ length rows → HasParent (spots rows) place
has_parent rows h zero from to = absurd (omega arith)
has_parent rows h (suc k) from to =
    let all = spots rows in
    let deeper : follows 1 (spot_depths (map spot rows)) ≡ true = rw (same_depths rows) h in
    let len : length (map spot rows) ≡ length rows = simp length-map in
    let is_there = reaches 1 (root ∷ []) (map spot rows) deeper root_reached k (omega arith) in
    let test : Spot → Bool = λ s. s.depth + 1 == depth_at (map spot rows) k in
    let f = found_in test (reverse (take (suc k) all)) (any_reverse test (take (suc k) all) is_there) in
    record {
      parent = f.0;
      is = f.1;
      one_less = is_same (f.0.depth + 1) (depth_at (map spot rows) k) f.2;
      before = from_reverse (λ s. s.name == f.0.name) (take (suc k) all) (f.3 (λ s. s.name == f.0.name) (is_test f.0.name f.0.name refl));
    }

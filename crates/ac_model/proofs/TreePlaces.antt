-- Where the nodes of an outline stand, as lists of depths.
use Rattle.std.proofs.Common.{◌≡◌, ◌==◌, ◌+◌, ◌≤◌, ◌<◌, ℕ, zero, suc, Bool, cond, true, false, ◌||◌, List, [], ◌∷◌, ◌++◌, length, take, drop, map, refl, ap, sym, ◌∙◌, arith, Some, add-one, one-add, if◌then◌else◌}
use Rattle.std.specs.Prelude.{nat_lt, take_while}
use Rattle.std.specs.List.{prefix_len}
use Rattle.std.proofs.lemmas.Bool.Decides.{nat_tests}
use Rattle.std.proofs.lemmas.List.{map-append, take-map, drop-map}
use Rattle.ac_base.specs.Rows.{Row, values}
use Rattle.ac_model.specs.Rows.{Node, fresh, cut, put, place_of, named, is_named}
use Rattle.ac_model.specs.Outline.{spot, spots, depths, depth_at, spot_place, depth_of, run_of, run_start}
use Rattle.std.proofs.Math.Seq.{take-add}
use Rattle.ac_model.proofs.Depths.{ends, ends-append}

ap2 : {X : Type 0} {a b c d : List X} → a ≡ b → c ≡ d → a ++ c ≡ b ++ d
ap2 e f = cc

pub depths_cut : {T : Type 0} (rows : List (Row ℕ (Node T))) (place n : ℕ) → depths (cut rows place n) ≡ take place (depths rows) ++ drop (place + n) (depths rows)
depths_cut rows place n =
    map-append (λ r. r.value.depth) (take place rows) (drop (place + n) rows)
    ∙ ap2 (sym (take-map (λ r. r.value.depth) place rows)) (sym (drop-map (λ r. r.value.depth) (place + n) rows))

pub depths_put : {T : Type 0} (rows more : List (Row ℕ (Node T))) (place : ℕ) → depths (put rows place more) ≡ take place (depths rows) ++ depths more ++ drop place (depths rows)
depths_put rows more place =
    map-append (λ r. r.value.depth) (take place rows ++ more) (drop place rows)
    ∙ ap2 (map-append (λ r. r.value.depth) (take place rows) more ∙ ap (λ l. l ++ depths more) (sym (take-map (λ r. r.value.depth) place rows)))
    (sym (drop-map (λ r. r.value.depth) place rows))

pub depths_fresh : {T : Type 0} (next : ℕ) (vs : List (Node T)) → depths (fresh next vs) ≡ map (λ v. v.depth) vs
depths_fresh next [] = refl
depths_fresh next (v ∷ vs) = ap (λ ds. v.depth ∷ ds) (depths_fresh (next + 1) vs)

pub depths_values : {T : Type 0} (rows : List (Row ℕ (Node T))) → map (λ v. v.depth) (values rows) ≡ depths rows
depths_values [] = refl
depths_values (r ∷ rows) = ap (λ ds. r.value.depth ∷ ds) (depths_values rows)

while_step : {X : Type 0} (p : X → Bool) (x : X) (xs : List X) (b : Bool) → length (take (prefix_len p xs) xs) ≡ prefix_len p xs → length (take (cond b (1 + prefix_len p xs) 0) (x ∷ xs)) ≡ cond b (1 + prefix_len p xs) 0
while_step p x xs true h = rw (one-add (prefix_len p xs)) (ap suc h)
while_step p x xs false h = refl

pub length_while : {X : Type 0} (p : X → Bool) (xs : List X) → length (take_while p xs) ≡ prefix_len p xs
length_while p [] = refl
length_while p (x ∷ xs) = while_step p x xs (p x) (length_while p xs)

prefix_map : {X Y : Type 0} (p : Y → Bool) (f : X → Y) (xs : List X) → prefix_len p (map f xs) ≡ prefix_len (λ x. p (f x)) xs
prefix_map p f [] = refl
prefix_map p f (x ∷ xs) = ap (λ n. cond (p (f x)) (1 + n) 0) (prefix_map p f xs)

pub run_length : {T : Type 0} (rows : List (Row ℕ (Node T))) (name : ℕ) → length (run_of rows name) ≡ prefix_len (λ d. nat_lt (depth_of rows name) d) (drop (run_start rows name) (depths rows))
run_length rows name =
    let deeper : ℕ → Bool = λ d. nat_lt (depth_of rows name) d in
    let start = run_start rows name in
    let left : length (run_of rows name) ≡ prefix_len (λ s. deeper s.depth) (drop (start + 1) (spots rows)) = length_while (λ s. deeper s.depth) (drop (start + 1) (spots rows)) in
    let shorter : drop (start + 1) (spots rows) ≡ map spot (drop start rows) = rw (add-one start) (drop-map spot start rows) in
    left ∙ ap (λ l. prefix_len (λ s. deeper s.depth) l) shorter ∙ prefix_map (λ s. deeper s.depth) spot (drop start rows)
    ∙ sym (ap (λ l. prefix_len deeper l) (drop-map (λ r. r.value.depth) start rows) ∙ prefix_map deeper (λ r. r.value.depth) (drop start rows))

-- where a node stands: its run starts within the rows, and its depth is the last one before
pub record Place {T : Type 0} (rows : List (Row ℕ (Node T))) (name : ℕ) : Type 0 where
  pub within : run_start rows name ≤ length rows
  pub reached : depth_of rows name ≡ ends 1 (take (run_start rows name) (depths rows))

spot_is : {T : Type 0} (rows : List (Row ℕ (Node T))) (name : ℕ) → spot_place (map spot rows) name ≡ place_of rows name
spot_is [] name = refl
spot_is (r ∷ rows) name = ap (λ n. if r.name == name then 0 else suc n) (spot_is rows name)

place_step : {T : Type 0} (r : Row ℕ (Node T)) (rows : List (Row ℕ (Node T))) (name : ℕ) (b : Bool) → (is_named rows name ≡ true → place_of rows name < length rows) → (b || is_named rows name) ≡ true → (if b then 0 else suc (place_of rows name)) < length (r ∷ rows)
place_step r rows name true later h = omega arith
place_step r rows name false later h = let le = later h in omega arith

pub place_within : {T : Type 0} (rows : List (Row ℕ (Node T))) (name : ℕ) → is_named rows name ≡ true → place_of rows name < length rows
place_within [] name h = cc
place_within (r ∷ rows) name h = place_step r rows name (r.name == name) (place_within rows name) h

pub depth_ends : {T : Type 0} (before k : ℕ) (rows : List (Row ℕ (Node T))) → k < length rows → depth_at (map spot rows) k ≡ ends before (take (suc k) (depths rows))
depth_ends before k [] h = absurd (omega arith)
depth_ends before zero (r ∷ rows) h = refl
depth_ends before (suc k) (r ∷ rows) h = depth_ends r.value.depth k rows (omega arith)

place_case : {T : Type 0} (rows : List (Row ℕ (Node T))) (name : ℕ) (b : Bool) → (0 == name) ≡ b → ((name == 0) || is_named rows name) ≡ true → Place rows name
place_case rows name true e h = record {
  within = let start : run_start rows name ≡ 0 = rw e in omega arith;
  reached = let start : run_start rows name ≡ 0 = rw e in rw start;
}
place_case rows name false e h =
    let other : (name == 0) ≡ false = grind (arith, nat_tests) in
    let there : is_named rows name ≡ true = rw other at h in
    let start : run_start rows name ≡ suc (place_of rows name) = rw e (ap suc (spot_is rows name)) in
    let below = place_within rows name there in
    record {
      within = rw start below;
      reached = rw start (depth_ends 1 (place_of rows name) rows below);
    }

pub place_of_node : {T : Type 0} (rows : List (Row ℕ (Node T))) (name : ℕ) → ((name == 0) || is_named rows name) ≡ true → Place rows name
place_of_node rows name h = place_case rows name (0 == name) refl h

-- the rows from a named one on
from_step : {T : Type 0} (x : Row ℕ (Node T)) (rows : List (Row ℕ (Node T))) (name : ℕ) (r : Row ℕ (Node T)) (b : Bool) → (named rows name ≡ Some r → drop (place_of rows name) rows ≡ r ∷ drop (suc (place_of rows name)) rows) →
    cond b (Some x) (named rows name) ≡ Some r → drop (if b then 0 else suc (place_of rows name)) (x ∷ rows) ≡ r ∷ drop (suc (if b then 0 else suc (place_of rows name))) (x ∷ rows)
from_step x rows name r true later h = let is : x ≡ r = cc in ap (λ y. y ∷ rows) is
from_step x rows name r false later h = later h

pub from_named : {T : Type 0} (rows : List (Row ℕ (Node T))) (name : ℕ) (r : Row ℕ (Node T)) → named rows name ≡ Some r → drop (place_of rows name) rows ≡ r ∷ drop (suc (place_of rows name)) rows
from_named [] name r h = cc
from_named (x ∷ rows) name r h = from_step x rows name r (x.name == name) (from_named rows name r) h

pub start_of_named : {T : Type 0} (rows : List (Row ℕ (Node T))) (name : ℕ) → (name == 0) ≡ false → run_start rows name ≡ suc (place_of rows name)
start_of_named rows name other =
    let turned : (0 == name) ≡ false = grind (arith, nat_tests) in rw turned (ap suc (spot_is rows name))

-- the depths from a named row on
pub depths_from : {T : Type 0} (rows : List (Row ℕ (Node T))) (name : ℕ) (r : Row ℕ (Node T)) → named rows name ≡ Some r → drop (place_of rows name) (depths rows) ≡ r.value.depth ∷ drop (suc (place_of rows name)) (depths rows)
depths_from rows name r there =
    drop-map (λ x. x.value.depth) (place_of rows name) rows ∙ ap (λ l. map (λ x. x.value.depth) l) (from_named rows name r there)
    ∙ ap (λ l. r.value.depth ∷ l) (sym (drop-map (λ x. x.value.depth) (suc (place_of rows name)) rows))

pub depth_of_named : {T : Type 0} (rows : List (Row ℕ (Node T))) (name : ℕ) (r : Row ℕ (Node T)) → named rows name ≡ Some r → is_named rows name ≡ true → (name == 0) ≡ false → depth_of rows name ≡ r.value.depth
depth_of_named rows name r there h other =
    let k = place_of rows name in
    let place = place_of_node rows name (rw other h) in
    let start : run_start rows name ≡ k + 1 = start_of_named rows name other ∙ sym (add-one k) in
    let one : take (k + 1) (depths rows) ≡ take k (depths rows) ++ r.value.depth ∷ [] = take-add k 1 (depths rows) ∙ ap (λ l. take k (depths rows) ++ take 1 l) (depths_from rows name r there) in
    place.reached ∙ ap (λ n. ends 1 (take n (depths rows))) start ∙ ap (λ l. ends 1 l) one ∙ ends-append 1 (take k (depths rows)) (r.value.depth ∷ [])

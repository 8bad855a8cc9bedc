-- A splice within a tree keeps it valid: what is moved holds neither the node below which it goes nor the child before which it goes.
use Rattle.std.proofs.Common.{◌≡◌, ◌==◌, ◌+◌, ◌≤◌, ◌<◌, ℕ, zero, suc, Bool, cond, true, false, ◌||◌, List, [], ◌∷◌, length, take, drop, map, refl, ap, sym, ◌∙◌, arith, Option, Some, add-one, zero-add, if◌then◌else◌}
use Rattle.std.specs.Prelude.{nat_lt}
use Rattle.std.proofs.lemmas.List.{drop-map, take-map}
use Rattle.std.proofs.Math.Nat.{suc-add}
use Rattle.ac_base.specs.Rows.{Row}
use Rattle.ac_model.specs.Rows.{Node, cut, place_of, named, is_named}
use Rattle.ac_model.specs.Objects.{times}
use Rattle.ac_model.specs.Outline.{Spot, spot, spots, depth_of, run_of, run_start, is_in}
use Rattle.ac_model.proofs.Depths.{AllFrom}
use Rattle.ac_model.proofs.TreePlaces.{length_while}
use Rattle.ac_model.proofs.Times.{times-take_less, times-drop_less}

-- a row outside of what is cut stays the row of its name
drop_step : {V : Type 0} (x : ℕ) (y : Row ℕ V) (rows : List (Row ℕ V)) (r : Row ℕ V) (m : ℕ) (b : Bool) → (named rows x ≡ Some r → times x (take m rows) ≡ 0 → named (drop m rows) x ≡ Some r) →
    cond b (Some y) (named rows x) ≡ Some r → (if b then 1 else 0) + times x (take m rows) ≡ 0 → named (drop m rows) x ≡ Some r
drop_step x y rows r m true later h none = absurd (omega arith)
drop_step x y rows r m false later h none = later h (omega arith)

named_drop : {V : Type 0} (x m : ℕ) (rows : List (Row ℕ V)) (r : Row ℕ V) → named rows x ≡ Some r → times x (take m rows) ≡ 0 → named (drop m rows) x ≡ Some r
named_drop x zero rows r h none = h
named_drop x (suc m) [] r h none = h
named_drop x (suc m) (y ∷ rows) r h none = drop_step x y rows r m (y.name == x) (named_drop x m rows r) h none

cut_step : {V : Type 0} (y : Row ℕ V) (a b : Option (Row ℕ V)) (r : Row ℕ V) (t : Bool) → (a ≡ Some r → b ≡ Some r) → cond t (Some y) a ≡ Some r → cond t (Some y) b ≡ Some r
cut_step y a b r true later h = h
cut_step y a b r false later h = later h

pub named_cut : {V : Type 0} (x i m : ℕ) (rows : List (Row ℕ V)) (r : Row ℕ V) → named rows x ≡ Some r → times x (take m (drop i rows)) ≡ 0 → named (cut rows i m) x ≡ Some r
named_cut x zero m rows r h none = rw zero-add (named_drop x m rows r h none)
named_cut x (suc i) m [] r h none = cc
named_cut x (suc i) m (y ∷ rows) r h none =
    rw (suc-add i m) (cut_step y (named rows x) (named (cut rows i m) x) r (y.name == x) (λ k. named_cut x i m rows r k none) h)

-- a name stands among the rows of a part where its place is there
in_step : {V : Type 0} (x m : ℕ) (y : Row ℕ V) (rows : List (Row ℕ V)) (b : Bool) → (is_named rows x ≡ true → place_of rows x < m → 1 ≤ times x (take m rows)) → (b || is_named rows x) ≡ true → (if b then 0 else suc (place_of rows x)) < suc m →
    1 ≤ (if b then 1 else 0) + times x (take m rows)
in_step x m y rows true later h k = omega arith
in_step x m y rows false later h k = let le = later h (omega arith) in omega arith

in_front : {V : Type 0} (x m : ℕ) (rows : List (Row ℕ V)) → is_named rows x ≡ true → place_of rows x < m → 1 ≤ times x (take m rows)
in_front x zero rows h k = absurd (omega arith)
in_front x (suc m) [] h k = cc
in_front x (suc m) (y ∷ rows) h k = in_step x m y rows (y.name == x) (in_front x m rows) h k

part_step : {V : Type 0} (x i m : ℕ) (rows : List (Row ℕ V)) (b : Bool) → (is_named rows x ≡ true → i ≤ place_of rows x → place_of rows x < i + m → 1 ≤ times x (take m (drop i rows))) → (b || is_named rows x) ≡ true →
    suc i ≤ (if b then 0 else suc (place_of rows x)) → (if b then 0 else suc (place_of rows x)) < suc i + m → 1 ≤ times x (take m (drop i rows))
part_step x i m rows true later h from to = absurd (omega arith)
part_step x i m rows false later h from to = later h (omega arith) (omega arith)

pub in_part : {V : Type 0} (x i m : ℕ) (rows : List (Row ℕ V)) → is_named rows x ≡ true → i ≤ place_of rows x → place_of rows x < i + m → 1 ≤ times x (take m (drop i rows))
in_part x zero m rows h from to = in_front x m rows h (omega arith)
in_part x (suc i) m [] h from to = cc
in_part x (suc i) m (y ∷ rows) h from to = part_step x i m rows (y.name == x) (in_part x i m rows) h from to

-- and only there
front_step : {V : Type 0} (x m : ℕ) (rows : List (Row ℕ V)) (b : Bool) → (1 ≤ times x (take m rows) → place_of rows x < m) → 1 ≤ (if b then 1 else 0) + times x (take m rows) → (if b then 0 else suc (place_of rows x)) < suc m
front_step x m rows true later h = omega arith
front_step x m rows false later h = let lt = later (omega arith) in omega arith

front_place : {V : Type 0} (x m : ℕ) (rows : List (Row ℕ V)) → 1 ≤ times x (take m rows) → place_of rows x < m
front_place x zero rows h = absurd (omega arith)
front_place x (suc m) [] h = absurd (omega arith)
front_place x (suc m) (y ∷ rows) h = front_step x m rows (y.name == x) (front_place x m rows) h

pub record Within (place i m : ℕ) : Type 0 where
  pub from : i ≤ place
  pub to : place < i + m

place_step : {V : Type 0} (x i m : ℕ) (rows : List (Row ℕ V)) (b : Bool) → (times x rows ≤ 1 → Within (place_of rows x) i m) → 1 ≤ times x rows → (if b then 1 else 0) + times x rows ≤ 1 → Within (if b then 0 else suc (place_of rows x)) (suc i) m
place_step x i m rows true later there once = absurd (omega arith)
place_step x i m rows false later there once = let w = later (omega arith) in record { from = let a = w.from in omega arith; to = let b = w.to in omega arith }

pub part_place : {V : Type 0} (x i m : ℕ) (rows : List (Row ℕ V)) → 1 ≤ times x (take m (drop i rows)) → times x rows ≤ 1 → Within (place_of rows x) i m
part_place x zero m rows h once = let lt = front_place x m rows h in record { from = omega arith; to = omega arith }
part_place x (suc i) zero [] h once = absurd (omega arith)
part_place x (suc i) (suc m) [] h once = absurd (omega arith)
part_place x (suc i) m (y ∷ rows) h once =
    place_step x i m rows (y.name == x) (part_place x i m rows h) (omega (arith, times-take_less x m (drop i rows), times-drop_less x i rows)) once

zero_step : (b later : Bool) (n : ℕ) → (later ≡ false → n ≡ 0) → (b || later) ≡ false → (if b then 1 else 0) + n ≡ 0
zero_step true later n rest h = cc
zero_step false later n rest h = let e = rest h in omega arith

-- the names of a run
pub run_names : {T : Type 0} (rows : List (Row ℕ (Node T))) (name : ℕ) → run_of rows name ≡ map spot (take (length (run_of rows name)) (drop (run_start rows name) rows))
run_names rows name =
    let deeper : Spot → Bool = λ s. nat_lt (depth_of rows name) s.depth in
    let start = run_start rows name in
    let all = drop (start + 1) (spots rows) in
    let n = length (run_of rows name) in
    let tail : all ≡ map spot (drop start rows) = rw (add-one start) (drop-map spot start rows) in
    ap (λ k. take k all) (sym (length_while deeper all)) ∙ ap (λ l. take n l) tail ∙ take-map spot n (drop start rows)

pub not_in_zero : {T : Type 0} (x : ℕ) (rows : List (Row ℕ (Node T))) → is_in x (map spot rows) ≡ false → times x rows ≡ 0
not_in_zero x [] h = refl
not_in_zero x (y ∷ rows) h = zero_step (y.name == x) (is_in x (map spot rows)) (times x rows) (not_in_zero x rows) h

-- a depth within a part all of whose depths are at least this
depth_front : (least n i d : ℕ) (ds rest : List ℕ) → AllFrom least (take n ds) → i < n → drop i ds ≡ d ∷ rest → least ≤ d
depth_front least zero i d ds rest all to is = absurd (omega arith)
depth_front least (suc n) zero d [] rest all to is = cc
depth_front least (suc n) zero d (x ∷ ds) rest all to is = let same : x ≡ d = cc in omega (arith, all.0)
depth_front least (suc n) (suc i) d [] rest all to is = cc
depth_front least (suc n) (suc i) d (x ∷ ds) rest all to is = depth_front least n i d ds rest all.1 (omega arith) is

pub depth_within : (least n s i d : ℕ) (ds rest : List ℕ) → AllFrom least (take n (drop s ds)) → s ≤ i → i < s + n → drop i ds ≡ d ∷ rest → least ≤ d
depth_within least n zero i d ds rest all from to is = depth_front least n i d ds rest all (omega arith) is
depth_within least n (suc s) zero d ds rest all from to is = absurd (omega arith)
depth_within least n (suc s) (suc i) d [] rest all from to is = cc
depth_within least n (suc s) (suc i) d (x ∷ ds) rest all from to is = depth_within least n s i d ds rest all (omega arith) (omega arith) is

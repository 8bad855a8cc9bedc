-- The rows of an outline with some cut, or with others put as children, are an outline.
use Rattle.std.proofs.Common.{◌≡◌, ◌==◌, ◌+◌, ◌≤◌, ℕ, zero, suc, Bool, cond, true, false, ◌&&◌, ◌||◌, List, [], ◌∷◌, ◌++◌, length, take, drop, map, refl, ap, sym, ◌∙◌, subst, arith, Some, add-one, take-append-drop, append_assoc, if◌then◌else◌}
use Rattle.std.specs.Prelude.{nat_lt, filter}
use Rattle.std.specs.List.{list_any, prefix_len}
use Rattle.std.proofs.lemmas.Bool.Decides.{nat_tests}
use Rattle.std.proofs.lemmas.List.{drop-drop, drop-map}
use Rattle.std.proofs.Math.Seq.{take-add}
use Rattle.ac_base.specs.Rows.{Row}
use Rattle.ac_model.specs.Rows.{Node, cut, put, place_of, named}
use Rattle.ac_model.specs.Objects.{times}
use Rattle.ac_model.specs.Outline.{Spot, spot, spots, depths, depth_of, run_of, run_start, children_of, is_in, is_outline, follows}
use Rattle.ac_model.proofs.Depths.{ends, ends-append, ends_from, HeadAtMost, head_weaker, head_follows, AllFrom, first_of, follows_front, follows_back, run_deeper, run_ends, put_follows, cut_follows}
use Rattle.ac_model.proofs.TreePlaces.{Place, depths_cut, depths_put, run_length, from_named}

whole : (place n : ℕ) (ds : List ℕ) → take place ds ++ take n (drop place ds) ++ drop (place + n) ds ≡ ds
whole place n ds =
    rw (← drop-drop n place ds) (append_assoc (take place ds) (take n (drop place ds)) (drop n (drop place ds)) ∙ ap (λ l. take place ds ++ l) (take-append-drop n (drop place ds)) ∙ take-append-drop place ds)

pub cut_outline : {T : Type 0} (rows : List (Row ℕ (Node T))) (place n : ℕ) → is_outline rows ≡ true → HeadAtMost (ends 1 (take place (depths rows)) + 1) (drop (place + n) (depths rows)) → is_outline (cut rows place n) ≡ true
cut_outline rows place n h most =
    let ds = depths rows in
    rw (depths_cut rows place n) (cut_follows (take place ds) (take n (drop place ds)) (drop (place + n) ds) (rw (whole place n ds) h) most)

pub put_outline : {T : Type 0} (rows more : List (Row ℕ (Node T))) (place top : ℕ) → is_outline rows ≡ true → top ≤ ends 1 (take place (depths rows)) → follows top (depths more) ≡ true → AllFrom (top + 1) (depths more) →
    HeadAtMost (top + 1) (drop place (depths rows)) → is_outline (put rows place more) ≡ true
put_outline rows more place top h reach inside all most =
    let ds = depths rows in
    rw (depths_put rows more place) (put_follows top (take place ds) (depths more) (drop place ds) (rw (take-append-drop place ds) h) reach inside all most)

-- what stands right after a node is a run and then something that isn't deeper than the node
pub at_node : {T : Type 0} (rows : List (Row ℕ (Node T))) (name : ℕ) → is_outline rows ≡ true → Place rows name → follows (depth_of rows name) (drop (run_start rows name) (depths rows)) ≡ true
at_node rows name h place =
    let ds = depths rows in
    let start = run_start rows name in
    rw place.reached (follows_back 1 (take start ds) (drop start ds) (rw (take-append-drop start ds) h))

pub after_run : {T : Type 0} (rows : List (Row ℕ (Node T))) (name : ℕ) → HeadAtMost (depth_of rows name) (drop (run_start rows name + length (run_of rows name)) (depths rows))
after_run rows name =
    let ds = depths rows in
    let start = run_start rows name in
    rw (← drop-drop (length (run_of rows name)) start ds) (rw (run_length rows name) (run_ends (depth_of rows name) (drop start ds)))

pub all_weaker : (m n : ℕ) (ds : List ℕ) → m ≤ n → AllFrom n ds → AllFrom m ds
all_weaker m n [] le h = tt
all_weaker m n (d ∷ ds) le h = (let e = h.0 in omega arith, all_weaker m n ds le h.1)

pub run_depths : {T : Type 0} (rows : List (Row ℕ (Node T))) (name : ℕ) → AllFrom (depth_of rows name + 1) (take (length (run_of rows name)) (drop (run_start rows name) (depths rows)))
run_depths rows name = rw (run_length rows name) (run_deeper (depth_of rows name) (drop (run_start rows name) (depths rows)))

pub reached_after : {T : Type 0} (rows : List (Row ℕ (Node T))) (name : ℕ) → Place rows name → depth_of rows name ≤ ends 1 (take (run_start rows name + length (run_of rows name)) (depths rows))
reached_after rows name place =
    let ds = depths rows in
    let start = run_start rows name in
    let n = length (run_of rows name) in
    let top = depth_of rows name in
    let run = take n (drop start ds) in
    let there : ends 1 (take (start + n) ds) ≡ ends top run = rw (take-add start n ds) (ends-append 1 (take start ds) run ∙ ap (λ b. ends b run) (sym place.reached)) in
    rw there (ends_from top top run (omega arith) (all_weaker top (top + 1) run (omega arith) (run_depths rows name)))

ends_least : (before : ℕ) (ds : List ℕ) → 1 ≤ before → follows before ds ≡ true → 1 ≤ ends before ds
ends_least before [] le h = le
ends_least before (d ∷ ds) le h = let f = first_of before d ds h in ends_least d ds (let two = f.from in omega arith) f.later

pub depth_from_one : {T : Type 0} (rows : List (Row ℕ (Node T))) (name : ℕ) → is_outline rows ≡ true → Place rows name → 1 ≤ depth_of rows name
depth_from_one rows name h place =
    let ds = depths rows in
    let start = run_start rows name in
    rw place.reached (ends_least 1 (take start ds) (omega arith) (follows_front 1 (take start ds) (drop start ds) (rw (take-append-drop start ds) h)))

-- new rows put after all that is below a node, or first below it
pub put_last : {T : Type 0} (rows more : List (Row ℕ (Node T))) (name : ℕ) → is_outline rows ≡ true → Place rows name → follows (depth_of rows name) (depths more) ≡ true → AllFrom (depth_of rows name + 1) (depths more) →
    is_outline (put rows (run_start rows name + length (run_of rows name)) more) ≡ true
put_last rows more name h place inside all =
    put_outline rows more (run_start rows name + length (run_of rows name)) (depth_of rows name) h (reached_after rows name place) inside all
    (head_weaker (depth_of rows name) (depth_of rows name + 1) (drop (run_start rows name + length (run_of rows name)) (depths rows)) (omega arith) (after_run rows name))

pub put_first : {T : Type 0} (rows more : List (Row ℕ (Node T))) (name : ℕ) → is_outline rows ≡ true → Place rows name → follows (depth_of rows name) (depths more) ≡ true → AllFrom (depth_of rows name + 1) (depths more) →
    is_outline (put rows (run_start rows name) more) ≡ true
put_first rows more name h place inside all =
    put_outline rows more (run_start rows name) (depth_of rows name) h (let e = place.reached in omega (arith, e)) inside all
    (head_follows (depth_of rows name) (drop (run_start rows name) (depths rows)) (at_node rows name h place))

-- new rows put before a row of the depth of a node's children
pub put_before : {T : Type 0} (rows more : List (Row ℕ (Node T))) (name top : ℕ) (r : Row ℕ (Node T)) → is_outline rows ≡ true → named rows name ≡ Some r → r.value.depth ≡ top + 1 → follows top (depths more) ≡ true → AllFrom (top + 1) (depths more) →
    is_outline (put rows (place_of rows name) more) ≡ true
put_before rows more name top r h there deep inside all =
    let ds = depths rows in
    let place = place_of rows name in
    let from : drop place ds ≡ r.value.depth ∷ map (λ x. x.value.depth) (drop (suc place) rows) = drop-map (λ x. x.value.depth) place rows ∙ ap (λ l. map (λ x. x.value.depth) l) (from_named rows name r there) in
    let behind = follows_back 1 (take place ds) (drop place ds) (rw (take-append-drop place ds) h) in
    let f = first_of (ends 1 (take place ds)) r.value.depth (map (λ x. x.value.depth) (drop (suc place) rows)) (rw from at behind) in
    put_outline rows more place top h (let e = f.to in omega arith) inside all (rw from (omega arith))

or_step : (a b c : Bool) → (b ≡ true → c ≡ true) → (a || b) ≡ true → (a || c) ≡ true
or_step true b c later h = refl
or_step false b c later h = later h

or_more : (a b : Bool) → b ≡ true → (a || b) ≡ true
or_more true b h = refl
or_more false b h = h

kept_step : (a b c : Bool) → (b ≡ true → c ≡ true) → (a || b) ≡ true → ((a && true) || c) ≡ true
kept_step true b c later h = refl
kept_step false b c later h = later h

filter_step : {X : Type 0} (p test : X → Bool) (x : X) (xs : List X) (b : Bool) → (list_any p (filter test xs) ≡ true → list_any (λ y. p y && test y) xs ≡ true) →
    list_any p (cond b (x ∷ filter test xs) (filter test xs)) ≡ true → ((p x && b) || list_any (λ y. p y && test y) xs) ≡ true
filter_step p test x xs true later h = kept_step (p x) (list_any p (filter test xs)) (list_any (λ y. p y && test y) xs) later h
filter_step p test x xs false later h = or_more (p x && false) (list_any (λ y. p y && test y) xs) (later h)

-- a child of a node is a row one deeper
any_take : {X : Type 0} (p : X → Bool) (n : ℕ) (xs : List X) → list_any p (take n xs) ≡ true → list_any p xs ≡ true
any_take p zero xs h = cc
any_take p (suc n) [] h = h
any_take p (suc n) (x ∷ xs) h = or_step (p x) (list_any p (take n xs)) (list_any p xs) (any_take p n xs) h

any_drop : {X : Type 0} (p : X → Bool) (n : ℕ) (xs : List X) → list_any p (drop n xs) ≡ true → list_any p xs ≡ true
any_drop p zero xs h = h
any_drop p (suc n) [] h = h
any_drop p (suc n) (x ∷ xs) h = or_more (p x) (list_any p xs) (any_drop p n xs h)

any_filter : {X : Type 0} (p test : X → Bool) (xs : List X) → list_any p (filter test xs) ≡ true → list_any (λ x. p x && test x) xs ≡ true
any_filter p test [] h = h
any_filter p test (x ∷ xs) h = filter_step p test x xs (test x) (any_filter p test xs) h

there_step : (b c later : Bool) (n : ℕ) → (later ≡ true → 1 ≤ n) → ((b && c) || later) ≡ true → 1 ≤ (if b then 1 else 0) + n
there_step true c later n rest h = omega arith
there_step false c later n rest h = let le = rest h in omega arith

named_there : {T : Type 0} (name top : ℕ) (rows : List (Row ℕ (Node T))) → list_any (λ s. (s.name == name) && (s.depth == top)) (map spot rows) ≡ true → 1 ≤ times name rows
named_there name top [] h = cc
named_there name top (x ∷ rows) h = there_step (x.name == name) (x.value.depth == top) (list_any (λ s. (s.name == name) && (s.depth == top)) (map spot rows)) (times name rows) (named_there name top rows) h

found_step : {T : Type 0} (name top : ℕ) (x : Row ℕ (Node T)) (rows : List (Row ℕ (Node T))) (b c : Bool) → (x.value.depth == top) ≡ c →
    (list_any (λ s. (s.name == name) && (s.depth == top)) (map spot rows) ≡ true → times name rows ≤ 1 → (r : Row ℕ (Node T)) × (named rows name ≡ Some r) × (r.value.depth ≡ top)) →
    ((b && c) || list_any (λ s. (s.name == name) && (s.depth == top)) (map spot rows)) ≡ true → (if b then 1 else 0) + times name rows ≤ 1 →
    (r : Row ℕ (Node T)) × (cond b (Some x) (named rows name) ≡ Some r) × (r.value.depth ≡ top)
found_step name top x rows true true e later h once = (x, refl, grind (arith, nat_tests))
found_step name top x rows true false e later h once = let there = named_there name top rows h in absurd (omega arith)
found_step name top x rows false c e later h once = later h (omega arith)

row_found : {T : Type 0} (name top : ℕ) (rows : List (Row ℕ (Node T))) → list_any (λ s. (s.name == name) && (s.depth == top)) (map spot rows) ≡ true → times name rows ≤ 1 → (r : Row ℕ (Node T)) × (named rows name ≡ Some r) × (r.value.depth ≡ top)
row_found name top [] h once = cc
row_found name top (x ∷ rows) h once = found_step name top x rows (x.name == name) (x.value.depth == top) refl (row_found name top rows) h once

pub child_found : {T : Type 0} (rows : List (Row ℕ (Node T))) (parent name : ℕ) → is_in name (children_of rows parent) ≡ true → times name rows ≤ 1 → (r : Row ℕ (Node T)) × (named rows name ≡ Some r) × (r.value.depth ≡ depth_of rows parent + 1)
child_found rows parent name h once =
    let top = depth_of rows parent + 1 in
    let both : Spot → Bool = λ s. (s.name == name) && (s.depth == top) in
    let start = run_start rows parent in
    let in_run = any_filter (λ s. s.name == name) (λ s. s.depth == top) (run_of rows parent) h in
    let in_rest = any_take both (prefix_len (λ s. nat_lt (depth_of rows parent) s.depth) (drop (start + 1) (spots rows))) (drop (start + 1) (spots rows)) in_run in
    let in_rows : list_any both (drop start (map spot rows)) ≡ true = subst (λ n. list_any both (drop n (spots rows)) ≡ true) (add-one start) in_rest in
    row_found name top rows (any_drop both start (map spot rows) in_rows) once

-- The nodes of a tree whose rows are named from 1 on: where each stands, and where a child of one goes behind which all are deeper.
use Rattle.std.proofs.Common.{◌≡◌, ◌==◌, ◌+◌, ◌≤◌, ◌<◌, ℕ, zero, suc, Bool, true, false, cond, ◌||◌, List, [], ◌∷◌, ◌++◌, length, take, drop, map, refl, ap, ◌∙◌, arith, length-drop, append-nil, subst, if◌then◌else◌}
use Rattle.std.specs.Prelude.{nat_lt}
use Rattle.std.specs.List.{prefix_len}
use Rattle.std.proofs.lemmas.Bool.{or_left, or_right}
use Rattle.std.proofs.lemmas.Bool.Decides.{nat_tests}
use Rattle.std.proofs.lemmas.List.{drop_all, length-map}
use Rattle.std.proofs.Math.Seq.{take-length}
use Rattle.ac_base.specs.Rows.{Row, row}
use Rattle.ac_model.specs.Rows.{Node, fresh, put, is_named}
use Rattle.ac_model.specs.Outline.{spot, spot_place, depths, depth_of, run_of, run_start}
use Rattle.ac_model.proofs.Lengths.{length-fresh}
use Rattle.ac_model.proofs.Depths.{ends, AllFrom}
use Rattle.ac_model.proofs.TreePlaces.{place_of_node, depths_fresh, run_length}
use Rattle.ac_snapshot.proofs.PathsOfOutlines.{IsOpen}

-- a row's place is told by its name

spot_case : (b : Bool) (n m : ℕ) → b ≡ false → n ≡ m → (if b then 0 else suc n) ≡ suc m
spot_case true n m e same = cc
spot_case false n m e same = ap suc same

first_case : (b : Bool) (n : ℕ) → b ≡ true → (if b then 0 else suc n) ≡ 0
first_case true n e = refl
first_case false n e = cc

spot_at : {T : Type 0} (vs : List (Node T)) (next j name : ℕ) → name ≡ next + j → j < length vs → spot_place (map spot (fresh next vs)) name ≡ j
spot_at [] next j name is below = absurd (omega arith)
spot_at (v ∷ vs) next zero name is below =
    first_case (next == name) (spot_place (map spot (fresh (next + 1) vs)) name) (grind (arith, nat_tests))
spot_at (v ∷ vs) next (suc j) name is below =
    spot_case (next == name) (spot_place (map spot (fresh (next + 1) vs)) name) j (grind (arith, nat_tests))
    (spot_at vs (next + 1) j name (omega arith) (omega arith))

named_at : {T : Type 0} (vs : List (Node T)) (next j name : ℕ) → name ≡ next + j → j < length vs → is_named (fresh next vs) name ≡ true
named_at [] next j name is below = absurd (omega arith)
named_at (v ∷ vs) next zero name is below = or_left (next == name) (is_named (fresh (next + 1) vs) name) (grind (arith, nat_tests))
named_at (v ∷ vs) next (suc j) name is below =
    or_right (next == name) (is_named (fresh (next + 1) vs) name) (named_at vs (next + 1) j name (omega arith) (omega arith))

-- the root's name is 0
pub start_of_fresh : {T : Type 0} (vs : List (Node T)) (name : ℕ) → name ≤ length vs → run_start (fresh 1 vs) name ≡ name
start_of_fresh vs zero within = refl
start_of_fresh vs (suc j) within =
    spot_case (0 == suc j) (spot_place (map spot (fresh 1 vs)) (suc j)) j (grind (arith, nat_tests)) (spot_at vs 1 j (suc j) (omega arith) (omega arith))

pub fresh_is_node : {T : Type 0} (vs : List (Node T)) (name : ℕ) → name ≤ length vs → ((name == 0) || is_named (fresh 1 vs) name) ≡ true
fresh_is_node vs zero within = refl
fresh_is_node vs (suc j) within = or_right (suc j == 0) (is_named (fresh 1 vs) (suc j)) (named_at vs 1 j (suc j) (omega arith) (omega arith))

-- where all are deeper, the run goes to the end

all_step : (b : Bool) (n m : ℕ) → b ≡ true → n ≡ m → cond b (1 + n) 0 ≡ suc m
all_step true n m e same = let is : 1 + n ≡ suc m = omega arith in is
all_step false n m e same = cc

all_deeper : (top : ℕ) (ds : List ℕ) → AllFrom (top + 1) ds → prefix_len (λ d. nat_lt top d) ds ≡ length ds
all_deeper top [] h = refl
all_deeper top (d ∷ ds) h =
    let deep : top + 1 ≤ d = h.0 in
    all_step (nat_lt top d) (prefix_len (λ e. nat_lt top e) ds) (length ds) (grind (arith, nat_tests)) (all_deeper top ds h.1)

module _ {T : Type 0} (vs : List (Node T)) (k name : ℕ) (o : IsOpen (map (λ v. v.depth) vs) k name) where
  in_rows : name ≤ length vs
  in_rows = let within = o.within in omega (arith, length-map vs (λ (v : Node T). v.depth))

  pub depth_of_open : depth_of (fresh 1 vs) name ≡ k + 1
  depth_of_open =
      let rows : List (Row ℕ (Node T)) = fresh 1 vs in
      let place = place_of_node rows name (fresh_is_node vs name in_rows) in
      place.reached ∙ ap (λ n. ends 1 (take n (depths rows))) (start_of_fresh vs name in_rows)
      ∙ ap (λ l. ends 1 (take name l)) (depths_fresh 1 vs) ∙ o.reached

  pub open_to_end : run_start (fresh 1 vs) name + length (run_of (fresh 1 vs) name) ≡ length (fresh 1 vs)
  open_to_end =
      let rows : List (Row ℕ (Node T)) = fresh 1 vs in
      let ds : List ℕ = map (λ v. v.depth) vs in
      let start = start_of_fresh vs name in_rows in
      let two : k + 2 ≡ k + 1 + 1 = omega arith in
      let run : length (run_of rows name) ≡ length (drop name ds) =
      run_length rows name ∙ ap (λ n. prefix_len (λ d. nat_lt (depth_of rows name) d) (drop n (depths rows))) start
      ∙ ap (λ l. prefix_len (λ d. nat_lt (depth_of rows name) d) (drop name l)) (depths_fresh 1 vs)
      ∙ ap (λ n. prefix_len (λ d. nat_lt n d) (drop name ds)) depth_of_open ∙ all_deeper (k + 1) (drop name ds) (subst (λ n. AllFrom n (drop name ds)) two o.deeper) in
      let within = o.within in
      omega (arith, run, start, length-drop name ds, length-map vs (λ (v : Node T). v.depth), length-fresh 1 vs)

-- rows put at the end

pub put_at_end : {V : Type 0} (rows more : List (Row ℕ V)) (place : ℕ) → place ≡ length rows → put rows place more ≡ rows ++ more
put_at_end rows more place is =
    ap (λ n. put rows n more) is
    ∙ (λ i. take-length rows i ++ more ++ drop_all (length rows) rows (omega arith) i)
    ∙ append-nil (rows ++ more)

pub fresh_pushed : {V : Type 0} (vs : List V) (next last : ℕ) (v : V) → last ≡ next + length vs → fresh next (vs ++ v ∷ []) ≡ fresh next vs ++ row last v ∷ []
fresh_pushed [] next last v is = let same : next ≡ last = omega arith in ap (λ n. row n v ∷ []) same
fresh_pushed (w ∷ vs) next last v is = ap (λ rows. row next w ∷ rows) (fresh_pushed vs (next + 1) last v (omega arith))

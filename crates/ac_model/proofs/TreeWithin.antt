-- The two splices within a tree keep it valid.
use Rattle.std.proofs.Common.{◌≡◌, ◌==◌, ◌+◌, ◌≤◌, ◌<◌, ℕ, suc, Bool, cond, true, false, not, ◌&&◌, ◌||◌, List, [], ◌∷◌, length, take, drop, map, refl, ap, sym, ◌∙◌, subst, arith, Option, Some, None, one-add, inl, inr, if◌then◌else◌}
use Rattle.std.specs.Prelude.{filter}
use Rattle.std.proofs.lemmas.Bool.Decides.{nat_tests}
use Rattle.std.proofs.lemmas.Bool.{cases_lt}
use Rattle.std.proofs.lemmas.List.{drop-drop, length-append, length-map, take-append-drop}
use Rattle.ac_base.specs.declared.reason.Reason.TheVariants.{NotChild, BelowItself}
use Rattle.ac_base.specs.FirstReason.{first_reason}
use Rattle.ac_base.specs.Rows.{Row}
use Rattle.ac_model.specs.Rows.{Node, cut, put, place_of, named, is_named}
use Rattle.ac_model.specs.Objects.{Object, times, with_rows}
use Rattle.ac_model.specs.Letters.{Mark, name_of, is_no_mark, reason_if, tampers_cursors}
use Rattle.ac_model.specs.Outline.{Spot, spot, IsValidTree, depths, depth_of, run_of, run_start, run_rows, children_of, is_in, is_in_subtree, is_outline, subtree_start, subtree_rows, moved_to_depth}
use Rattle.ac_model.specs.Trees as tree
use Rattle.ac_model.specs.Trees.{KeepsTree, needs_node, may_node, needs_element, is_node, child_or_none, child_place, child_depth}
use Rattle.ac_model.proofs.Reasons.{none_first, none_others, after_two, not_if}
use Rattle.ac_model.proofs.Times.{times-put, times-append, times-split}
use Rattle.ac_model.proofs.Moves.{found, length-put}
use Rattle.ac_model.proofs.Kept.{kept}
use Rattle.ac_model.proofs.Depths.{AllFrom}
use Rattle.ac_model.proofs.TreePlaces.{place_of_node, start_of_named, depths_from, depth_of_named, depths_values, from_named}
use Rattle.ac_model.proofs.TreeOutlines.{put_last, put_before, child_found, run_depths, depth_from_one}
use Rattle.ac_model.proofs.TreeLaws.{Children, Element, node_there, element_there, run_cut, subtree_cut, run_fit, subtree_fit, child_case}
use Rattle.ac_model.proofs.TreeMoves.{Within, named_cut, in_part, part_place, run_names, not_in_zero, depth_within}

times_moved : {T : Type 0} (s from to : ℕ) (rows : List (Row ℕ (Node T))) → times s (moved_to_depth from to rows) ≡ times s rows
times_moved s from to [] = refl
times_moved s from to (r ∷ rows) = omega (arith, times_moved s from to rows)

-- the rows that are cut, and those that are left
times_parts : {V : Type 0} (s k m : ℕ) (rows : List (Row ℕ V)) → times s (cut rows k m) + times s (take m (drop k rows)) ≡ times s rows
times_parts s k m rows =
    let split : times s (drop k rows) ≡ times s (take m (drop k rows)) + times s (drop (k + m) rows) = rw (← drop-drop m k rows) (sym (times-split s m (drop k rows))) in
    omega (arith, split, times-append s (take k rows) (drop (k + m) rows), times-split s k rows)

length_parts : {V : Type 0} (k m : ℕ) (rows : List (Row ℕ V)) → length (cut rows k m) + length (take m (drop k rows)) ≡ length rows
length_parts k m rows =
    let split : length (drop k rows) ≡ length (take m (drop k rows)) + length (drop (k + m) rows) =
    rw (← drop-drop m k rows) (sym (ap length (take-append-drop m (drop k rows))) ∙ length-append (take m (drop k rows)) (drop m (drop k rows))) in
    omega (arith, split, length-append (take k rows) (drop (k + m) rows), ap length (take-append-drop k rows), length-append (take k rows) (drop k rows))

is_step : {V : Type 0} (b : Bool) (y : Row ℕ V) (later : Option (Row ℕ V)) (any : Bool) (r : Row ℕ V) → (later ≡ Some r → any ≡ true) → cond b (Some y) later ≡ Some r → (b || any) ≡ true
is_step true y later any r rest h = refl
is_step false y later any r rest h = rest h

named_is : {V : Type 0} (x : ℕ) (rows : List (Row ℕ V)) (r : Row ℕ V) → named rows x ≡ Some r → is_named rows x ≡ true
named_is x [] r h = cc
named_is x (y ∷ rows) r h = is_step (y.name == x) y (named rows x) (is_named rows x) r (named_is x rows r) h

-- a node outside of what is cut stays at its depth
record Stays {T : Type 0} (rows left : List (Row ℕ (Node T))) (name : ℕ) : Type 0 where
  there : ((name == 0) || is_named left name) ≡ true
  depth : depth_of left name ≡ depth_of rows name

root_stays : {T : Type 0} (rows left : List (Row ℕ (Node T))) (name : ℕ) → (name == 0) ≡ true → depth_of left name ≡ depth_of rows name
root_stays rows left name e = let turned : (0 == name) ≡ true = grind (arith, nat_tests) in rw turned

stays : {T : Type 0} (rows : List (Row ℕ (Node T))) (k m name : ℕ) → (b : Bool) → (name == 0) ≡ b → (b || is_named rows name) ≡ true → times name (take m (drop k rows)) ≡ 0 → Stays rows (cut rows k m) name
stays rows k m name true e h none = record { there = rw e; depth = root_stays rows (cut rows k m) name e }
stays rows k m name false e h none =
    let left = cut rows k m in
    let r = found name rows h in
    let still = named_cut name k m rows r.0 r.1 none in
    let is = named_is name left r.0 still in
    record {
      there = rw (e, is);
      depth = depth_of_named left name r.0 still is e ∙ sym (depth_of_named rows name r.0 r.1 h e);
    }

moved_case : {T : Type 0} (o : Object ℕ (Node T)) (parent before : Mark) (left more : List (Row ℕ (Node T))) → is_outline left ≡ true → Stays o.rows left (name_of parent) → Children (depth_of o.rows (name_of parent)) (depths more) →
    (b : Bool) → is_no_mark before ≡ b → (b ≡ false → (r : Row ℕ (Node T)) × (named left (name_of before) ≡ Some r) × (r.value.depth ≡ depth_of o.rows (name_of parent) + 1)) →
    is_outline (put left (if b then run_start left (name_of parent) + length (run_of left (name_of parent)) else place_of left (name_of before)) more) ≡ true
moved_case o parent before left more outline stay fit true e child =
    let there = subst (λ d. Children d (depths more)) (sym stay.depth) fit in
    put_last left more (name_of parent) outline (place_of_node left (name_of parent) stay.there) there.inside there.all
moved_case o parent before left more outline stay fit false e child =
    let r = child refl in
    put_before left more (name_of before) (depth_of o.rows (name_of parent)) r.0 outline r.1 r.2 fit.inside fit.all

-- rows that are cut and put as children of a node that isn't among them, before a child that isn't either
moved_valid : {T : Type 0} (o : Object ℕ (Node T)) (parent before : Mark) (k m from : ℕ) → IsValidTree o → IsValidTree (with_rows o (cut o.rows k m)) → is_node o (name_of parent) ≡ true →
    times (name_of parent) (take m (drop k o.rows)) ≡ 0 →
    (is_no_mark before ≡ false → (r : Row ℕ (Node T)) × (named (cut o.rows k m) (name_of before) ≡ Some r) × (r.value.depth ≡ depth_of o.rows (name_of parent) + 1)) →
    Children (depth_of o.rows (name_of parent)) (depths (moved_to_depth from (child_depth o.rows parent) (take m (drop k o.rows)))) →
    IsValidTree (with_rows o (put (cut o.rows k m) (child_place (cut o.rows k m) parent before) (moved_to_depth from (child_depth o.rows parent) (take m (drop k o.rows)))))
moved_valid o parent before k m from valid left_valid there none child fit =
    let left = cut o.rows k m in
    let part = take m (drop k o.rows) in
    let more = moved_to_depth from (child_depth o.rows parent) part in
    let place = child_place left parent before in
    let same : length more ≡ length part = simp length-map in
    record {
      as_object = kept o (put left place more) valid.as_object
          (λ s. omega (arith, times-put s left place more, times_moved s from (child_depth o.rows parent) part, times_parts s k m o.rows))
          (omega (arith, length-put left place more, same, length_parts k m o.rows));
      outline = moved_case o parent before left more left_valid.outline (stays o.rows k m (name_of parent) (name_of parent == 0) refl there none) fit (is_no_mark before) refl child;
    }

or_case : (a b c : Bool) → (b ≡ true → c ≡ true) → (a || b) ≡ true → (a || c) ≡ true
or_case true b c later h = refl
or_case false b c later h = later h

or_later : (a b : Bool) → b ≡ true → (a || b) ≡ true
or_later true b h = refl
or_later false b h = h

in_times_step : (b later : Bool) (n : ℕ) → (later ≡ true → 1 ≤ n) → (b || later) ≡ true → 1 ≤ (if b then 1 else 0) + n
in_times_step true later n rest h = omega arith
in_times_step false later n rest h = let le = rest h in omega arith

in_filter_step : (x : ℕ) (s : Spot) (b : Bool) (kept_ones : List Spot) (all : Bool) → (is_in x kept_ones ≡ true → all ≡ true) → is_in x (cond b (s ∷ kept_ones) kept_ones) ≡ true → ((s.name == x) || all) ≡ true
in_filter_step x s true kept_ones all later h = or_case (s.name == x) (is_in x kept_ones) all later h
in_filter_step x s false kept_ones all later h = or_later (s.name == x) all (later h)

in_times : {T : Type 0} (x : ℕ) (rows : List (Row ℕ (Node T))) → is_in x (map spot rows) ≡ true → 1 ≤ times x rows
in_times x [] h = cc
in_times x (y ∷ rows) h = in_times_step (y.name == x) (is_in x (map spot rows)) (times x rows) (in_times x rows) h

in_filter : (x : ℕ) (test : Spot → Bool) (some : List Spot) → is_in x (filter test some) ≡ true → is_in x some ≡ true
in_filter x test [] h = h
in_filter x test (s ∷ some) h = in_filter_step x s (test s) (filter test some) (is_in x some) (in_filter x test some) h

zero_of : (n : ℕ) → n ≤ 0 → n ≡ 0
zero_of n h = omega arith

-- a child stands in the run of its parent
child_within : {T : Type 0} (rows : List (Row ℕ (Node T))) (parent name : ℕ) → is_in name (children_of rows parent) ≡ true → times name rows ≤ 1 → Within (place_of rows name) (run_start rows parent) (length (run_of rows parent))
child_within rows parent name h once =
    let run = take (length (run_of rows parent)) (drop (run_start rows parent) rows) in
    let among : is_in name (run_of rows parent) ≡ true = in_filter name (λ s. s.depth == depth_of rows parent + 1) (run_of rows parent) h in
    let there : is_in name (map spot run) ≡ true = subst (λ l. is_in name l ≡ true) (run_names rows parent) among in
    part_place name (run_start rows parent) (length (run_of rows parent)) rows (in_times name run there) once

outside_step : {T : Type 0} (o : Object ℕ (Node T)) (parent name start m deep : ℕ) → IsValidTree o → is_in name (children_of o.rows parent) ≡ true →
    AllFrom (deep + 1) (take m (drop start (depths o.rows))) → (run_start o.rows parent < start → start ≤ place_of o.rows name → depth_of o.rows parent + 1 ≤ deep) →
    (start < run_start o.rows parent → run_start o.rows parent ≤ place_of o.rows name → place_of o.rows name < start + m → ⊥) → (run_start o.rows parent ≡ start → ⊥) →
    Within (place_of o.rows name) start m → ⊥
outside_step o parent name start m deep valid child all before after apart w =
    let rows = o.rows in
    let j = place_of rows name in
    let once = valid.as_object.names_differ name in
    let r = child_found rows parent name child once in
    let own = child_within rows parent name child once in
    let deeper : deep + 1 ≤ r.0.value.depth = depth_within (deep + 1) m start j r.0.value.depth (depths rows) (drop (suc j) (depths rows)) all w.from w.to (depths_from rows name r.0 r.1) in
    elim (cases_lt (run_start rows parent) start) [
      | inl less ↦ let le = before less w.from in omega (arith, le, deeper, r.2)
      | inr more ↦ elim (cases_lt start (run_start rows parent)) [
        | inl greater ↦ after greater own.from w.to
        | inr least ↦ apart (omega arith)
      ]
    ]

-- a child of a node that isn't in a run isn't in that run either, but for the case that the runs begin together
child_outside : {T : Type 0} (o : Object ℕ (Node T)) (parent name start m deep : ℕ) → IsValidTree o → is_in name (children_of o.rows parent) ≡ true →
    AllFrom (deep + 1) (take m (drop start (depths o.rows))) → (run_start o.rows parent < start → start ≤ place_of o.rows name → depth_of o.rows parent + 1 ≤ deep) →
    (start < run_start o.rows parent → run_start o.rows parent ≤ place_of o.rows name → place_of o.rows name < start + m → ⊥) → (run_start o.rows parent ≡ start → ⊥) →
    times name (take m (drop start o.rows)) ≡ 0
child_outside o parent name start m deep valid child all before after apart =
    elim (cases_lt 0 (times name (take m (drop start o.rows)))) [
      | inl there ↦ absurd (outside_step o parent name start m deep valid child all before after apart (part_place name start m o.rows there (valid.as_object.names_differ name)))
      | inr none ↦ zero_of (times name (take m (drop start o.rows))) none
    ]

run_none : {T : Type 0} (rows : List (Row ℕ (Node T))) (top name : ℕ) → is_in name (run_of rows top) ≡ false → times name (take (length (run_of rows top)) (drop (run_start rows top) rows)) ≡ 0
run_none rows top name h =
    not_in_zero name (take (length (run_of rows top)) (drop (run_start rows top) rows)) (subst (λ l. is_in name l ≡ false) (run_names rows top) h)

or_parts : (a b : Bool) → (a || b) ≡ false → (a ≡ false) × (b ≡ false)
or_parts true b h = cc
or_parts false b h = (refl, h)

-- a node with a run that begins past 0 isn't the root
not_root_by : {T : Type 0} (rows : List (Row ℕ (Node T))) (name : ℕ) (b : Bool) → (name == 0) ≡ b → 0 < run_start rows name → b ≡ false
not_root_by rows name true e h =
    let turned : (0 == name) ≡ true = grind (arith, nat_tests) in
    let start : run_start rows name ≡ 0 = rw turned in absurd (omega arith)
not_root_by rows name false e h = refl

there_if_not_root : (a b : Bool) → a ≡ false → (a || b) ≡ true → b ≡ true
there_if_not_root true b e h = cc
there_if_not_root false b e h = h

-- a node that isn't among the rows of a part has no place there
absent_place : {T : Type 0} (o : Object ℕ (Node T)) (name i m : ℕ) → is_node o name ≡ true → times name (take m (drop i o.rows)) ≡ 0 → i < run_start o.rows name → run_start o.rows name ≤ i + m → ⊥
absent_place o name i m there none from to =
    let other = not_root_by o.rows name (name == 0) refl (omega arith) in
    let start = start_of_named o.rows name other in
    let le = in_part name i m o.rows (there_if_not_root (name == 0) (is_named o.rows name) other there) (omega (arith, start)) (omega (arith, start)) in
    omega (arith, le)

-- the part of a subtree: its top, and its run
top_and_run : {T : Type 0} (o : Object ℕ (Node T)) (top x : ℕ) → Element o top → (top == x) ≡ false → times x (take (length (run_of o.rows top)) (drop (run_start o.rows top) o.rows)) ≡ 0 →
    times x (take (1 + length (run_of o.rows top)) (drop (place_of o.rows top) o.rows)) ≡ 0
top_and_run o top x element other none =
    let k = place_of o.rows top in
    let n = length (run_of o.rows top) in
    let r = found top o.rows element.there in
    let start : run_start o.rows top ≡ suc k = start_of_named o.rows top element.not_root in
    let run_none : times x (take n (drop (suc k) o.rows)) ≡ 0 = subst (λ m. times x (take n (drop m o.rows)) ≡ 0) start none in
    let differs : (r.0.name == x) ≡ false = subst (λ m. (m == x) ≡ false) (sym r.2) other in
    let weight : ◌≡◌ {A = ℕ} (if r.0.name == x then 1 else 0) 0 = rw differs in
    rw (one-add n) (rw (from_named o.rows top r.0 r.1) (omega (arith, weight, run_none)))

other_way : (a b : ℕ) → (a == b) ≡ false → (b == a) ≡ false
other_way a b h = grind (arith, nat_tests)

subtree_child : {T : Type 0} (o : Object ℕ (Node T)) (parent before top : Mark) → IsValidTree o → is_node o (name_of parent) ≡ true → Element o (name_of top) →
    times (name_of parent) (take (1 + length (run_of o.rows (name_of top))) (drop (place_of o.rows (name_of top)) o.rows)) ≡ 0 → is_no_mark before ≡ false → (name_of before == name_of top) ≡ false → child_or_none o parent before ≡ None →
    (r : Row ℕ (Node T)) × (named (cut o.rows (place_of o.rows (name_of top)) (1 + length (run_of o.rows (name_of top)))) (name_of before) ≡ Some r) × (r.value.depth ≡ depth_of o.rows (name_of parent) + 1)
subtree_child o parent before top valid there element w_none some differs child =
    let rows = o.rows in
    let w = name_of parent in
    let t = name_of top in
    let x = name_of before in
    let k = place_of rows t in
    let n = length (run_of rows t) in
    let own = not_if (not (is_no_mark before) && not (is_in x (children_of rows w))) NotChild child in
    let among = child_case (is_no_mark before) (is_in x (children_of rows w)) some own in
    let r = child_found rows w x among (valid.as_object.names_differ x) in
    let start : run_start rows t ≡ suc k = start_of_named rows t element.not_root in
    let tr = found t rows element.there in
    let depth : depth_of rows t ≡ tr.0.value.depth = depth_of_named rows t tr.0 tr.1 element.there element.not_root in
    let inside = child_within rows w x among (valid.as_object.names_differ x) in
    let x_none : times x (take n (drop (run_start rows t) rows)) ≡ 0 =
    child_outside o w x (run_start rows t) n (depth_of rows t) valid among (run_depths rows t)
    (λ less from. let last : place_of rows x < run_start rows w + length (run_of rows w) = inside.to in
    let le = depth_within (depth_of rows w + 1) (length (run_of rows w)) (run_start rows w) k tr.0.value.depth (depths rows) (drop (suc k) (depths rows)) (run_depths rows w) (omega (arith, start)) (omega (arith, start)) (depths_from rows t tr.0 tr.1) in
    omega (arith, le, depth))
    (λ more from to. absent_place o w k (1 + n) there w_none (omega (arith, start)) (omega (arith, start)))
    (λ same. absent_place o w k (1 + n) there w_none (omega (arith, start)) (omega (arith, start))) in
    (r.0, named_cut x k (1 + n) rows r.0 r.1 (top_and_run o t x element (other_way x t differs) x_none), r.2)

pub splice_subtree_valid : {T : Type 0} (o : Object ℕ (Node T)) (parent before top : Mark) → IsValidTree o → tree.splice_subtree_reason o parent before top ≡ None → (b : Bool) → (name_of before == name_of top) ≡ b →
    IsValidTree (with_rows o (if b then o.rows else put (tree.without_subtree o.rows top) (child_place (tree.without_subtree o.rows top) parent before) (tree.subtree_at_depth (child_depth o.rows parent) o.rows top)))
splice_subtree_valid o parent before top valid none true e = record { as_object = kept o o.rows valid.as_object (λ s. omega arith) (omega arith); outline = valid.outline }
splice_subtree_valid o parent before top valid none false e =
    let w = name_of parent in
    let t = name_of top in
    let child = child_or_none o parent before in
    let below = reason_if (is_in_subtree o.rows t w) BelowItself in
    let judged = none_others (tampers_cursors o) (needs_node o parent ∷ may_node o before ∷ needs_element o top ∷ child ∷ below ∷ []) none in
    let there = node_there o parent (none_first (needs_node o parent) (may_node o before ∷ needs_element o top ∷ child ∷ below ∷ []) judged) in
    let at_top = after_two (needs_node o parent) (may_node o before) (needs_element o top ∷ child ∷ below ∷ []) judged in
    let element = element_there o top (none_first (needs_element o top) (child ∷ below ∷ []) at_top) in
    let own = none_others (needs_element o top) (child ∷ below ∷ []) at_top in
    let outside = or_parts (w == t) (is_in w (run_of o.rows t)) (not_if (is_in_subtree o.rows t w) BelowItself (none_first below [] (none_others child (below ∷ []) own))) in
    let turned : (t == w) ≡ false = other_way w t outside.0 in
    let k = place_of o.rows t in
    let m = 1 + length (run_of o.rows t) in
    let start : subtree_start o.rows t ≡ k = omega (arith, start_of_named o.rows t element.not_root) in
    let w_none = top_and_run o t w element turned (run_none o.rows t w outside.1) in
    let one = depth_from_one o.rows w valid.outline (place_of_node o.rows w there) in
    let fit = subst (λ ds. Children (depth_of o.rows w) ds) (depths_values (moved_to_depth (depth_of o.rows t) (child_depth o.rows parent) (subtree_rows o.rows t))) (subtree_fit o t (depth_of o.rows w) valid element one) in
    subst (λ i. IsValidTree (with_rows o (put (cut o.rows i m) (child_place (cut o.rows i m) parent before) (moved_to_depth (depth_of o.rows t) (child_depth o.rows parent) (take m (drop i o.rows))))))
    (sym start)
    (moved_valid o parent before k m (depth_of o.rows t) valid (subtree_cut o t valid element) there w_none
    (λ some. subtree_child o parent before top valid there element w_none some e (none_first child (below ∷ []) own))
    (subst (λ i. Children (depth_of o.rows w) (depths (moved_to_depth (depth_of o.rows t) (child_depth o.rows parent) (take m (drop i o.rows))))) start fit))

pub splice_subtree_keeps : {T : Type 0} (o : Object ℕ (Node T)) (parent before top : Mark) → KeepsTree o (tree.splice_subtree_call o parent before top)
splice_subtree_keeps o parent before top valid none = splice_subtree_valid o parent before top valid none (name_of before == name_of top) refl

pub splice_subtree_from_self_keeps : {T : Type 0} (o : Object ℕ (Node T)) (parent before top : Mark) → KeepsTree o (tree.splice_subtree_from_self_call o parent before top)
splice_subtree_from_self_keeps o parent before top valid none = splice_subtree_valid o parent before top valid none (name_of before == name_of top) refl

one_head : {X : Type 0} (x y : X) (xs ys : List X) → x ∷ xs ≡ y ∷ ys → x ≡ y
one_head x y xs ys h = cc

-- rows of the same place have the same name
one_place : {T : Type 0} (rows : List (Row ℕ (Node T))) (a b : ℕ) → is_named rows a ≡ true → is_named rows b ≡ true → place_of rows a ≡ place_of rows b → a ≡ b
one_place rows a b h k same =
    let r = found a rows h in
    let s = found b rows k in
    let at_b : drop (place_of rows a) rows ≡ s.0 ∷ drop (suc (place_of rows b)) rows = rw same (from_named rows b s.0 s.1) in
    let heads : r.0 ≡ s.0 = one_head r.0 s.0 (drop (suc (place_of rows a)) rows) (drop (suc (place_of rows b)) rows) (sym (from_named rows a r.0 r.1) ∙ at_b) in
    sym r.2 ∙ subst (λ y. r.0.name ≡ y.name) heads refl ∙ s.2

is_same : (a b : ℕ) → (a == b) ≡ true → a ≡ b
is_same a b h = grind (arith, nat_tests)

never_equal : (a b : ℕ) → (a == b) ≡ false → a ≡ b → ⊥
never_equal a b h e = grind (arith, nat_tests)

root_and_other : {T : Type 0} (o : Object ℕ (Node T)) (a b : ℕ) → run_start o.rows a ≡ run_start o.rows b → (a == 0) ≡ true → (b == 0) ≡ false → ⊥
root_and_other o a b same e f =
    let turned : (0 == a) ≡ true = grind (arith, nat_tests) in
    let start : run_start o.rows a ≡ 0 = rw turned in
    let other = start_of_named o.rows b f in
    omega (arith, start, other, same)

-- two nodes whose runs begin together are one
one_start : {T : Type 0} (o : Object ℕ (Node T)) (a b : ℕ) → is_node o a ≡ true → is_node o b ≡ true → run_start o.rows a ≡ run_start o.rows b → (c d : Bool) → (a == 0) ≡ c → (b == 0) ≡ d → a ≡ b
one_start o a b h k same true true e f = is_same a 0 e ∙ sym (is_same b 0 f)
one_start o a b h k same true false e f = absurd (root_and_other o a b same e f)
one_start o a b h k same false true e f = absurd (root_and_other o b a (sym same) f e)
one_start o a b h k same false false e f =
    one_place o.rows a b (there_if_not_root (a == 0) (is_named o.rows a) e h) (there_if_not_root (b == 0) (is_named o.rows b) f k)
    (let p = start_of_named o.rows a e in let q = start_of_named o.rows b f in omega (arith, p, q, same))

-- a node that stands in another's run is deeper than it
below_parent : {T : Type 0} (o : Object ℕ (Node T)) (w t j : ℕ) → is_node o t ≡ true → run_start o.rows w < run_start o.rows t → run_start o.rows t ≤ j → j < run_start o.rows w + length (run_of o.rows w) → depth_of o.rows w + 1 ≤ depth_of o.rows t
below_parent o w t j there less from to =
    let rows = o.rows in
    let other = not_root_by rows t (t == 0) refl (omega arith) in
    let named_there = there_if_not_root (t == 0) (is_named rows t) other there in
    let start = start_of_named rows t other in
    let r = found t rows named_there in
    let k = place_of rows t in
    let depth : depth_of rows t ≡ r.0.value.depth = depth_of_named rows t r.0 r.1 named_there other in
    let le = depth_within (depth_of rows w + 1) (length (run_of rows w)) (run_start rows w) k r.0.value.depth (depths rows) (drop (suc k) (depths rows)) (run_depths rows w) (omega (arith, start)) (omega (arith, start)) (depths_from rows t r.0 r.1) in
    omega (arith, le, depth)

children_child : {T : Type 0} (o : Object ℕ (Node T)) (parent before source_parent : Mark) → IsValidTree o → is_node o (name_of parent) ≡ true → is_node o (name_of source_parent) ≡ true → (name_of parent == name_of source_parent) ≡ false →
    times (name_of parent) (take (length (run_of o.rows (name_of source_parent))) (drop (run_start o.rows (name_of source_parent)) o.rows)) ≡ 0 → is_no_mark before ≡ false → child_or_none o parent before ≡ None →
    (r : Row ℕ (Node T)) × (named (cut o.rows (run_start o.rows (name_of source_parent)) (length (run_of o.rows (name_of source_parent)))) (name_of before) ≡ Some r) × (r.value.depth ≡ depth_of o.rows (name_of parent) + 1)
children_child o parent before source_parent valid there there_too differs w_none some child =
    let rows = o.rows in
    let w = name_of parent in
    let t = name_of source_parent in
    let x = name_of before in
    let start = run_start rows t in
    let n = length (run_of rows t) in
    let own = not_if (not (is_no_mark before) && not (is_in x (children_of rows w))) NotChild child in
    let among = child_case (is_no_mark before) (is_in x (children_of rows w)) some own in
    let r = child_found rows w x among (valid.as_object.names_differ x) in
    let inside = child_within rows w x among (valid.as_object.names_differ x) in
    let x_none : times x (take n (drop start rows)) ≡ 0 =
    child_outside o w x start n (depth_of rows t) valid among (run_depths rows t)
    (λ less from. below_parent o w t (place_of rows x) there_too less from inside.to)
    (λ more from to. absent_place o w start n there w_none more (omega arith))
    (λ same. never_equal w t differs (one_start o w t there there_too same (w == 0) (t == 0) refl refl)) in
    (r.0, named_cut x start n rows r.0 r.1 x_none, r.2)

children_moved : {T : Type 0} (o : Object ℕ (Node T)) (parent before source_parent : Mark) → IsValidTree o →
    first_reason (tampers_cursors o ∷ needs_node o parent ∷ may_node o before ∷ needs_node o source_parent ∷ child_or_none o parent before ∷ reason_if (is_in (name_of parent) (run_of o.rows (name_of source_parent))) BelowItself ∷ []) ≡ None →
    (b : Bool) → (name_of parent == name_of source_parent) ≡ b →
    IsValidTree (with_rows o (if b then o.rows else put (tree.without_run o.rows source_parent) (child_place (tree.without_run o.rows source_parent) parent before) (tree.run_at_depth (child_depth o.rows parent) o.rows source_parent)))
children_moved o parent before source_parent valid none true e = record { as_object = kept o o.rows valid.as_object (λ s. omega arith) (omega arith); outline = valid.outline }
children_moved o parent before source_parent valid none false e =
    let w = name_of parent in
    let t = name_of source_parent in
    let child = child_or_none o parent before in
    let below = reason_if (is_in w (run_of o.rows t)) BelowItself in
    let judged = none_others (tampers_cursors o) (needs_node o parent ∷ may_node o before ∷ needs_node o source_parent ∷ child ∷ below ∷ []) none in
    let there = node_there o parent (none_first (needs_node o parent) (may_node o before ∷ needs_node o source_parent ∷ child ∷ below ∷ []) judged) in
    let at_source = after_two (needs_node o parent) (may_node o before) (needs_node o source_parent ∷ child ∷ below ∷ []) judged in
    let there_too = node_there o source_parent (none_first (needs_node o source_parent) (child ∷ below ∷ []) at_source) in
    let own = none_others (needs_node o source_parent) (child ∷ below ∷ []) at_source in
    let w_none = run_none o.rows t w (not_if (is_in w (run_of o.rows t)) BelowItself (none_first below [] (none_others child (below ∷ []) own))) in
    let one = depth_from_one o.rows w valid.outline (place_of_node o.rows w there) in
    let fit = subst (λ ds. Children (depth_of o.rows w) ds) (depths_values (moved_to_depth (depth_of o.rows t + 1) (child_depth o.rows parent) (run_rows o.rows t))) (run_fit o.rows t (depth_of o.rows w) valid.outline (place_of_node o.rows t there_too) one) in
    moved_valid o parent before (run_start o.rows t) (length (run_of o.rows t)) (depth_of o.rows t + 1) valid (run_cut o t valid there_too) there w_none
    (λ some. children_child o parent before source_parent valid there there_too e w_none some (none_first child (below ∷ []) own)) fit

pub splice_children_keeps : {T : Type 0} (o : Object ℕ (Node T)) (parent before source_parent : Mark) → KeepsTree o (tree.splice_children_call o parent before source_parent)
splice_children_keeps o parent before source_parent valid none = children_moved o parent before source_parent valid none (name_of parent == name_of source_parent) refl

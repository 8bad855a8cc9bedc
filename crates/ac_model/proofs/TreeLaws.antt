-- The calls of trees keep them valid.
use Rattle.std.proofs.Common.{◌≡◌, ◌==◌, ◌+◌, ◌-◌, ◌≤◌, ℕ, ℤ, zero, suc, Bool, cond, true, false, not, ◌&&◌, ◌||◌, List, [], ◌∷◌, length, take, drop, map, replicate, refl, ap, sym, ◌∙◌, subst, arith, Option, Some, None, add-one, one-add, take-append-drop, if◌then◌else◌}
use Rattle.std.specs.Prelude.{nat_lt, filter, option_map}
use Rattle.std.specs.List.{prefix_len}
use Rattle.std.proofs.lemmas.Bool.Decides.{nat_tests}
use Rattle.std.proofs.lemmas.List.{length-replicate, length-map, drop-map, take-map}
use Rattle.ac_base.specs.declared.reason.Reason.TheVariants.{NoElement, RootNode, RootSource, NotLeaf, NotChild}
use Rattle.ac_base.specs.FirstReason.{first_reason}
use Rattle.ac_base.specs.Rows.{Row, row, values}
use Rattle.ac_model.specs.Rows.{Node, node, fresh, cut, put, place_of, named, is_named, value_at, with_value, with_some_value}
use Rattle.ac_model.specs.Objects.{Object, times, contents, with_rows, grown}
use Rattle.ac_model.specs.Letters.{Mark, no_mark, mark_at, stale_mark, judged_in, name_of, is_no_mark, reason_if, tampers_cursors, in_range, room, count_of}
use Rattle.ac_model.specs.Sequences.{with_new, room_for_copies}
use Rattle.ac_model.specs.Outline.{spot, spots, IsValidTree, depths, depth_of, run_of, run_start, children_of, is_in, is_outline, follows, subtree_start, subtree_rows, run_rows, moved_to_depth}
use Rattle.ac_model.specs.Common as common
use Rattle.ac_model.specs.Trees as tree
use Rattle.ac_model.specs.Trees.{KeepsTree, KeepsBothTrees, needs_node, may_node, needs_element, is_node, is_root, child_or_none, child_place, child_depth, with_children}
use Rattle.ac_model.proofs.Reasons.{none_first, none_others, after_two, after_three, earlier_none, not_if}
use Rattle.ac_model.proofs.Moves.{found}
use Rattle.ac_model.proofs.Times.{times-with_some_value}
use Rattle.ac_model.proofs.Lengths.{length-with_some_value}
use Rattle.ac_model.proofs.Kept.{kept, new_kept}
use Rattle.ac_model.proofs.SequencesKept.{cut_kept, cleared, assigned}
use Rattle.ac_model.proofs.Counts.{unnamed}
use Rattle.ac_model.proofs.Depths.{ends, HeadAtMost, head_weaker, AllFrom, first_of, follows_from, follows_front, follows_back, shifted_follows, shifted_from}
use Rattle.ac_model.proofs.TreePlaces.{Place, place_of_node, start_of_named, depths_from, depth_of_named, depths_fresh, depths_values}
use Rattle.ac_model.proofs.TreeOutlines.{cut_outline, after_run, at_node, put_last, put_first, put_before, child_found, depth_from_one, run_depths, all_weaker}

judged_there : (number object : ℕ) (there : Bool) → judged_in number object there ≡ None → there ≡ true
judged_there number object there h = grind arith

pub node_there : {V : Type 0} (o : Object ℕ V) (c : Mark) → needs_node o c ≡ None → is_node o (name_of c) ≡ true
node_there o no_mark h = cc
node_there o (mark_at object name) h = judged_there o.number object (is_node o name) h
node_there o (stale_mark object) h = let e : false ≡ true = judged_there o.number object false h in cc

-- a cursor that must designate an element does, and isn't at the root
pub record Element {V : Type 0} (o : Object ℕ V) (name : ℕ) : Type 0 where
  pub not_root : (name == 0) ≡ false
  pub there : is_named o.rows name ≡ true

named_if_not_root : {V : Type 0} (o : Object ℕ V) (name : ℕ) (b : Bool) → (name == 0) ≡ b → b ≡ false → ((name == 0) || is_named o.rows name) ≡ true → Element o name
named_if_not_root o name true e f h = cc
named_if_not_root o name false e f h = record { not_root = e; there = rw e at h }

pub element_there : {V : Type 0} (o : Object ℕ V) (c : Mark) → needs_element o c ≡ None → Element o (name_of c)
element_there o no_mark h = let e : Some NoElement ≡ None = (earlier_none (needs_node o no_mark) (reason_if false RootNode) h).0 in cc
element_there o (mark_at object name) h =
    let parts = earlier_none (needs_node o (mark_at object name)) (reason_if (name == 0) RootNode) h in
    named_if_not_root o name (name == 0) refl (not_if (name == 0) RootNode parts.1) (node_there o (mark_at object name) parts.0)
element_there o (stale_mark object) h =
    let parts = earlier_none (needs_node o (stale_mark object)) (reason_if false RootNode) h in
    let e : false ≡ true = judged_there o.number object false parts.0 in cc

-- what a cut of a run leaves
pub run_cut : {T : Type 0} (o : Object ℕ (Node T)) (name : ℕ) → IsValidTree o → is_node o name ≡ true → IsValidTree (with_rows o (cut o.rows (run_start o.rows name) (length (run_of o.rows name))))
run_cut o name valid there =
    let start = run_start o.rows name in
    let n = length (run_of o.rows name) in
    let place = place_of_node o.rows name there in
    let most = head_weaker (depth_of o.rows name) (ends 1 (take start (depths o.rows)) + 1) (drop (start + n) (depths o.rows)) (let e = place.reached in omega (arith, e)) (after_run o.rows name) in
    record {
      as_object = cut_kept o start n valid.as_object;
      outline = cut_outline o.rows start n valid.outline most;
    }

-- what a cut of a subtree leaves
pub subtree_cut : {T : Type 0} (o : Object ℕ (Node T)) (name : ℕ) → IsValidTree o → Element o name → IsValidTree (with_rows o (cut o.rows (place_of o.rows name) (1 + length (run_of o.rows name))))
subtree_cut o name valid element =
    let k = place_of o.rows name in
    let n = length (run_of o.rows name) in
    let ds = depths o.rows in
    let r = found name o.rows element.there in
    let start : run_start o.rows name ≡ suc k = start_of_named o.rows name element.not_root in
    let depth : depth_of o.rows name ≡ r.0.value.depth = depth_of_named o.rows name r.0 r.1 element.there element.not_root in
    let behind = follows_back 1 (take k ds) (drop k ds) (rw (take-append-drop k ds) valid.outline) in
    let f = first_of (ends 1 (take k ds)) r.0.value.depth (drop (suc k) ds) (rw (depths_from o.rows name r.0 r.1) at behind) in
    let same : run_start o.rows name + n ≡ k + (1 + n) = omega (arith, start) in
    let after : HeadAtMost (depth_of o.rows name) (drop (k + (1 + n)) ds) = rw same at (after_run o.rows name) in
    let most = head_weaker (depth_of o.rows name) (ends 1 (take k ds) + 1) (drop (k + (1 + n)) ds) (let e = f.to in omega (arith, e, depth)) after in
    record {
      as_object = cut_kept o k (1 + n) valid.as_object;
      outline = cut_outline o.rows k (1 + n) valid.outline most;
    }

pub delete_children_keeps : {T : Type 0} (o : Object ℕ (Node T)) (parent : Mark) → KeepsTree o (tree.delete_children_call o parent)
delete_children_keeps o parent valid none =
    run_cut o (name_of parent) valid (node_there o parent (none_first (needs_node o parent) [] (none_others (tampers_cursors o) (needs_node o parent ∷ []) none)))

pub delete_subtree_keeps : {T : Type 0} (o : Object ℕ (Node T)) (position : Mark) → KeepsTree o (tree.delete_subtree_call o position)
delete_subtree_keeps o position valid none =
    let element = element_there o position (none_first (needs_element o position) [] (none_others (tampers_cursors o) (needs_element o position ∷ []) none)) in
    let start : subtree_start o.rows (name_of position) ≡ place_of o.rows (name_of position) = omega (arith, start_of_named o.rows (name_of position) element.not_root) in
    rw start (subtree_cut o (name_of position) valid element)

impossible : {X : Type 0} (b : Bool) (x : X) (xs : List X) → b ≡ true → length (cond b (x ∷ xs) xs) ≡ 0 → ⊥
impossible true x xs e h = omega arith
impossible false x xs e h = cc

-- a node without children has nothing below it
leaf_step : {T : Type 0} (top : ℕ) (r : Row ℕ (Node T)) (rows : List (Row ℕ (Node T))) (b : Bool) → nat_lt top r.value.depth ≡ b → r.value.depth ≤ top + 1 →
    length (filter (λ s. s.depth == top + 1) (take (cond b (1 + prefix_len (λ s. nat_lt top s.depth) (map spot rows)) 0) (spot r ∷ map spot rows))) ≡ 0 →
    cond b (1 + prefix_len (λ s. nat_lt top s.depth) (map spot rows)) 0 ≡ 0
leaf_step top r rows true e most h =
    let n = prefix_len (λ s. nat_lt top s.depth) (map spot rows) in
    let deep : (r.value.depth == top + 1) ≡ true = grind (arith, nat_tests) in
    let some : length (filter (λ s. s.depth == top + 1) (spot r ∷ take n (map spot rows))) ≡ 0 = rw (one-add n) at h in
    absurd (impossible (r.value.depth == top + 1) (spot r) (filter (λ s. s.depth == top + 1) (take n (map spot rows))) deep some)
leaf_step top r rows false e most h = refl

no_run : {T : Type 0} (top : ℕ) (rows : List (Row ℕ (Node T))) → follows top (depths rows) ≡ true →
    length (filter (λ s. s.depth == top + 1) (take (prefix_len (λ s. nat_lt top s.depth) (map spot rows)) (map spot rows))) ≡ 0 → prefix_len (λ s. nat_lt top s.depth) (map spot rows) ≡ 0
no_run top [] h none = refl
no_run top (r ∷ rows) h none = let f = first_of top r.value.depth (depths rows) h in leaf_step top r rows (nat_lt top r.value.depth) refl f.to none

leaf_run : {T : Type 0} (rows : List (Row ℕ (Node T))) (name : ℕ) → is_outline rows ≡ true → Place rows name → length (children_of rows name) ≡ 0 → length (run_of rows name) ≡ 0
leaf_run rows name h place none =
    let top = depth_of rows name in
    let start = run_start rows name in
    let tail : drop (start + 1) (spots rows) ≡ map spot (drop start rows) = rw (add-one start) (drop-map spot start rows) in
    let below : follows top (depths (drop start rows)) ≡ true = subst (λ l. follows top l ≡ true) (drop-map (λ r. r.value.depth) start rows) (at_node rows name h place) in
    let none_below = subst (λ l. length (filter (λ s. s.depth == top + 1) (take (prefix_len (λ s. nat_lt top s.depth) l) l)) ≡ 0) tail none in
    let zero_prefix = no_run top (drop start rows) below none_below in
    let zero_there : prefix_len (λ s. nat_lt top s.depth) (drop (start + 1) (spots rows)) ≡ 0 = rw tail zero_prefix in
    rw zero_there

pub delete_leaf_keeps : {T : Type 0} (o : Object ℕ (Node T)) (position : Mark) → KeepsTree o (tree.delete_leaf_call o position)
delete_leaf_keeps o position valid none =
    let own = reason_if (not (tree.is_leaf o position)) NotLeaf in
    let judged = none_others (tampers_cursors o) (needs_element o position ∷ own ∷ []) none in
    let element = element_there o position (none_first (needs_element o position) (own ∷ []) judged) in
    let leaf = not_if (not (tree.is_leaf o position)) NotLeaf (none_first own [] (none_others (needs_element o position) (own ∷ []) judged)) in
    let place = place_of_node o.rows (name_of position) (rw element.not_root element.there) in
    let none_below : length (children_of o.rows (name_of position)) ≡ 0 = grind (arith, nat_tests) in
    let empty_run = leaf_run o.rows (name_of position) valid.outline place none_below in
    subst (λ n. IsValidTree (with_rows o (cut o.rows (place_of o.rows (name_of position)) (1 + n)))) empty_run (subtree_cut o (name_of position) valid element)

-- values put as children of a node
pub record Children (top : ℕ) (ds : List ℕ) : Type 0 where
  pub inside : follows top ds ≡ true
  pub all : AllFrom (top + 1) ds

pub child_case : (b c : Bool) → b ≡ false → (not b && not c) ≡ false → c ≡ true
child_case true c e h = cc
child_case false true e h = refl
child_case false false e h = cc

put_case : {T : Type 0} (o : Object ℕ (Node T)) (parent before : Mark) (new : List (Row ℕ (Node T))) → IsValidTree o → is_node o (name_of parent) ≡ true → child_or_none o parent before ≡ None →
    follows (depth_of o.rows (name_of parent)) (depths new) ≡ true → AllFrom (depth_of o.rows (name_of parent) + 1) (depths new) → (b : Bool) → is_no_mark before ≡ b →
    is_outline (put o.rows (if b then run_start o.rows (name_of parent) + length (run_of o.rows (name_of parent)) else place_of o.rows (name_of before)) new) ≡ true
put_case o parent before new valid there child inside all true e =
    put_last o.rows new (name_of parent) valid.outline (place_of_node o.rows (name_of parent) there) inside all
put_case o parent before new valid there child inside all false e =
    let own = not_if (not (is_no_mark before) && not (is_in (name_of before) (children_of o.rows (name_of parent)))) NotChild child in
    let among = child_case (is_no_mark before) (is_in (name_of before) (children_of o.rows (name_of parent))) e own in
    let r = child_found o.rows (name_of parent) (name_of before) among (valid.as_object.names_differ (name_of before)) in
    put_before o.rows new (name_of before) (depth_of o.rows (name_of parent)) r.0 valid.outline r.1 r.2 inside all

children_put : {T : Type 0} (o : Object ℕ (Node T)) (parent before : Mark) (vs : List (Node T)) (more : ℕ) → IsValidTree o → is_node o (name_of parent) ≡ true → child_or_none o parent before ≡ None → length vs ≡ more →
    Children (depth_of o.rows (name_of parent)) (map (λ v. v.depth) vs) → first_reason (room o (length o.rows + more) more) ≡ None → IsValidTree (with_new o (child_place o.rows parent before) vs more)
children_put o parent before vs more valid there child counts fit none =
    let new = fresh o.next vs in
    let top = depth_of o.rows (name_of parent) in
    let inside : follows top (depths new) ≡ true = rw (depths_fresh o.next vs) fit.inside in
    let all : AllFrom (top + 1) (depths new) = rw (depths_fresh o.next vs) fit.all in
    record {
      as_object = new_kept o (child_place o.rows parent before) vs more valid.as_object counts none;
      outline = put_case o parent before new valid there child inside all (is_no_mark before) refl;
    }

copies_follow : {T : Type 0} (top before n : ℕ) (element : T) → 1 ≤ top → top ≤ before → before ≤ top + 1 → follows before (map (λ v. v.depth) (replicate n (node (top + 1) element))) ≡ true
copies_follow top before zero element one least most = refl
copies_follow top before (suc n) element one least most =
    follows_from before (top + 1) (map (λ v. v.depth) (replicate n (node (top + 1) element))) (omega arith) (omega arith) (copies_follow top (top + 1) n element one (omega arith) (omega arith))

copies_from : {T : Type 0} (top n : ℕ) (element : T) → AllFrom (top + 1) (map (λ v. v.depth) (replicate n (node (top + 1) element)))
copies_from top zero element = tt
copies_from top (suc n) element = (omega arith, copies_from top n element)

copies_fit : {T : Type 0} (top n : ℕ) (element : T) → 1 ≤ top → Children top (map (λ v. v.depth) (replicate n (node (top + 1) element)))
copies_fit top n element one = record { inside = copies_follow top top n element one (omega arith) (omega arith); all = copies_from top n element }

insert_valid : {T : Type 0} (o : Object ℕ (Node T)) (parent before : Mark) (element : T) (count : ℤ) → IsValidTree o →
    first_reason (tampers_cursors o ∷ needs_node o parent ∷ may_node o before ∷ child_or_none o parent before ∷ room_for_copies o count) ≡ None → IsValidTree (with_children o parent (child_place o.rows parent before) element count)
insert_valid o parent before element count valid none =
    let rest = room_for_copies o count in
    let child = child_or_none o parent before in
    let there = node_there o parent (none_first (needs_node o parent) (may_node o before ∷ child ∷ rest) (none_others (tampers_cursors o) (needs_node o parent ∷ may_node o before ∷ child ∷ rest) none)) in
    let own = after_three (tampers_cursors o) (needs_node o parent) (may_node o before) (child ∷ rest) none in
    let place = place_of_node o.rows (name_of parent) there in
    children_put o parent before (replicate (count_of count) (node (child_depth o.rows parent) element)) (count_of count) valid there (none_first child rest own) (length-replicate (count_of count) (node (child_depth o.rows parent) element))
    (copies_fit (depth_of o.rows (name_of parent)) (count_of count) element (depth_from_one o.rows (name_of parent) valid.outline place))
    (after_two child (in_range count) (room o (length o.rows + count_of count) (count_of count)) own)

pub insert_child_keeps : {T : Type 0} (o : Object ℕ (Node T)) (parent before : Mark) (element : T) (count : ℤ) → KeepsTree o (tree.insert_child_call o parent before element count)
insert_child_keeps o parent before element count valid none = insert_valid o parent before element count valid none

pub insert_child_pos_keeps : {T : Type 0} (o : Object ℕ (Node T)) (parent before : Mark) (element : T) (count : ℤ) → KeepsTree o (tree.insert_child_pos_call o parent before element count)
insert_child_pos_keeps o parent before element count valid none = insert_valid o parent before element count valid none

pub append_child_keeps : {T : Type 0} (o : Object ℕ (Node T)) (parent : Mark) (element : T) (count : ℤ) → KeepsTree o (tree.append_child_call o parent element count)
append_child_keeps o parent element count valid none =
    let rest = room_for_copies o count in
    let there = node_there o parent (none_first (needs_node o parent) rest (none_others (tampers_cursors o) (needs_node o parent ∷ rest) none)) in
    let place = place_of_node o.rows (name_of parent) there in
    children_put o parent no_mark (replicate (count_of count) (node (child_depth o.rows parent) element)) (count_of count) valid there refl (length-replicate (count_of count) (node (child_depth o.rows parent) element))
    (copies_fit (depth_of o.rows (name_of parent)) (count_of count) element (depth_from_one o.rows (name_of parent) valid.outline place))
    (after_three (tampers_cursors o) (needs_node o parent) (in_range count) (room o (length o.rows + count_of count) (count_of count)) none)

pub prepend_child_keeps : {T : Type 0} (o : Object ℕ (Node T)) (parent : Mark) (element : T) (count : ℤ) → KeepsTree o (tree.prepend_child_call o parent element count)
prepend_child_keeps o parent element count valid none =
    let rest = room_for_copies o count in
    let vs = replicate (count_of count) (node (child_depth o.rows parent) element) in
    let there = node_there o parent (none_first (needs_node o parent) rest (none_others (tampers_cursors o) (needs_node o parent ∷ rest) none)) in
    let place = place_of_node o.rows (name_of parent) there in
    let fit = copies_fit (depth_of o.rows (name_of parent)) (count_of count) element (depth_from_one o.rows (name_of parent) valid.outline place) in
    let top = depth_of o.rows (name_of parent) in
    let inside : follows top (depths (fresh o.next vs)) ≡ true = rw (depths_fresh o.next vs) fit.inside in
    let all : AllFrom (top + 1) (depths (fresh o.next vs)) = rw (depths_fresh o.next vs) fit.all in
    record {
      as_object = new_kept o (run_start o.rows (name_of parent)) vs (count_of count) valid.as_object (length-replicate (count_of count) (node (child_depth o.rows parent) element))
          (after_three (tampers_cursors o) (needs_node o parent) (in_range count) (room o (length o.rows + count_of count) (count_of count)) none);
      outline = put_first o.rows (fresh o.next vs) (name_of parent) valid.outline place inside all;
    }

-- a subtree, and a run, with its depths changed so that it fits below a node
shifted_depths : {T : Type 0} (from to : ℕ) (rows : List (Row ℕ (Node T))) → map (λ v. v.depth) (values (moved_to_depth from to rows)) ≡ map (λ d. d + to - from) (depths rows)
shifted_depths from to [] = refl
shifted_depths from to (r ∷ rows) = ap (λ ds. (r.value.depth + to - from) ∷ ds) (shifted_depths from to rows)

shifted_fit : (from top before : ℕ) (ds : List ℕ) → 1 ≤ top → from ≤ before + 1 → before + (top + 1) - from ≡ top → AllFrom from ds → follows before ds ≡ true → Children top (map (λ d. d + (top + 1) - from) ds)
shifted_fit from top before ds one reach same all h =
    let moved : follows (before + (top + 1) - from) (map (λ d. d + (top + 1) - from) ds) ≡ true = shifted_follows from (top + 1) before ds (omega arith) reach all h in
    record {
      inside = subst (λ b. follows b (map (λ d. d + (top + 1) - from) ds) ≡ true) same moved;
      all = shifted_from from (top + 1) ds all;
    }

pub run_fit : {T : Type 0} (rows : List (Row ℕ (Node T))) (name top : ℕ) → is_outline rows ≡ true → Place rows name → 1 ≤ top → Children top (map (λ v. v.depth) (values (moved_to_depth (depth_of rows name + 1) (top + 1) (run_rows rows name))))
run_fit rows name top h place one =
    let start = run_start rows name in
    let n = length (run_of rows name) in
    let d = depth_of rows name in
    let run = take n (drop start (depths rows)) in
    let is : depths (run_rows rows name) ≡ run = sym (ap (λ l. take n l) (drop-map (λ r. r.value.depth) start rows) ∙ take-map (λ r. r.value.depth) n (drop start rows)) in
    let inside : follows d run ≡ true = follows_front d run (drop n (drop start (depths rows))) (rw (take-append-drop n (drop start (depths rows))) (at_node rows name h place)) in
    let fit = shifted_fit (d + 1) top d run one (omega arith) (omega arith) (run_depths rows name) inside in
    subst (λ ds. Children top ds) (sym (shifted_depths (d + 1) (top + 1) (run_rows rows name) ∙ ap (λ l. map (λ e. e + (top + 1) - (d + 1)) l) is)) fit

pub subtree_fit : {T : Type 0} (o : Object ℕ (Node T)) (name top : ℕ) → IsValidTree o → Element o name → 1 ≤ top → Children top (map (λ v. v.depth) (values (moved_to_depth (depth_of o.rows name) (top + 1) (subtree_rows o.rows name))))
subtree_fit o name top valid element one =
    let rows = o.rows in
    let ds = depths rows in
    let k = place_of rows name in
    let n = length (run_of rows name) in
    let d = depth_of rows name in
    let r = found name rows element.there in
    let start : run_start rows name ≡ suc k = start_of_named rows name element.not_root in
    let before : subtree_start rows name ≡ k = omega (arith, start) in
    let depth : d ≡ r.0.value.depth = depth_of_named rows name r.0 r.1 element.there element.not_root in
    let behind = follows_back 1 (take k ds) (drop k ds) (rw (take-append-drop k ds) valid.outline) in
    let f = first_of (ends 1 (take k ds)) r.0.value.depth (drop (suc k) ds) (rw (depths_from rows name r.0 r.1) at behind) in
    let run = take n (drop (suc k) ds) in
    let two : 2 ≤ d = let e = f.from in omega (arith, e, depth) in
    let inside : follows d run ≡ true = follows_front d run (drop n (drop (suc k) ds)) (rw (take-append-drop n (drop (suc k) ds)) (subst (λ b. follows b (drop (suc k) ds) ≡ true) (sym depth) f.later)) in
    let deeper : AllFrom (d + 1) run = subst (λ m. AllFrom (d + 1) (take n (drop m ds))) start (run_depths rows name) in
    let tops : take (1 + n) (drop k ds) ≡ d ∷ run = rw (one-add n) (ap (λ l. take (suc n) l) (depths_from rows name r.0 r.1) ∙ ap (λ e. e ∷ run) (sym depth)) in
    let is : depths (subtree_rows rows name) ≡ d ∷ run =
    ap (λ m. depths (take (1 + n) (drop m rows))) before ∙ sym (ap (λ l. take (1 + n) l) (drop-map (λ x. x.value.depth) k rows) ∙ take-map (λ x. x.value.depth) (1 + n) (drop k rows)) ∙ tops in
    let fit = shifted_fit d top (d - 1) (d ∷ run) one (omega arith) (omega arith) (omega arith, all_weaker d (d + 1) run (omega arith) deeper) (follows_from (d - 1) d run two (omega arith) inside) in
    subst (λ l. Children top l) (sym (shifted_depths d (top + 1) (subtree_rows rows name) ∙ ap (λ l. map (λ e. e + (top + 1) - d) l) is)) fit

-- an element of a source, where a cursor that may be No_Element is judged, isn't at the root and isn't No_Element
source_element : {V : Type 0} (o : Object ℕ V) (c : Mark) → may_node o c ≡ None → is_root c ≡ false → is_no_mark c ≡ false → Element o (name_of c)
source_element o no_mark h other some = cc
source_element o (mark_at object name) h other some = named_if_not_root o name (name == 0) refl other (judged_there o.number object (is_node o name) h)
source_element o (stale_mark object) h other some = let e : false ≡ true = judged_there o.number object false h in cc

copied_fit : {T : Type 0} (source : Object ℕ (Node T)) (top : Mark) (depth : ℕ) → IsValidTree source → may_node source top ≡ None → is_root top ≡ false → 1 ≤ depth → (b : Bool) → is_no_mark top ≡ b →
    Children depth (map (λ v. v.depth) (values (if b then [] else tree.subtree_at_depth (depth + 1) source.rows top)))
copied_fit source top depth valid h other one true e = record { inside = refl; all = tt }
copied_fit source top depth valid h other one false e = subtree_fit source (name_of top) depth valid (source_element source top h other e) one

values_length : {V : Type 0} (rows : List (Row ℕ V)) → length (values rows) ≡ length rows
values_length rows = simp length-map

pub copy_subtree_keeps : {T : Type 0} (target : Object ℕ (Node T)) (parent before : Mark) (source : Object ℕ (Node T)) (top : Mark) → IsValidTree source → KeepsTree target (tree.copy_subtree_call target parent before source top)
copy_subtree_keeps target parent before source top source_valid valid none =
    let rows = tree.copied_rows (child_depth target.rows parent) source.rows top in
    let room_left = tree.room_for_rows target rows in
    let child = child_or_none target parent before in
    let root_source = reason_if (is_root top) RootSource in
    let judged = none_others (tampers_cursors target) (needs_node target parent ∷ may_node target before ∷ may_node source top ∷ root_source ∷ child ∷ room_left) none in
    let there = node_there target parent (none_first (needs_node target parent) (may_node target before ∷ may_node source top ∷ root_source ∷ child ∷ room_left) judged) in
    let from_source = after_two (needs_node target parent) (may_node target before) (may_node source top ∷ root_source ∷ child ∷ room_left) judged in
    let not_root = none_others (may_node source top) (root_source ∷ child ∷ room_left) from_source in
    let own = none_others root_source (child ∷ room_left) not_root in
    let place = place_of_node target.rows (name_of parent) there in
    children_put target parent before (values rows) (length rows) valid there (none_first child room_left own) (values_length rows)
    (copied_fit source top (depth_of target.rows (name_of parent)) source_valid (none_first (may_node source top) (root_source ∷ child ∷ room_left) from_source) (not_if (is_root top) RootSource (none_first root_source (child ∷ room_left) not_root))
    (depth_from_one target.rows (name_of parent) valid.outline place) (is_no_mark top) refl)
    (none_others child room_left own)

pub splice_subtree_from_keeps : {T : Type 0} (target : Object ℕ (Node T)) (parent before : Mark) (source : Object ℕ (Node T)) (top : Mark) → KeepsBothTrees target source (tree.splice_subtree_from_call target parent before source top)
splice_subtree_from_keeps target parent before source top valid source_valid none =
    let rows = tree.subtree_at_depth (child_depth target.rows parent) source.rows top in
    let room_left = tree.room_for_rows target rows in
    let child = child_or_none target parent before in
    let judged = after_two (tampers_cursors target) (tampers_cursors source) (needs_node target parent ∷ may_node target before ∷ needs_element source top ∷ child ∷ room_left) none in
    let there = node_there target parent (none_first (needs_node target parent) (may_node target before ∷ needs_element source top ∷ child ∷ room_left) judged) in
    let from_source = after_two (needs_node target parent) (may_node target before) (needs_element source top ∷ child ∷ room_left) judged in
    let element = element_there source top (none_first (needs_element source top) (child ∷ room_left) from_source) in
    let own = none_others (needs_element source top) (child ∷ room_left) from_source in
    let place = place_of_node target.rows (name_of parent) there in
    let start : subtree_start source.rows (name_of top) ≡ place_of source.rows (name_of top) = omega (arith, start_of_named source.rows (name_of top) element.not_root) in (
      children_put target parent before (values rows) (length rows) valid there (none_first child room_left own) (values_length rows)
          (subtree_fit source (name_of top) (depth_of target.rows (name_of parent)) source_valid element (depth_from_one target.rows (name_of parent) valid.outline place))
          (none_others child room_left own),
      rw start (subtree_cut source (name_of top) source_valid element),
    )

pub splice_children_from_keeps : {T : Type 0} (target : Object ℕ (Node T)) (parent before : Mark) (source : Object ℕ (Node T)) (source_parent : Mark) → KeepsBothTrees target source (tree.splice_children_from_call target parent before source source_parent)
splice_children_from_keeps target parent before source source_parent valid source_valid none =
    let rows = tree.run_at_depth (child_depth target.rows parent) source.rows source_parent in
    let room_left = tree.room_for_rows target rows in
    let child = child_or_none target parent before in
    let judged = after_two (tampers_cursors target) (tampers_cursors source) (needs_node target parent ∷ may_node target before ∷ needs_node source source_parent ∷ child ∷ room_left) none in
    let there = node_there target parent (none_first (needs_node target parent) (may_node target before ∷ needs_node source source_parent ∷ child ∷ room_left) judged) in
    let from_source = after_two (needs_node target parent) (may_node target before) (needs_node source source_parent ∷ child ∷ room_left) judged in
    let there_too = node_there source source_parent (none_first (needs_node source source_parent) (child ∷ room_left) from_source) in
    let own = none_others (needs_node source source_parent) (child ∷ room_left) from_source in
    let place = place_of_node target.rows (name_of parent) there in (
      children_put target parent before (values rows) (length rows) valid there (none_first child room_left own) (values_length rows)
          (run_fit source.rows (name_of source_parent) (depth_of target.rows (name_of parent)) source_valid.outline (place_of_node source.rows (name_of source_parent) there_too) (depth_from_one target.rows (name_of parent) valid.outline place))
          (none_others child room_left own),
      run_cut source (name_of source_parent) source_valid there_too,
    )

one_of : {X : Type 0} (x y : X) → Some x ≡ Some y → x ≡ y
one_of x y h = cc

-- another element at the same depth
depths_step : {T : Type 0} (x : Row ℕ (Node T)) (rows : List (Row ℕ (Node T))) (name : ℕ) (v : Node T) (r : Row ℕ (Node T)) (b : Bool) → (named rows name ≡ Some r → times name rows ≤ 1 → depths (with_value rows name v) ≡ depths rows) →
    cond b (Some x) (named rows name) ≡ Some r → (if b then 1 else 0) + times name rows ≤ 1 → v.depth ≡ r.value.depth → depths ((if b then row name v else x) ∷ with_value rows name v) ≡ depths (x ∷ rows)
depths_step x rows name v r true later h once same =
    let is : x ≡ r = one_of x r h in
    let depth : v.depth ≡ x.value.depth = subst (λ y. v.depth ≡ y.value.depth) (sym is) same in
    let rest : with_value rows name v ≡ rows = unnamed rows name v (omega arith) in
    rw rest (ap (λ d. d ∷ depths rows) depth)
depths_step x rows name v r false later h once same = ap (λ ds. x.value.depth ∷ ds) (later h (omega arith))

depths_replaced : {T : Type 0} (rows : List (Row ℕ (Node T))) (name : ℕ) (v : Node T) (r : Row ℕ (Node T)) → named rows name ≡ Some r → times name rows ≤ 1 → v.depth ≡ r.value.depth → depths (with_value rows name v) ≡ depths rows
depths_replaced [] name v r h once same = refl
depths_replaced (x ∷ rows) name v r h once same = depths_step x rows name v r (x.name == name) (λ k o. depths_replaced rows name v r k o same) h once same

element_case : {T : Type 0} (rows : List (Row ℕ (Node T))) (name : ℕ) (element : T) (r : Option (Row ℕ (Node T))) → named rows name ≡ r → times name rows ≤ 1 →
    depths (with_some_value rows name (option_map (λ n. node n.depth element) (option_map (λ x. x.value) r))) ≡ depths rows
element_case rows name element None e once = refl
element_case rows name element (Some r) e once = depths_replaced rows name (node r.value.depth element) r e once refl

pub depths_element : {T : Type 0} (rows : List (Row ℕ (Node T))) (name : ℕ) (element : Option T) → times name rows ≤ 1 → depths (tree.with_element rows name element) ≡ depths rows
depths_element rows name None once = refl
depths_element rows name (Some element) once = element_case rows name element (named rows name) refl once

times_element : {T : Type 0} (s : ℕ) (rows : List (Row ℕ (Node T))) (name : ℕ) (element : Option T) → times s (tree.with_element rows name element) ≡ times s rows
times_element s rows name None = refl
times_element s rows name (Some element) = times-with_some_value s rows name (option_map (λ n. node n.depth element) (value_at rows name))

length_element : {T : Type 0} (rows : List (Row ℕ (Node T))) (name : ℕ) (element : Option T) → length (tree.with_element rows name element) ≡ length rows
length_element rows name None = refl
length_element rows name (Some element) = length-with_some_value rows name (option_map (λ n. node n.depth element) (value_at rows name))

element_valid : {T : Type 0} (o : Object ℕ (Node T)) (name : ℕ) (element : Option T) → IsValidTree o → IsValidTree (with_rows o (tree.with_element o.rows name element))
element_valid o name element valid = record {
  as_object = kept o (tree.with_element o.rows name element) valid.as_object (λ s. omega (arith, times_element s o.rows name element)) (omega (arith, length_element o.rows name element));
  outline = rw (depths_element o.rows name element (valid.as_object.names_differ name)) valid.outline;
}

pub replace_element_keeps : {T : Type 0} (o : Object ℕ (Node T)) (c : Mark) (element : T) → KeepsTree o (tree.replace_element_call o c element)
replace_element_keeps o c element valid none = element_valid o (name_of c) (Some element) valid

pub write_keeps : {T : Type 0} (o : Object ℕ (Node T)) (c : Mark) (element : T) → KeepsTree o (tree.write_call o c element)
write_keeps o c element valid none = element_valid o (name_of c) (Some element) valid

pub swap_keeps : {T : Type 0} (o : Object ℕ (Node T)) (first second : Mark) → KeepsTree o (tree.swap_call o first second)
swap_keeps o first second valid none =
    let at_first = tree.element_of (value_at o.rows (name_of first)) in
    let at_second = tree.element_of (value_at o.rows (name_of second)) in
    element_valid (with_rows o (tree.with_element o.rows (name_of first) at_second)) (name_of second) at_first (element_valid o (name_of first) at_second valid)

pub clear_keeps : {T : Type 0} (o : Object ℕ (Node T)) → KeepsTree o (common.clear_call o)
clear_keeps o valid none = record { as_object = cleared o valid.as_object; outline = refl }

assigned_valid : {T : Type 0} (target source : Object ℕ (Node T)) → IsValidTree target → IsValidTree source → first_reason (room target (length source.rows) (length source.rows)) ≡ None →
    IsValidTree (grown target (fresh target.next (contents source)) (length source.rows))
assigned_valid target source valid source_valid none = record {
  as_object = assigned target source valid.as_object none;
  outline = rw (depths_fresh target.next (contents source)) (rw (depths_values source.rows) source_valid.outline);
}

pub assign_keeps : {T : Type 0} (target source : Object ℕ (Node T)) → IsValidTree source → KeepsTree target (common.assign_call target source)
assign_keeps target source source_valid valid none =
    assigned_valid target source valid source_valid (none_others (tampers_cursors target) (room target (length source.rows) (length source.rows)) none)

pub move_from_keeps : {T : Type 0} (target source : Object ℕ (Node T)) → KeepsBothTrees target source (common.move_from_call target source)
move_from_keeps target source valid source_valid none = (
  assigned_valid target source valid source_valid (after_two (tampers_cursors target) (tampers_cursors source) (room target (length source.rows) (length source.rows)) none),
  record { as_object = cleared source source_valid.as_object; outline = refl },
)

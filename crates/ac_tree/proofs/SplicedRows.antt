-- What a tree's rows are after a subtree went to another place.
use Rattle.std.proofs.Common.{◌≡◌, ℕ, suc, ◌+◌, ◌-◌, ◌<◌, ◌≢◌, ◌⊎◌, Bool, true, false, true≢false, not, ◌&&◌, ◌||◌, List, [], ◌∷◌, ◌++◌, length, Option, Some, None, Result, Ok, Err, IsTrue, refl, sym, ap, ◌∙◌, subst, inl, inr, arith, ne_eqb, eq-eqb, append_assoc}
use Rattle.std.specs.Prelude.{◌==◌, IfOk, if◌then◌else◌, take, drop}
use Rattle.std.specs.Option.{ForSome}
use Rattle.std.proofs.lemmas.Option.{none-some}
use Rattle.std.proofs.Math.Seq.{take-append_seam, drop-append_seam}
use Rattle.std.proofs.lemmas.Bool.{cond-true, cond-false, cases_Bool}
use Rattle.std.proofs.lemmas.List.{map-append}
use Rattle.ac_base.specs.declared.limit.Limit.{Limit}
use Rattle.ac_base.specs.declared.limit.Limit.TheVariants.{Unbounded, Bounded}
use Rattle.ac_base.specs.declared.name.Name.{Name}
use Rattle.ac_base.specs.declared.cursor.Cursor.{Cursor}
use Rattle.ac_base.specs.declared.cursor.Cursor.TheVariants.{NoElement, At}
use Rattle.ac_base.specs.declared.reason.Reason.TheVariants.{BelowItself}
use Rattle.ac_base.specs.declared.fault.Fault.{Fault}
use Rattle.ac_base.specs.declared.fault.Fault.TheVariants as fault
use Rattle.ac_base.specs.Guards.{GuardCounts}
use Rattle.ac_base.specs.Rows.{Row, row, names}
use Rattle.ac_base.proofs.FirstReason.{none_found}
use Rattle.ac_pool.specs.Contents.{IsLive}
use Rattle.ac_pool.specs.NamedRows.{HasName}
use Rattle.ac_chain.proofs.Grows.{all_from, put_cut}
use Rattle.ac_chain.proofs.Marks.{has_among}
use Rattle.ac_model.specs.Containers.{HasSlots}
use Rattle.ac_model.specs.Rows.{Node, node, cut, put, place_of}
use Rattle.ac_model.specs.Objects.{Object, plain, plains, with_rows}
use Rattle.ac_model.specs.Letters.{Mark, mark_at, stale_mark, name_of, is_among, tampers_cursors, reason_if}
use Rattle.ac_model.specs.Cursors.{name_in, place_in}
use Rattle.ac_model.specs.Calls.{IsAfter, Changing, Same, Done}
use Rattle.ac_model.specs.Outline.{Spot, root, spot_place, depth_at, depth_of, run_of, run_start, subtree_start, subtree_length, subtree_rows, moved_to_depth, is_in, is_in_subtree}
use Rattle.ac_model.specs.Trees.{tree_mark, needs_node, may_node, needs_element, child_or_none, child_place, child_depth, without_subtree, subtree_at_depth, with_subtree_moved, splice_subtree_reason, splice_subtree_call, splice_subtree_from_self_call}
use Rattle.ac_model.proofs.Plains.{plains-append, length-plains}
use Rattle.ac_tree.specs.declared.links.Links.{Links}
use Rattle.ac_tree.specs.Forests.{Forest, bare, grove, Step, outline, size, Has, plugged, depth_in, before_in, after_in}
use Rattle.ac_tree.specs.TreeFields.{StandsFor, forest_in, IsForest}
use Rattle.ac_tree.specs.TreeRows.{rows_of, tree_object, IsTree}
use Rattle.ac_tree.specs.TreeCursors.{node_in, serial_in}
use Rattle.ac_chain.specs.TreeCursors.{NodeMarks}
use Rattle.ac_tree.specs.Splicing.{Moved, Moves}
use Rattle.ac_tree.proofs.Places.{plugged_has, around_has, plugged_either, outline_plugged, plugged_size, size_is, named, has}
use Rattle.ac_tree.proofs.Standing.{some_name}
use Rattle.ac_tree.proofs.Forests.{live_of, forest-is, is_forest}
use Rattle.ac_tree.proofs.Objects.{tree_from}
use Rattle.ac_tree.proofs.Outlines.{seen, seen-append, position_run, position_depth, node_position, node_start}
use Rattle.ac_tree.proofs.Judging.{at_node, live_is, At_element, at_element, may_at, serial_of_node}
use Rattle.ac_tree.proofs.Looking.{At_place, at_place}
use Rattle.ac_tree.proofs.Holes.{length_seen, named_live, child_parent}
use Rattle.ac_tree.proofs.Children.{place_here}
use Rattle.ac_tree.proofs.Ancestors.{has_in}
use Rattle.ac_tree.proofs.Leaves.{cut_middle}
use Rattle.ac_tree.proofs.NewPlaces.{row_place, New_place, Stays, new_place, still_has}

pub not_inside : (b : Bool) → reason_if b BelowItself ≡ None → b ≡ false
not_inside false h = refl
not_inside true h = absurd (let k : Some BelowItself ≡ None = h in cc)

-- the depth of a spot is the same without a part in which it isn't
pub depth_cut : (front mid tail : List Spot) (n : ℕ) → is_in n mid ≡ false → depth_at (front ++ (mid ++ tail)) (spot_place (front ++ (mid ++ tail)) n) ≡ depth_at (front ++ tail) (spot_place (front ++ tail) n)
depth_cut [] [] tail n out = refl
depth_cut [] (m ∷ mid) tail n out = elim (cases_Bool (m.name == n)) [
  | inl t ↦ absurd (true≢false (sym (ap (λ b. b || is_in n mid) t) ∙ out))
  | inr f ↦ ap (depth_at (m ∷ (mid ++ tail))) (cond-false _ _ _ f) ∙ depth_cut [] mid tail n (sym (ap (λ b. b || is_in n mid) f) ∙ out)
]
depth_cut (f ∷ front) mid tail n out = elim (cases_Bool (f.name == n)) [
  | inl t ↦ ap (depth_at (f ∷ (front ++ (mid ++ tail)))) (cond-true _ _ _ t) ∙ sym (ap (depth_at (f ∷ (front ++ tail))) (cond-true _ _ _ t))
  | inr e ↦ ap (depth_at (f ∷ (front ++ (mid ++ tail)))) (cond-false _ _ _ e) ∙ depth_cut front mid tail n out ∙ sym (ap (depth_at (f ∷ (front ++ tail))) (cond-false _ _ _ e))
]

module _ {X : Type 0} where
  -- the rows of a node with all below it, at a depth
  abbrev pub part_rows : ℕ → Row Name X → Forest X → List (Row Name (Node X))
  part_rows d x below = row x.name (node d x.value) ∷ outline (d + 1) below

  pub parts : (steps : List (Step X)) (x : Row Name X) (below rest : Forest X) → outline 2 (plugged steps (grove x below rest)) ≡ before_in steps ++ (part_rows (depth_in steps) x below ++ (outline (depth_in steps) rest ++ after_in steps))
  parts steps x below rest =
      let d = depth_in steps in
      outline_plugged steps (grove x below rest) ∙ ap (λ z. before_in steps ++ z) (append_assoc (part_rows d x below) (outline d rest) (after_in steps))

  pub three_plains : (xs ys zs : List (Row Name (Node X))) → plains (xs ++ (ys ++ zs)) ≡ plains xs ++ (plains ys ++ plains zs)
  three_plains xs ys zs = plains-append xs (ys ++ zs) ∙ ap (λ z. plains xs ++ z) (plains-append ys zs)

  depth_left : (steps : List (Step X)) (x : Row Name X) (below rest : Forest X) (n : ℕ) → is_in n (seen (part_rows (depth_in steps) x below)) ≡ false
      → depth_of (plains (outline 2 (plugged steps (grove x below rest)))) n ≡ depth_of (plains (outline 2 (plugged steps rest))) n
  depth_left steps x below rest n out =
      let d = depth_in steps in let mid = part_rows d x below in let ys = outline d rest ++ after_in steps in
      let at : List Spot → ℕ = λ z. depth_at (root ∷ z) (spot_place (root ∷ z) n) in
      ap at (ap seen (parts steps x below rest) ∙ seen-append (before_in steps) (mid ++ ys) ∙ ap (λ z. seen (before_in steps) ++ z) (seen-append mid ys))
      ∙ depth_cut (root ∷ seen (before_in steps)) (seen mid) (seen ys) n out
      ∙ sym (ap at (ap seen (outline_plugged steps rest) ∙ seen-append (before_in steps) ys))

  pub moved_outline : (d e k : ℕ) (t : Forest X) → moved_to_depth d e (plains (outline (d + k) t)) ≡ plains (outline (e + k) t)
  moved_outline d e k bare = refl
  moved_outline d e k (grove x below rest) =
      let head : (d + k) + e - d ≡ e + k = omega arith in
      let low : (d + k) + 1 ≡ d + (k + 1) = omega arith in let back : e + (k + 1) ≡ (e + k) + 1 = omega arith in
      let b : moved_to_depth d e (plains (outline ((d + k) + 1) below)) ≡ plains (outline ((e + k) + 1) below) =
      ap (λ n. moved_to_depth d e (plains (outline n below))) low ∙ moved_outline d e (k + 1) below ∙ ap (λ n. plains (outline n below)) back in
      let r = moved_outline d e k rest in
      let rows : moved_to_depth d e (plains (outline ((d + k) + 1) below ++ outline (d + k) rest)) ≡ plains (outline ((e + k) + 1) below ++ outline (e + k) rest) =
      ap (moved_to_depth d e) (plains-append (outline ((d + k) + 1) below) (outline (d + k) rest))
      ∙ map-append (λ (q : Row ℕ (Node X)). row q.name (node (q.value.depth + e - d) q.value.element)) (plains (outline ((d + k) + 1) below)) (plains (outline (d + k) rest))
      ∙ (λ i. b i ++ r i) ∙ sym (plains-append (outline ((e + k) + 1) below) (outline (e + k) rest)) in
      λ i. row x.name.serial (node (head i) x.value) ∷ rows i

  pub moved_part : (d e : ℕ) (x : Row Name X) (below : Forest X) → moved_to_depth d e (plains (part_rows d x below)) ≡ plains (part_rows e x below)
  moved_part d e x below =
      let head : d + e - d ≡ e = omega arith in let r = moved_outline d e 1 below in
      λ i. row x.name.serial (node (head i) x.value) ∷ r i

  pub taken_part : (xs ys zs : List (Row ℕ (Node X))) → take (length ys) (drop (length xs) (xs ++ (ys ++ zs))) ≡ ys
  taken_part xs ys zs = ap (take (length ys)) (drop-append_seam xs (ys ++ zs)) ∙ take-append_seam ys zs

  -- where the node was, and all about it in words of rows
  module _ (rows : List (Row Name (Node X))) (from : List (Step X)) (x : Row Name X) (below rest : Forest X) (rows_is : rows ≡ outline 2 (plugged from (grove x below rest))) (top : Mark) (named : name_of top ≡ x.name.serial)
      (start : run_start (plains (outline 2 (plugged from (grove x below rest)))) x.name.serial ≡ suc (length (before_in from)))
      (run : length (run_of (plains (outline 2 (plugged from (grove x below rest)))) x.name.serial) ≡ length (outline (depth_in from + 1) below))
      (deep : depth_of (plains (outline 2 (plugged from (grove x below rest)))) x.name.serial ≡ depth_in from) where
    abbrev all : List (Row ℕ (Node X))
    all = plains (outline 2 (plugged from (grove x below rest)))

    abbrev mid : List (Row Name (Node X))
    mid = part_rows (depth_in from) x below

    starts : subtree_start all x.name.serial ≡ length (plains (before_in from))
    starts = let e = length-plains (before_in from) in omega (arith, start, e)

    longs : subtree_length all x.name.serial ≡ length (plains mid)
    longs = let e = length-plains mid in omega (arith, run, e)

    cut_is : without_subtree (plains rows) top ≡ plains (outline 2 (plugged from rest))
    cut_is =
        let ys = outline (depth_in from) rest ++ after_in from in
        (λ i. cut (plains (rows_is i)) (subtree_start (plains (rows_is i)) (named i)) (subtree_length (plains (rows_is i)) (named i)))
        ∙ (λ i. cut ((ap plains (parts from x below rest) ∙ three_plains (before_in from) mid ys) i) (starts i) (longs i))
        ∙ cut_middle (plains (before_in from)) (plains mid) (plains ys)
        ∙ sym (ap plains (outline_plugged from rest) ∙ plains-append (before_in from) ys)

    pub part_is : (e : ℕ) → subtree_at_depth e (plains rows) top ≡ plains (part_rows e x below)
    part_is e =
        let ys = outline (depth_in from) rest ++ after_in from in
        let those : subtree_rows all x.name.serial ≡ plains mid =
        (λ i. take (longs i) (drop (starts i) ((ap plains (parts from x below rest) ∙ three_plains (before_in from) mid ys) i))) ∙ taken_part (plains (before_in from)) (plains mid) (plains ys) in
        (λ i. moved_to_depth (depth_of (plains (rows_is i)) (named i)) e (subtree_rows (plains (rows_is i)) (named i)))
        ∙ (λ i. moved_to_depth (deep i) e (those i)) ∙ moved_part (depth_in from) e x below

    -- the rows once the subtree is put where it goes
    pub put_there : (parent before : Mark) (p b : Option Name) (np : New_place (plugged from rest) p b) → (name_of before == name_of top) ≡ false → ((these : List (Row ℕ (Node X))) → child_place these parent before ≡ row_place these p b)
        → child_depth (plains rows) parent ≡ depth_in np.to → plains (outline 2 (plugged np.to (grove x below np.rest))) ≡ with_subtree_moved (plains rows) parent before top
    put_there parent before p b np other places depth =
        let e = depth_in np.to in let ys = outline e np.rest ++ after_in np.to in let left = plains (outline 2 (plugged from rest)) in
        let cuts : left ≡ plains (before_in np.to) ++ plains ys = ap (λ z. plains (outline 2 z)) (sym np.same) ∙ ap plains (outline_plugged np.to np.rest) ∙ plains-append (before_in np.to) ys in
        let at : child_place (without_subtree (plains rows) top) parent before ≡ length (plains (before_in np.to)) =
        places (without_subtree (plains rows) top) ∙ ap (λ z. row_place z p b) cut_is ∙ np.place ∙ sym (length-plains (before_in np.to)) in
        let part : subtree_at_depth (child_depth (plains rows) parent) (plains rows) top ≡ plains (part_rows e x below) = ap (λ d. subtree_at_depth d (plains rows) top) depth ∙ part_is e in
        ap plains (parts np.to x below np.rest) ∙ three_plains (before_in np.to) (part_rows e x below) ys
        ∙ sym (append_assoc (plains (before_in np.to)) (plains (part_rows e x below)) (plains ys))
        ∙ sym (put_cut (plains (before_in np.to)) (plains ys) (plains (part_rows e x below)))
        ∙ sym (λ i. put ((cut_is ∙ cuts) i) (at i) (part i))
        ∙ sym (cond-false _ _ _ other)

module _ {X : Type 0} where
  pub record Relocated (g : GuardCounts) (limit : Limit) (l m : Links X) (rows : List (Row ℕ (Node X))) : Type 0 where
    pub tree : IsTree limit m
    pub after : IsAfter (tree_object g limit l) (tree_object g limit m) (with_rows (plain (tree_object g limit l)) rows)
    pub spare : m.nodes.spare ≡ l.nodes.spare
    pub marks : (c : Cursor) → tree_mark (tree_object g limit m) c ≡ tree_mark (tree_object g limit l) c

  -- the same nodes in another forest
  pub same_nodes : (g : GuardCounts) (limit : Limit) (l m : Links X) (t u : Forest X) (rows : List (Row ℕ (Node X))) → IsTree limit l → StandsFor l t → Moved l m u → size u ≡ size t → ((a : Name) → Has a u → Has a t) → plains (outline 2 u) ≡ rows → Relocated g limit l m rows
  same_nodes g limit l m t u rows is s moved sizes had rows_are =
      let old : outline 2 (forest_in l) ≡ outline 2 t = ap (outline 2) (forest-is l t s) in
      let new : outline 2 (forest_in m) ≡ outline 2 u = ap (outline 2) (forest-is m u moved.stands) in
      let long = ap length old in let count = size_is 2 t in let few = is.sequence.within_greatest in
      record {
        tree = tree_from limit m u moved.stands is.sequence.is_limit (omega (arith, long, count, few, sizes)) (slots limit is.sequence.has_slots);
        after = record {
          plainly = λ i. record { number = g.number; limit = limit; capacity = None; next = moved.next i; rows = (ap plains new ∙ rows_are) i; cursor_guards = g.cursor_guards; element_guards = g.element_guards };
          slots = all_from (λ name. name.serial < l.nodes.next_serial → IsTrue (is_among (names (outline 2 (forest_in l))) name)) (outline 2 (forest_in m)) (λ a h lt.
              has_among a (outline 2 (forest_in l)) (subst (λ z. HasName a z) (sym old) (named a 2 t (had a (has a 2 u (subst (λ z. HasName a z) new h))))));
        };
        spare = moved.spare;
        marks = same_marks;
      }
    where
      same_marks : (c : Cursor) → tree_mark (tree_object g limit m) c ≡ tree_mark (tree_object g limit l) c
      same_marks NoElement = refl
      same_marks (At object a) =
          let there : is_among (names (outline 2 (forest_in m))) a ≡ is_among (names (outline 2 (forest_in l))) a =
          sym (live_is m (is_forest m u moved.stands) (tree_object g limit m) refl a) ∙ moved.live a ∙ live_is l is.forest (tree_object g limit l) refl a in
          ap (λ b. if (object == g.number) && not (((a.slot == 0) && (a.serial == 0)) || b) then stale_mark object else mark_at object a.serial) there

      slots : (limit : Limit) → HasSlots limit (length (rows_of l).rows) l.nodes.spare → HasSlots limit (size u) m.nodes.spare
      slots Unbounded h = tt
      slots (Bounded most) h =
          let long : length (rows_of l).rows ≡ length (outline 2 t) = ap (λ z. length (outline 2 z)) (forest-is l t s) in
          let count = size_is 2 t in let spare = moved.spare in let sum : length (rows_of l).rows + l.nodes.spare ≡ most = h in
          omega (arith, long, count, spare, sum, sizes)

or_parts : (a b : Bool) → (a || b) ≡ false → (a ≡ false) × (b ≡ false)
or_parts false b e = (refl, e)
or_parts true b e = absurd (true≢false e)

or_second : (a b : Bool) → b ≡ true → (a || b) ≡ true
or_second true b e = refl
or_second false b e = e

module _ {X : Type 0} (l : Links X) (s : IsForest l) (o : Object Name (Node X)) (rows_is : o.rows ≡ outline 2 (forest_in l)) where
  pub places_are : (parent before : Cursor) → needs_node (plain o) (tree_mark o parent) ≡ None → may_node (plain o) (tree_mark o before) ≡ None → (rows : List (Row ℕ (Node X)))
      → child_place rows (tree_mark o parent) (tree_mark o before) ≡ row_place rows (node_in parent) (place_in before)
  places_are parent NoElement hp may rows = ap (λ k. run_start rows (name_of k) + length (run_of rows (name_of k))) (at_node l s o rows_is parent hp).mark
  places_are parent (At object n) hp may rows =
      let at = (at_node l s o rows_is (At object n) (sym (may_at o object n) ∙ may)).mark in
      ap (child_place rows (tree_mark o parent)) at ∙ ap (place_of rows) (serial_of_node n)

  mark_named : (object : ℕ) (n : Name) → may_node (plain o) (tree_mark o (At object n)) ≡ None → name_of (tree_mark o (At object n)) ≡ n.serial
  mark_named object n may = ap name_of (at_node l s o rows_is (At object n) (sym (may_at o object n) ∙ may)).mark ∙ serial_of_node n

  others_are : (before : Cursor) (top : Mark) (x : Name) → may_node (plain o) (tree_mark o before) ≡ None → name_of top ≡ x.serial → IsLive l.nodes x → 0 ≢ x.serial → ForSome (place_in before) (IsLive l.nodes) → ForSome (place_in before) (λ b. b ≡ x → ⊥)
      → (name_of (tree_mark o before) == name_of top) ≡ false
  others_are NoElement top x may is live low lives other = ne_eqb 0 (name_of top) (λ e. low (e ∙ is))
  others_are (At object n) top x may is live low lives other =
      ne_eqb (name_of (tree_mark o (At object n))) (name_of top) (λ e. other n refl (s.sound.serials n x (lives n refl) live (sym (mark_named object n may) ∙ e ∙ is)))

  same_are : (before : Cursor) (top : Mark) (x : Name) → may_node (plain o) (tree_mark o before) ≡ None → name_of top ≡ x.serial → place_in before ≡ Some x → (name_of (tree_mark o before) == name_of top) ≡ true
  same_are NoElement top x may is at = absurd (none-some x at)
  same_are (At object n) top x may is at =
      eq-eqb (name_of (tree_mark o (At object n))) (name_of top) (mark_named object n may ∙ ap (λ (k : Name). k.serial) (some_name n x at) ∙ sym is)

module _ {X : Type 0} (g : GuardCounts) (limit : Limit) (l : Links X) (is : IsTree limit l) (parent before position : Cursor) where
  abbrev o : Object Name (Node X)
  o = tree_object g limit l

  module _ (allowed : splice_subtree_reason (plain o) (tree_mark o parent) (tree_mark o before) (tree_mark o position) ≡ None) where
    no_reasons : (needs_node (plain o) (tree_mark o parent) ≡ None) × (may_node (plain o) (tree_mark o before) ≡ None) × (needs_element (plain o) (tree_mark o position) ≡ None)
        × (child_or_none (plain o) (tree_mark o parent) (tree_mark o before) ≡ None) × (is_in_subtree (plain o).rows (name_of (tree_mark o position)) (name_of (tree_mark o parent)) ≡ false)
    no_reasons =
        let inside = is_in_subtree (plain o).rows (name_of (tree_mark o position)) (name_of (tree_mark o parent)) in
        let n = none_found (tampers_cursors (plain o) ∷ needs_node (plain o) (tree_mark o parent) ∷ may_node (plain o) (tree_mark o before) ∷ needs_element (plain o) (tree_mark o position)
        ∷ child_or_none (plain o) (tree_mark o parent) (tree_mark o before) ∷ reason_if inside BelowItself ∷ []) allowed in
        (n.1.0, n.1.1.0, n.1.1.1.0, n.1.1.1.1.0, not_inside inside n.1.1.1.1.1.0)

    element : At_element l is.forest o refl position
    element = at_element l is.forest o refl position no_reasons.2

    -- where the node stands
    record Stood : Type 0 where
      pub place : At_place l element.name
      pub top_is : name_of (tree_mark o position) ≡ place.at.name.serial
      pub parent_is : name_of (tree_mark o parent) ≡ serial_in (node_in parent)
      pub start : run_start (plains (outline 2 (plugged place.steps (grove place.at place.below place.rest)))) place.at.name.serial ≡ suc (length (before_in place.steps))
      pub run : length (run_of (plains (outline 2 (plugged place.steps (grove place.at place.below place.rest)))) place.at.name.serial) ≡ length (outline (depth_in place.steps + 1) place.below)
      pub deep : depth_of (plains (outline 2 (plugged place.steps (grove place.at place.below place.rest)))) place.at.name.serial ≡ depth_in place.steps
      pub apart : ((serial_in (node_in parent) == place.at.name.serial) || is_in (serial_in (node_in parent)) (seen (outline (depth_in place.steps + 1) place.below))) ≡ false

    stood : Stood
    stood =
        let k = at_place l is.forest element.name element.live in let t = grove k.at k.below k.rest in
        let rows = outline 2 (plugged k.steps t) in let d = depth_in k.steps in let x = k.at.name.serial in let n = serial_in (node_in parent) in
        let at = node_position k.steps k.at k.below k.rest k.alone in
        let top : name_of (tree_mark o position) ≡ x = ap name_of element.mark ∙ ap (λ (a : Name). a.serial) (sym k.named) in
        let up : name_of (tree_mark o parent) ≡ n = ap name_of (at_node l is.forest o refl parent no_reasons.0).mark in
        let runs = position_run rows x d k.below at in
        record {
          place = k;
          top_is = top;
          parent_is = up;
          start = node_start k.steps k.at k.below k.rest k.alone;
          run = ap length runs ∙ length_seen (outline (d + 1) k.below);
          deep = position_depth rows x d k.below at;
          apart = sym ((λ i. is_in_subtree (plains (outline 2 (sym k.is i))) (top i) (up i)) ∙ ap (λ z. (n == x) || is_in n z) runs) ∙ no_reasons.4;
        }

    -- the parent isn't in the subtree, so that its depth is the same without it
    parent_out : (w : Stood) → is_in (serial_in (node_in parent)) (seen (part_rows (depth_in w.place.steps) w.place.at w.place.below)) ≡ false
    parent_out w =
        let n = serial_in (node_in parent) in let x = w.place.at.name.serial in let low = is_in n (seen (outline (depth_in w.place.steps + 1) w.place.below)) in
        let both = or_parts (n == x) low w.apart in
        ap (λ b. b || low) (ne_eqb x n (λ e. true≢false (sym (eq-eqb n x (sym e)) ∙ both.0))) ∙ both.1

    stays : (w : Stood) (b : Option Name) (a : Name) → b ≡ place_in before → a ≡ name_in position → (b ≡ Some a → ⊥)
        → Stays l w.place.steps w.place.at w.place.below w.place.rest w.place.stands (node_in parent) (place_in before)
    stays w b a at_b named other =
        let k = w.place in let pl = place_here l is.forest o refl parent before no_reasons.0 no_reasons.1 no_reasons.3 in
        let up = at_node l is.forest o refl parent no_reasons.0 in
        record {
          parent_live = up.live;
          parent_stays = λ q e h. true≢false (sym (inside q h) ∙ ap (λ z. (serial_in z == k.at.name.serial) || is_in (serial_in z) (seen (outline (depth_in k.steps + 1) k.below))) (sym e) ∙ w.apart);
          before_live = λ c e. named_live l is.forest o refl c (pl.before_named c e);
          before_up = λ c e. child_parent l is.forest o refl (node_in parent) up.live c (named_live l is.forest o refl c (pl.before_named c e)) (pl.child c e);
          before_other = λ c e h. other (at_b ∙ e ∙ ap Some (h ∙ k.named ∙ sym (named ∙ element.is)));
        }
      where
        inside : (q : Name) → (q ≡ w.place.at.name) ⊎ Has q w.place.below → ((q.serial == w.place.at.name.serial) || is_in q.serial (seen (outline (depth_in w.place.steps + 1) w.place.below))) ≡ true
        inside q h = elim h [
          | inl e ↦ ap (λ b. b || is_in q.serial (seen (outline (depth_in w.place.steps + 1) w.place.below))) (eq-eqb q.serial w.place.at.name.serial (ap (λ (z : Name). z.serial) e))
          | inr low ↦ or_second (q.serial == w.place.at.name.serial) (is_in q.serial (seen (outline (depth_in w.place.steps + 1) w.place.below))) (has_in q (depth_in w.place.steps + 1) w.place.below low)
        ]

    pub relocated : (m : Links X) (p b : Option Name) (a : Name) → p ≡ node_in parent → b ≡ place_in before → a ≡ name_in position → (b ≡ Some a → ⊥) → Moves l a p b m
        → Relocated g limit l m (with_subtree_moved (plain o).rows (tree_mark o parent) (tree_mark o before) (tree_mark o position))
    relocated m p b a at_p at_b named other moves = by_place stood
      where
        by_place : Stood → Relocated g limit l m (with_subtree_moved (plain o).rows (tree_mark o parent) (tree_mark o before) (tree_mark o position))
        by_place w =
            let k = w.place in let t = grove k.at k.below k.rest in let st = stays w b a at_b named other in
            let np = new_place l k.steps k.at k.below k.rest k.stands (node_in parent) (place_in before) st in
            let u = plugged np.to (grove k.at k.below np.rest) in
            let moved : Moved l m u = moves k.steps np.to k.at k.below k.rest np.rest k.stands (k.named ∙ sym (named ∙ element.is)) np.same (at_p ∙ np.parent_is) (at_b ∙ np.before_is) in
            let more = plugged_size np.to np.rest (grove k.at k.below np.rest) (1 + size k.below) (omega arith) in
            let were = plugged_size k.steps k.rest t (1 + size k.below) (omega arith) in let left = ap size np.same in
            let live = live_of l (plugged k.steps t) k.stands k.at.name (plugged_has k.steps t k.at.name (inl refl)) in
            let off = others_are l is.forest o refl before (tree_mark o position) k.at.name no_reasons.1 w.top_is live k.alone.not_root st.before_live st.before_other in
            let depth : child_depth (plain o).rows (tree_mark o parent) ≡ depth_in np.to =
            (λ i. depth_of (plains (outline 2 (sym k.is i))) (w.parent_is i) + 1) ∙ ap (λ d. d + 1) (depth_left k.steps k.at k.below k.rest (serial_in (node_in parent)) (parent_out w)) ∙ np.depth in
            let rows = put_there o.rows k.steps k.at k.below k.rest (ap (outline 2) (sym k.is)) (tree_mark o position) w.top_is w.start w.run w.deep (tree_mark o parent) (tree_mark o before) (node_in parent) (place_in before) np off
            (places_are l is.forest o refl parent before no_reasons.0 no_reasons.1) depth in
            same_nodes g limit l m (plugged k.steps t) u (with_subtree_moved (plain o).rows (tree_mark o parent) (tree_mark o before) (tree_mark o position)) is k.stands moved (omega (arith, more, were, left)) (had k np) rows
          where
            had : (k : At_place l element.name) (np : New_place (plugged k.steps k.rest) (node_in parent) (place_in before)) (c : Name) → Has c (plugged np.to (grove k.at k.below np.rest)) → Has c (plugged k.steps (grove k.at k.below k.rest))
            had k np c h =
                let t = grove k.at k.below k.rest in
                let still = λ (q : Has c (plugged np.to np.rest)). still_has l k.steps k.at k.below k.rest k.stands c (subst (λ z. Has c z) np.same q) in
                elim (plugged_either np.to (grove k.at k.below np.rest) c h) [
                  | inl z ↦ elim z [
                    | inl e ↦ plugged_has k.steps t c (inl e)
                    | inr q ↦ elim q [ inl low ↦ plugged_has k.steps t c (inr (inl low)) | inr r ↦ still (plugged_has np.to np.rest c r) ]
                  ]
                  | inr m ↦ still (around_has np.to np.rest c m)
                ]

    -- it would go before itself
    pub unmoved : (b : Option Name) (a : Name) → b ≡ place_in before → a ≡ name_in position → b ≡ Some a → IsAfter o o (with_rows (plain o) (with_subtree_moved (plain o).rows (tree_mark o parent) (tree_mark o before) (tree_mark o position)))
    unmoved b a at_b named self =
        let top : name_of (tree_mark o position) ≡ a.serial = ap name_of element.mark ∙ ap (λ (z : Name). z.serial) (sym (named ∙ element.is)) in
        let test = same_are l is.forest o refl before (tree_mark o position) a no_reasons.1 top (sym at_b ∙ self) in
        record {
          plainly = ap (with_rows (plain o)) (sym (cond-true _ _ _ test));
          slots = all_from (λ name. name.serial < l.nodes.next_serial → IsTrue (is_among (names (outline 2 (forest_in l))) name)) (outline 2 (forest_in l)) (λ c h lt. has_among c (outline 2 (forest_in l)) h);
        }

-- the variable of a splice from the tree itself keeps its value, and its node
pub variable_kept : {T : Type 0} (o new : Object Name (Node T)) (parent before position : Cursor) (r : Result Done Fault) → IfOk r (λ _. tree_mark new position ≡ tree_mark o position)
    → Changing Same (splice_subtree_call (plain o) (tree_mark o parent) (tree_mark o before) (tree_mark o position)) o new r
    → Changing (λ _ mark. NodeMarks new position mark) (splice_subtree_from_self_call (plain o) (tree_mark o parent) (tree_mark o before) (tree_mark o position)) o new r
variable_kept o new parent before position (Ok x) kept h = (h.0, h.1, kept)
variable_kept o new parent before position (Err (fault.Raised reason)) kept h = h
variable_kept o new parent before position (Err fault.NoMemory) kept h = h

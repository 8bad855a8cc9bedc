-- What a tree's rows are after all children of a node went to another place.
use Rattle.std.proofs.Common.{◌≡◌, ℕ, ◌+◌, false, true≢false, List, [], ◌∷◌, ◌++◌, length, Option, Some, None, IsTrue, refl, sym, ap, ◌∙◌, subst, inl, inr, arith, ne_eqb, eq-eqb, append_assoc}
use Rattle.std.specs.Prelude.{◌==◌, ◌<◌}
use Rattle.std.specs.Option.{ForSome}
use Rattle.std.proofs.lemmas.Bool.{cond-true, cond-false}
use Rattle.ac_base.specs.declared.limit.Limit.{Limit}
use Rattle.ac_base.specs.declared.name.Name.{Name}
use Rattle.ac_base.specs.declared.cursor.Cursor.{Cursor}
use Rattle.ac_base.specs.declared.reason.Reason.TheVariants.{BelowItself}
use Rattle.ac_base.specs.Guards.{GuardCounts}
use Rattle.ac_base.specs.Rows.{names}
use Rattle.ac_base.proofs.FirstReason.{none_found}
use Rattle.ac_pool.specs.Contents.{IsLive}
use Rattle.ac_chain.proofs.Grows.{all_from, put_cut}
use Rattle.ac_chain.proofs.Marks.{has_among}
use Rattle.ac_model.specs.Rows.{Node, cut, put}
use Rattle.ac_model.specs.Objects.{Object, plain, plains, with_rows}
use Rattle.ac_model.specs.Letters.{name_of, is_among, tampers_cursors, reason_if}
use Rattle.ac_model.specs.Calls.{IsAfter}
use Rattle.ac_model.specs.Cursors.{place_in}
use Rattle.ac_model.specs.Outline.{Spot, root, spot_place, depth_at, depth_of, run_of, run_start, is_in}
use Rattle.ac_model.specs.Trees.{tree_mark, needs_node, may_node, child_or_none, child_place, child_depth, without_run, run_at_depth, with_children_moved, splice_children_call}
use Rattle.ac_model.proofs.Plains.{plains-append, length-plains}
use Rattle.ac_tree.specs.declared.links.Links.{Links}
use Rattle.ac_tree.specs.Forests.{Forest, bare, beside, Step, outline, size, Has, plugged, depth_in, before_in, after_in}
use Rattle.ac_tree.specs.TreeFields.{forest_in, IsForest}
use Rattle.ac_tree.specs.TreeRows.{tree_object, IsTree}
use Rattle.ac_tree.specs.TreeCursors.{node_in, serial_in}
use Rattle.ac_tree.specs.Splicing.{Moved, MovesChildren}
use Rattle.ac_tree.proofs.Places.{plugged_has, around_has, plugged_either, outline_plugged, plugged_size, size_is}
use Rattle.ac_tree.proofs.Forests.{forest-is}
use Rattle.ac_tree.proofs.Outlines.{seen, seen-append, position_run}
use Rattle.ac_tree.proofs.Judging.{at_node}
use Rattle.ac_tree.proofs.Holes.{Under, under_of, start_under, run_under, named_live, child_parent}
use Rattle.ac_tree.proofs.Children.{place_here}
use Rattle.ac_tree.proofs.Ancestors.{has_in}
use Rattle.ac_tree.proofs.Leaves.{cut_middle}
use Rattle.ac_tree.proofs.NewPlaces.{row_place, New_place}
use Rattle.ac_tree.proofs.ReparentedLinks.{outline_beside, size_beside, beside_either}
use Rattle.ac_tree.proofs.ChildPlaces.{Remains, child_place as new_child_place, still_there}
use Rattle.ac_tree.proofs.Subtrees.{below_moved}
use Rattle.ac_tree.proofs.SplicedRows.{not_inside, depth_cut, three_plains, places_are, Relocated, same_nodes}

module _ {X : Type 0} where
  -- the serials of two nodes, where none is the root's
  pub nodes_differ : (l : Links X) → IsForest l → (a b : Option Name) → ForSome a (IsLive l.nodes) → ForSome b (IsLive l.nodes) → (a ≡ b → ⊥) → (serial_in a == serial_in b) ≡ false
  nodes_differ l s a b p q other = ne_eqb (serial_in a) (serial_in b) (by_nodes a b p q other)
    where
      by_nodes : (a b : Option Name) → ForSome a (IsLive l.nodes) → ForSome b (IsLive l.nodes) → (a ≡ b → ⊥) → serial_in a ≡ serial_in b → ⊥
      by_nodes None None p q other e = other refl
      by_nodes None (Some b) p q other e = let low = (s.sound.issued b (q b refl)).0 in omega (arith, e, low)
      by_nodes (Some a) None p q other e = let low = (s.sound.issued a (p a refl)).0 in omega (arith, e, low)
      by_nodes (Some a) (Some b) p q other e = other (ap Some (s.sound.serials a b (p a refl) (q b refl) e))

  -- the depth of a node is the same without what is below another, where it isn't in it
  depth_without : (steps : List (Step X)) (below : Forest X) (n : ℕ) → is_in n (seen (outline (depth_in steps) below)) ≡ false → depth_of (plains (outline 2 (plugged steps below))) n ≡ depth_of (plains (outline 2 (plugged steps bare))) n
  depth_without steps below n out =
      let mid = outline (depth_in steps) below in
      let at : List Spot → ℕ = λ z. depth_at (root ∷ z) (spot_place (root ∷ z) n) in
      ap at (ap seen (outline_plugged steps below) ∙ seen-append (before_in steps) (mid ++ after_in steps) ∙ ap (λ z. seen (before_in steps) ++ z) (seen-append mid (after_in steps)))
      ∙ depth_cut (root ∷ seen (before_in steps)) (seen mid) (seen (after_in steps)) n out
      ∙ sym (ap at (ap seen (outline_plugged steps bare) ∙ seen-append (before_in steps) (after_in steps)))

module _ {X : Type 0} (g : GuardCounts) (limit : Limit) (l : Links X) (is : IsTree limit l) (parent before source : Cursor) where
  abbrev o : Object Name (Node X)
  o = tree_object g limit l

  module _ (allowed : (splice_children_call (plain o) (tree_mark o parent) (tree_mark o before) (tree_mark o source)).reason ≡ None) where
    no_reasons : (needs_node (plain o) (tree_mark o parent) ≡ None) × (may_node (plain o) (tree_mark o before) ≡ None) × (needs_node (plain o) (tree_mark o source) ≡ None)
        × (child_or_none (plain o) (tree_mark o parent) (tree_mark o before) ≡ None) × (is_in (name_of (tree_mark o parent)) (run_of (plain o).rows (name_of (tree_mark o source))) ≡ false)
    no_reasons =
        let inside = is_in (name_of (tree_mark o parent)) (run_of (plain o).rows (name_of (tree_mark o source))) in
        let n = none_found (tampers_cursors (plain o) ∷ needs_node (plain o) (tree_mark o parent) ∷ may_node (plain o) (tree_mark o before) ∷ needs_node (plain o) (tree_mark o source)
        ∷ child_or_none (plain o) (tree_mark o parent) (tree_mark o before) ∷ reason_if inside BelowItself ∷ []) allowed in
        (n.1.0, n.1.1.0, n.1.1.1.0, n.1.1.1.1.0, not_inside inside n.1.1.1.1.1.0)

    pub live : ForSome (node_in source) (IsLive l.nodes)
    live = (at_node l is.forest o refl source no_reasons.2).live

    parent_live : ForSome (node_in parent) (IsLive l.nodes)
    parent_live = (at_node l is.forest o refl parent no_reasons.0).live

    abbrev u : Under l (node_in source)
    u = under_of l is.forest (node_in source) live

    source_is : name_of (tree_mark o source) ≡ serial_in (node_in source)
    source_is = ap name_of (at_node l is.forest o refl source no_reasons.2).mark

    parent_is : name_of (tree_mark o parent) ≡ serial_in (node_in parent)
    parent_is = ap name_of (at_node l is.forest o refl parent no_reasons.0).mark

    rows_are : outline 2 (forest_in l) ≡ outline 2 (plugged u.steps u.below)
    rows_are = ap (outline 2) (forest-is l (plugged u.steps u.below) u.stands)

    -- the parent isn't below the node
    parent_out : is_in (serial_in (node_in parent)) (seen (outline (depth_in u.steps) u.below)) ≡ false
    parent_out =
        let run : run_of (plain o).rows (name_of (tree_mark o source)) ≡ seen (outline (depth_in u.steps) u.below) =
        (λ i. run_of (plains (rows_are i)) (source_is i)) ∙ position_run (outline 2 (plugged u.steps u.below)) (serial_in (node_in source)) u.depth u.below u.position ∙ ap (λ d. seen (outline d u.below)) (sym u.deep) in
        sym (λ i. is_in (parent_is i) (run i)) ∙ no_reasons.4

    remains : (node_in parent ≡ node_in source → ⊥) → Remains l u.steps u.below u.stands (node_in parent) (place_in before)
    remains other =
        let pl = place_here l is.forest o refl parent before no_reasons.0 no_reasons.1 no_reasons.3 in
        record {
          parent_live = parent_live;
          parent_stays = λ q e h. true≢false (sym (has_in q (depth_in u.steps) u.below h) ∙ ap (λ z. is_in (serial_in z) (seen (outline (depth_in u.steps) u.below))) (sym e) ∙ parent_out);
          parent_other = λ e. other (e ∙ u.parent_is);
          before_live = λ c e. named_live l is.forest o refl c (pl.before_named c e);
          before_up = λ c e. child_parent l is.forest o refl (node_in parent) parent_live c (named_live l is.forest o refl c (pl.before_named c e)) (pl.child c e);
        }

    cut_is : without_run (plain o).rows (tree_mark o source) ≡ plains (outline 2 (plugged u.steps bare))
    cut_is =
        let mid = outline (depth_in u.steps) u.below in
        let start : run_start (plain o).rows (name_of (tree_mark o source)) ≡ length (plains (before_in u.steps)) = ap (run_start (plain o).rows) source_is ∙ start_under l is.forest o refl (node_in source) u ∙ sym (length-plains (before_in u.steps)) in
        let long : length (run_of (plain o).rows (name_of (tree_mark o source))) ≡ length (plains mid) =
        ap (λ n. length (run_of (plain o).rows n)) source_is ∙ run_under l is.forest o refl (node_in source) u ∙ sym (size_is (depth_in u.steps) u.below) ∙ sym (length-plains mid) in
        (λ i. cut ((ap plains (rows_are ∙ outline_plugged u.steps u.below) ∙ three_plains (before_in u.steps) mid (after_in u.steps)) i) (start i) (long i))
        ∙ cut_middle (plains (before_in u.steps)) (plains mid) (plains (after_in u.steps))
        ∙ sym (ap plains (outline_plugged u.steps bare) ∙ plains-append (before_in u.steps) (after_in u.steps))

    part_is : (e : ℕ) → run_at_depth e (plain o).rows (tree_mark o source) ≡ plains (outline e u.below)
    part_is e = ap (run_at_depth e (plain o).rows) (at_node l is.forest o refl source no_reasons.2).mark ∙ below_moved l is.forest (node_in source) live e

    -- the rows once the children are put where they go
    put_there : (np : New_place (plugged u.steps bare) (node_in parent) (place_in before)) → (node_in parent ≡ node_in source → ⊥) → plains (outline 2 (plugged np.to (beside u.below np.rest))) ≡ with_children_moved (plain o).rows (tree_mark o parent) (tree_mark o before) (tree_mark o source)
    put_there np other =
        let e = depth_in np.to in let ys = outline e np.rest ++ after_in np.to in let left = without_run (plain o).rows (tree_mark o source) in
        let cuts : left ≡ plains (before_in np.to) ++ plains ys = cut_is ∙ ap (λ z. plains (outline 2 z)) (sym np.same) ∙ ap plains (outline_plugged np.to np.rest) ∙ plains-append (before_in np.to) ys in
        let at : child_place left (tree_mark o parent) (tree_mark o before) ≡ length (plains (before_in np.to)) =
        places_are l is.forest o refl parent before no_reasons.0 no_reasons.1 left ∙ ap (λ z. row_place z (node_in parent) (place_in before)) cut_is ∙ np.place ∙ sym (length-plains (before_in np.to)) in
        let depth : child_depth (plain o).rows (tree_mark o parent) ≡ e =
        (λ i. depth_of (plains (rows_are i)) (parent_is i) + 1) ∙ ap (λ d. d + 1) (depth_without u.steps u.below (serial_in (node_in parent)) parent_out) ∙ np.depth in
        let part : run_at_depth (child_depth (plain o).rows (tree_mark o parent)) (plain o).rows (tree_mark o source) ≡ plains (outline e u.below) = ap (λ d. run_at_depth d (plain o).rows (tree_mark o source)) depth ∙ part_is e in
        let off : (name_of (tree_mark o parent) == name_of (tree_mark o source)) ≡ false = (λ i. parent_is i == source_is i) ∙ nodes_differ l is.forest (node_in parent) (node_in source) parent_live live other in
        ap plains (outline_plugged np.to (beside u.below np.rest) ∙ ap (λ z. before_in np.to ++ (z ++ after_in np.to)) (outline_beside e u.below np.rest) ∙ ap (λ z. before_in np.to ++ z) (append_assoc (outline e u.below) (outline e np.rest) (after_in np.to)))
        ∙ three_plains (before_in np.to) (outline e u.below) ys
        ∙ sym (append_assoc (plains (before_in np.to)) (plains (outline e u.below)) (plains ys))
        ∙ sym (put_cut (plains (before_in np.to)) (plains ys) (plains (outline e u.below)))
        ∙ sym (λ i. put (cuts i) (at i) (part i))
        ∙ sym (cond-false _ _ _ off)

    pub children_joined : (m : Links X) (p b a : Option Name) → p ≡ node_in parent → b ≡ place_in before → a ≡ node_in source → (p ≡ a → ⊥) → MovesChildren l a p b m
        → Relocated g limit l m (with_children_moved (plain o).rows (tree_mark o parent) (tree_mark o before) (tree_mark o source))
    children_joined m p b a at_p at_b at_a other moves =
        let off : node_in parent ≡ node_in source → ⊥ = λ e. other (at_p ∙ e ∙ sym at_a) in
        let np = new_child_place l u.steps u.below u.stands (node_in parent) (place_in before) (remains off) in
        let t = beside u.below np.rest in
        let moved : Moved l m (plugged np.to t) = moves u.steps np.to u.below np.rest u.stands (u.parent_is ∙ sym at_a) u.none_before np.same (at_p ∙ np.parent_is) (at_b ∙ np.before_is) in
        let more = plugged_size np.to np.rest t (size u.below) (size_beside u.below np.rest) in
        let were = plugged_size u.steps bare u.below (size u.below) (omega arith) in let left = ap size np.same in
        same_nodes g limit l m (plugged u.steps u.below) (plugged np.to t) (with_children_moved (plain o).rows (tree_mark o parent) (tree_mark o before) (tree_mark o source)) is u.stands moved (omega (arith, more, were, left)) (had np) (put_there np off)
      where
        had : (np : New_place (plugged u.steps bare) (node_in parent) (place_in before)) (c : Name) → Has c (plugged np.to (beside u.below np.rest)) → Has c (plugged u.steps u.below)
        had np c h =
            let still = λ (q : Has c (plugged np.to np.rest)). still_there l u.steps u.below u.stands c (subst (λ z. Has c z) np.same q) in
            elim (plugged_either np.to (beside u.below np.rest) c h) [
              | inl z ↦ elim (beside_either u.below np.rest c z) [ inl low ↦ plugged_has u.steps u.below c low | inr r ↦ still (plugged_has np.to np.rest c r) ]
              | inr m ↦ still (around_has np.to np.rest c m)
            ]

    -- they are the parent's own
    pub children_unmoved : (p a : Option Name) → p ≡ node_in parent → a ≡ node_in source → p ≡ a → IsAfter o o (with_rows (plain o) (with_children_moved (plain o).rows (tree_mark o parent) (tree_mark o before) (tree_mark o source)))
    children_unmoved p a at_p at_a same =
        let test = eq-eqb (name_of (tree_mark o parent)) (name_of (tree_mark o source)) (parent_is ∙ ap serial_in (sym at_p ∙ same ∙ at_a) ∙ sym source_is) in
        record {
          plainly = ap (with_rows (plain o)) (sym (cond-true _ _ _ test));
          slots = all_from (λ name. name.serial < l.nodes.next_serial → IsTrue (is_among (names (outline 2 (forest_in l))) name)) (outline 2 (forest_in l)) (λ c h lt. has_among c (outline 2 (forest_in l)) h);
        }

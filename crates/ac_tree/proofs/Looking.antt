-- What the questions about a node answer, from its links.
use Rattle.std.proofs.Common.{◌≡◌, ℕ, ℤ, pos, suc, ◌+◌, Bool, true, false, ◌||◌, List, [], ◌∷◌, ◌++◌, length, reverse, Option, Some, None, is_none, Ok, Bor, refl, sym, ap, ◌∙◌, subst, inl, inr, arith, eq-eqb, ne_eqb}
use Rattle.std.specs.Prelude.{◌==◌, slice_get}
use Rattle.std.specs.Option.{ForSome, option_map}
use Rattle.std.proofs.lemmas.Bool.{cond-true, cond-false, cases_Bool}
use Rattle.ac_base.specs.declared.name.Name.{Name}
use Rattle.ac_base.specs.declared.cursor.Cursor.{Cursor}
use Rattle.ac_base.specs.declared.cursor.Cursor.TheVariants.{NoElement, At}
use Rattle.ac_base.specs.FirstReason.{first_reason}
use Rattle.ac_base.specs.Rows.{Row, row}
use Rattle.ac_pool.specs.Contents.{Contents, value_of, IsLive, IsSound}
use Rattle.ac_model.specs.Rows.{Node, node, value_at}
use Rattle.ac_model.specs.Objects.{Object, plain, plains}
use Rattle.ac_model.specs.Letters.{no_mark, mark_at, name_of}
use Rattle.ac_model.specs.Cursors.{cursor_at, name_in}
use Rattle.ac_model.specs.Calls.{Looking, Same, Lends}
use Rattle.ac_model.specs.Outline.{depth_of, subtree_length, children_of, parent_of, siblings_of, siblings_by, next_after, last_before, is_in}
use Rattle.ac_model.specs.Trees as trees
use Rattle.ac_model.specs.Trees.{tree_mark, needs_node, may_node, needs_element, is_root, mark_of_spot, unless_none}
use Rattle.ac_tree.specs.declared.links.TreeNode.{TreeNode}
use Rattle.ac_tree.specs.declared.links.Links.{Links}
use Rattle.ac_tree.specs.Forests.{Forest, bare, grove, Step, under, after, outline, first_in, last_in, Has, Once, plugged, parent_in, prev_in, depth_in, before_in, after_in}
use Rattle.ac_tree.specs.TreeFields as fields
use Rattle.ac_tree.specs.TreeFields.{StandsFor, forest_in, IsForest, first_of, last_of}
use Rattle.ac_tree.specs.TreeCursors.{node_in, cursor_of_node, serial_in}
use Rattle.ac_chain.specs.TreeCursors.{NodeMarks}
use Rattle.ac_tree.proofs.Places.{IsAround, placed, parted, plugged_has, around_has, outline_plugged}
use Rattle.ac_tree.proofs.Forests.{live_of, Links_at, links_at, first_has, last_has, parent_has, prev_has}
use Rattle.ac_tree.proofs.Outlines.{Position, root_position, node_position, position_children, root_parent, IsAlone, AllAlone, parent_spot, parent_found, next_found, last_found, tops, first_top, last_top, elders, prev_elder, seen, before_out}
use Rattle.ac_tree.proofs.Judging.{mark_named, spot_mark, at_node, At_element, at_element, may_needed, needed, may_at, named_mark, node_mark}

module _ {X : Type 0} where
  -- where all names of a forest are live in a pool, each has a serial of its own
  pub alone_in : (c : Contents (TreeNode X)) → IsSound c → (steps : List (Step X)) (x : Row Name X) (below rest : Forest X) → Once (plugged steps (grove x below rest)) → ((a : Name) → Has a (plugged steps (grove x below rest)) → IsLive c a)
      → IsAlone steps x.name.serial
  alone_in c sound steps x below rest once lives =
      let t = grove x below rest in
      let live = lives x.name (plugged_has steps t x.name (inl refl)) in
      record {
        around = λ b h e.
            let same : b ≡ x.name = sound.serials b x.name (lives b (around_has steps t b h)) live e in
            (parted steps t once).apart x.name (inl refl) (subst (λ n. IsAround n steps) same h);
        not_root = λ e. let low = (sound.issued x.name live).0 in omega (arith, e, low);
      }

  pub all_alone_in : (c : Contents (TreeNode X)) → IsSound c → (steps : List (Step X)) (t : Forest X) → Once (plugged steps t) → ((a : Name) → Has a (plugged steps t) → IsLive c a) → AllAlone steps
  all_alone_in c sound [] t once lives = tt
  all_alone_in c sound (under x rest ∷ steps) t once lives = (alone_in c sound steps x t rest once lives, all_alone_in c sound steps (grove x t rest) once lives)
  all_alone_in c sound (after x below ∷ steps) t once lives = all_alone_in c sound steps (grove x below t) once lives

  pub alone_at : (l : Links X) (steps : List (Step X)) (x : Row Name X) (below rest : Forest X) → StandsFor l (plugged steps (grove x below rest)) → IsAlone steps x.name.serial
  alone_at l steps x below rest s = alone_in l.nodes s.sound steps x below rest s.once (λ a h. live_of l (plugged steps (grove x below rest)) s a h)

  pub all_alone : (l : Links X) (steps : List (Step X)) (t : Forest X) → StandsFor l (plugged steps t) → AllAlone steps
  all_alone l steps t s = all_alone_in l.nodes s.sound steps t s.once (λ a h. live_of l (plugged steps t) s a h)

  pub parent_serial : (steps : List (Step X)) → (parent_spot steps).name ≡ serial_in (parent_in steps)
  parent_serial [] = refl
  parent_serial (under x rest ∷ steps) = refl
  parent_serial (after x below ∷ steps) = parent_serial steps

  -- where a live name stands
  pub record At_place (l : Links X) (a : Name) : Type 0 where
    pub steps : List (Step X)
    pub at : Row Name X
    pub below : Forest X
    pub rest : Forest X
    pub is : plugged steps (grove at below rest) ≡ forest_in l
    pub named : at.name ≡ a
    pub stands : StandsFor l (plugged steps (grove at below rest))
    pub links : Links_at l steps at below rest
    pub alone : IsAlone steps at.name.serial
    pub all : AllAlone steps

  pub at_place : (l : Links X) → IsForest l → (a : Name) → IsLive l.nodes a → At_place l a
  at_place l s a live =
      let p = placed a [] (forest_in l) (s.all a live) in
      let t = grove p.at p.below p.rest in
      let stands : StandsFor l (plugged p.steps t) = subst (λ k. StandsFor l k) (sym p.is) s in
      record {
        steps = p.steps;
        at = p.at;
        below = p.below;
        rest = p.rest;
        is = p.is;
        named = p.named;
        stands = stands;
        links = links_at l p.steps p.at p.below p.rest stands;
        alone = alone_at l p.steps p.at p.below p.rest stands;
        all = all_alone l p.steps t stands;
      }

  -- a node, or the root, with what is below it
  pub record Stands_at (l : Links X) (node : Option Name) : Type 0 where
    pub depth : ℕ
    pub below : Forest X
    pub position : Position (outline 2 (forest_in l)) (serial_in node) depth below
    pub first : first_of l node ≡ first_in below
    pub last : last_of l node ≡ last_in below
    pub inside : (a : Name) → Has a below → IsLive l.nodes a

  pub stands_at : (l : Links X) → IsForest l → (node : Option Name) → ((a : Name) → node ≡ Some a → IsLive l.nodes a) → Stands_at l node
  stands_at l s None live = record {
    depth = 1;
    below = forest_in l;
    position = root_position (forest_in l);
    first = s.framed.0;
    last = s.framed.1;
    inside = λ a h. live_of l (forest_in l) s a h;
  }
  stands_at l s (Some a) live =
      let p = at_place l s a (live a refl) in
      record {
        depth = depth_in p.steps;
        below = p.below;
        position = subst (λ n. Position (outline 2 (forest_in l)) n.serial (depth_in p.steps) p.below) p.named
            (subst (λ t. Position (outline 2 t) p.at.name.serial (depth_in p.steps) p.below) p.is (node_position p.steps p.at p.below p.rest p.alone));
        first = ap (λ n. first_of l (Some n)) (sym p.named) ∙ p.links.first;
        last = ap (λ n. last_of l (Some n)) (sym p.named) ∙ p.links.last;
        inside = λ b h. live_of l (plugged p.steps (grove p.at p.below p.rest)) p.stands b (plugged_has p.steps (grove p.at p.below p.rest) b (inr (inl h)));
      }

  leaf_is : (depth : ℕ) (t : Forest X) → is_none (first_in t) ≡ (length (tops depth t) == 0)
  leaf_is depth bare = refl
  leaf_is depth (grove x below rest) = sym (ne_eqb (suc (length (tops depth rest))) 0 (λ e. omega (arith, e)))

  value_there : (front : List (Row Name (Node X))) (r : Row Name (Node X)) (rest : List (Row Name (Node X))) → is_in r.name.serial (seen front) ≡ false → value_at (plains (front ++ r ∷ rest)) r.name.serial ≡ Some r.value
  value_there [] r rest out = ap (option_map (λ (q : Row ℕ (Node X)). q.value)) (cond-true _ _ _ (eq-eqb r.name.serial r.name.serial refl))
  value_there (f ∷ front) r rest out = elim (cases_Bool (f.name.serial == r.name.serial)) [
    | inl t ↦ absurd (let both : true ≡ false = sym (ap (λ b. b || is_in r.name.serial (seen front)) t) ∙ out in cc)
    | inr n ↦ ap (option_map (λ (q : Row ℕ (Node X)). q.value)) (cond-false _ _ _ n) ∙ value_there front r rest (sym (ap (λ b. b || is_in r.name.serial (seen front)) n) ∙ out)
  ]

  pub value_at_place : (steps : List (Step X)) (x : Row Name X) (below rest : Forest X) → IsAlone steps x.name.serial → value_at (plains (outline 2 (plugged steps (grove x below rest)))) x.name.serial ≡ Some (node (depth_in steps) x.value)
  value_at_place steps x below rest alone =
      let r = row x.name (node (depth_in steps) x.value) in
      ap (λ k. value_at (plains k) x.name.serial) (outline_plugged steps (grove x below rest))
      ∙ value_there (before_in steps) r ((outline (depth_in steps + 1) below ++ outline (depth_in steps) rest) ++ after_in steps) (before_out x.name.serial steps alone.around)

module _ {X : Type 0} (l : Links X) (s : IsForest l) (o : Object Name (Node X)) (rows_is : o.rows ≡ outline 2 (forest_in l)) where
  abbrev here : (c : Cursor) → needs_node (plain o) (tree_mark o c) ≡ None → Stands_at l (node_in c)
  here c h = stands_at l s (node_in c) (at_node l s o rows_is c h).live

  children_here : (c : Cursor) (h : needs_node (plain o) (tree_mark o c) ≡ None) → children_of (plain o).rows (name_of (tree_mark o c)) ≡ tops ((here c h).depth + 1) (here c h).below
  children_here c h =
      ap (λ m. children_of (plain o).rows (name_of m)) (at_node l s o rows_is c h).mark
      ∙ ap (λ k. children_of (plains k) (serial_in (node_in c))) rows_is
      ∙ position_children (outline 2 (forest_in l)) (serial_in (node_in c)) (here c h).depth (here c h).below (here c h).position

  pub first_child_looks : (c : Cursor) (at : Option Name) (name : Option Name) (r : Cursor) → needs_node (plain o) (tree_mark o c) ≡ None → at ≡ node_in c → name ≡ first_of l at → r ≡ cursor_at o.number name
      → Looking (NodeMarks o) (trees.first_child_call (plain o) (tree_mark o c)) (Ok r)
  first_child_looks c at name r h is found e =
      let k = here c h in
      let first : name ≡ first_in k.below = found ∙ ap (first_of l) is ∙ k.first in (
        ap (λ m. first_reason (m ∷ [])) h,
        ap (tree_mark o) (e ∙ ap (cursor_at o.number) first) ∙ named_mark l s o rows_is (first_in k.below) (λ a q. k.inside a (first_has k.below a q))
            ∙ sym (ap (λ z. mark_of_spot (plain o) (slice_get z 0)) (children_here c h) ∙ spot_mark (plain o) (slice_get (tops (k.depth + 1) k.below) 0) ∙ ap (mark_named o.number) (first_top (k.depth + 1) k.below)),
      )

  pub last_child_looks : (c : Cursor) (at : Option Name) (name : Option Name) (r : Cursor) → needs_node (plain o) (tree_mark o c) ≡ None → at ≡ node_in c → name ≡ last_of l at → r ≡ cursor_at o.number name
      → Looking (NodeMarks o) (trees.last_child_call (plain o) (tree_mark o c)) (Ok r)
  last_child_looks c at name r h is found e =
      let k = here c h in
      let last : name ≡ last_in k.below = found ∙ ap (last_of l) is ∙ k.last in (
        ap (λ m. first_reason (m ∷ [])) h,
        ap (tree_mark o) (e ∙ ap (cursor_at o.number) last) ∙ named_mark l s o rows_is (last_in k.below) (λ a q. k.inside a (last_has k.below a q))
            ∙ sym (ap (λ z. mark_of_spot (plain o) (slice_get (reverse z) 0)) (children_here c h) ∙ spot_mark (plain o) (slice_get (reverse (tops (k.depth + 1) k.below)) 0) ∙ ap (mark_named o.number) (last_top (k.depth + 1) k.below)),
      )

  pub leaf_here : (c : Cursor) (at : Option Name) (name : Option Name) (h : needs_node (plain o) (tree_mark o c) ≡ None) → at ≡ node_in c → name ≡ first_of l at → is_none name ≡ trees.is_leaf (plain o) (tree_mark o c)
  leaf_here c at name h is found =
      let k = here c h in
      ap is_none (found ∙ ap (first_of l) is ∙ k.first) ∙ leaf_is (k.depth + 1) k.below ∙ sym (ap (λ z. length z == 0) (children_here c h))

  pub is_leaf_looks : (c : Cursor) (at : Option Name) (name : Option Name) (r : Bool) → needs_node (plain o) (tree_mark o c) ≡ None → at ≡ node_in c → name ≡ first_of l at → r ≡ is_none name
      → Looking Same (trees.is_leaf_call (plain o) (tree_mark o c)) (Ok r)
  is_leaf_looks c at name r h is found e = (
    ap (λ m. first_reason (m ∷ [])) (may_needed l s o rows_is c h),
    e ∙ leaf_here c at name h is found ∙ sym (ap (λ m. unless_none m false (trees.is_leaf (plain o) (tree_mark o c))) (at_node l s o rows_is c h).mark),
  )

  pub child_count_looks : (c : Cursor) (at : Option Name) (n : ℕ) (r : ℤ) → needs_node (plain o) (tree_mark o c) ≡ None → at ≡ node_in c → n ≡ length (children_of (plains (outline 2 (forest_in l))) (serial_in at)) → r ≡ pos n
      → Looking Same (trees.child_count_call (plain o) (tree_mark o c)) (Ok r)
  child_count_looks c at n r h is found e =
      let count : n ≡ length (children_of (plain o).rows (name_of (tree_mark o c))) =
      found ∙ ap (λ a. length (children_of (plains (outline 2 (forest_in l))) (serial_in a))) is ∙ sym (ap (λ k. length (children_of (plains k) (serial_in (node_in c)))) rows_is)
      ∙ sym (ap (λ m. length (children_of (plain o).rows (name_of m))) (at_node l s o rows_is c h).mark) in (
        ap (λ m. first_reason (m ∷ [])) h,
        e ∙ ap pos count,
      )

  pub depth_looks : (c : Cursor) (at : Option Name) (n : ℕ) (r : ℤ) → needs_node (plain o) (tree_mark o c) ≡ None → at ≡ node_in c → n ≡ depth_of (plains (outline 2 (forest_in l))) (serial_in at) → r ≡ pos n
      → Looking Same (trees.depth_call (plain o) (tree_mark o c)) (Ok r)
  depth_looks c at n r h is found e =
      let depth : n ≡ depth_of (plain o).rows (name_of (tree_mark o c)) =
      found ∙ ap (λ a. depth_of (plains (outline 2 (forest_in l))) (serial_in a)) is ∙ sym (ap (λ k. depth_of (plains k) (serial_in (node_in c))) rows_is)
      ∙ sym (ap (λ m. depth_of (plain o).rows (name_of m)) (at_node l s o rows_is c h).mark) in (
        ap (λ m. first_reason (m ∷ [])) (may_needed l s o rows_is c h),
        e ∙ ap pos depth ∙ sym (ap (λ m. unless_none m (pos 0) (pos (depth_of (plain o).rows (name_of (tree_mark o c))))) (at_node l s o rows_is c h).mark),
      )

  pub subtree_looks : (c : Cursor) (at : Option Name) (n : ℕ) (r : ℤ) → needs_node (plain o) (tree_mark o c) ≡ None → at ≡ node_in c → n ≡ subtree_length (plains (outline 2 (forest_in l))) (serial_in at) → r ≡ pos n
      → Looking Same (trees.subtree_node_count_call (plain o) (tree_mark o c)) (Ok r)
  subtree_looks c at n r h is found e =
      let count : n ≡ subtree_length (plain o).rows (name_of (tree_mark o c)) =
      found ∙ ap (λ a. subtree_length (plains (outline 2 (forest_in l))) (serial_in a)) is ∙ sym (ap (λ k. subtree_length (plains k) (serial_in (node_in c))) rows_is)
      ∙ sym (ap (λ m. subtree_length (plain o).rows (name_of m)) (at_node l s o rows_is c h).mark) in (
        ap (λ m. first_reason (m ∷ [])) (may_needed l s o rows_is c h),
        e ∙ ap pos count ∙ sym (ap (λ m. unless_none m (pos 0) (pos (subtree_length (plain o).rows (name_of (tree_mark o c))))) (at_node l s o rows_is c h).mark),
      )

  -- the node at a cursor is live
  pub node_live : (c : Cursor) (at : Option Name) → needs_node (plain o) (tree_mark o c) ≡ None → at ≡ node_in c → ForSome at (IsLive l.nodes)
  node_live c at h is = λ a e. (at_node l s o rows_is c h).live a (sym is ∙ e)

  -- the root, and No_Element, have neither a parent nor siblings
  pub parent_of_none : (c : Cursor) (r : Cursor) → may_node (plain o) (tree_mark o c) ≡ None → None ≡ node_in c → r ≡ NoElement → Looking (NodeMarks o) (trees.parent_call (plain o) (tree_mark o c)) (Ok r)
  parent_of_none NoElement r h is e = (refl, ap (tree_mark o) e)
  parent_of_none (At object a) r h is e =
      let at = at_node l s o rows_is (At object a) (sym (may_at o object a) ∙ h) in
      let mark : tree_mark o (At object a) ≡ mark_at o.number 0 = at.mark ∙ ap (λ n. mark_at o.number (serial_in n)) (sym is) in (
        ap (λ m. first_reason (m ∷ [])) h,
        ap (tree_mark o) e ∙ sym (ap (λ m. unless_none m no_mark (mark_of_spot (plain o) (parent_of (plain o).rows (name_of m)))) mark ∙ ap (λ k. mark_of_spot (plain o) (parent_of (plains k) 0)) rows_is
            ∙ ap (mark_of_spot (plain o)) (root_parent (forest_in l))),
      )

  root_siblings : siblings_of (plain o).rows 0 ≡ []
  root_siblings = ap (λ k. siblings_of (plains k) 0) rows_is ∙ ap (siblings_by (plains (outline 2 (forest_in l)))) (root_parent (forest_in l))

  pub next_of_none : (c : Cursor) (r : Cursor) → may_node (plain o) (tree_mark o c) ≡ None → None ≡ node_in c → r ≡ NoElement → Looking (NodeMarks o) (trees.next_sibling_call (plain o) (tree_mark o c)) (Ok r)
  next_of_none NoElement r h is e = (refl, ap (tree_mark o) e)
  next_of_none (At object a) r h is e =
      let at = at_node l s o rows_is (At object a) (sym (may_at o object a) ∙ h) in
      let mark : tree_mark o (At object a) ≡ mark_at o.number 0 = at.mark ∙ ap (λ n. mark_at o.number (serial_in n)) (sym is) in (
        ap (λ m. first_reason (m ∷ [])) h,
        ap (tree_mark o) e ∙ sym (ap (λ m. unless_none m no_mark (mark_of_spot (plain o) (next_after (siblings_of (plain o).rows (name_of m)) (name_of m)))) mark ∙ ap (λ k. mark_of_spot (plain o) (next_after k 0)) root_siblings),
      )

  pub prev_of_none : (c : Cursor) (r : Cursor) → may_node (plain o) (tree_mark o c) ≡ None → None ≡ node_in c → r ≡ NoElement → Looking (NodeMarks o) (trees.previous_sibling_call (plain o) (tree_mark o c)) (Ok r)
  prev_of_none NoElement r h is e = (refl, ap (tree_mark o) e)
  prev_of_none (At object a) r h is e =
      let at = at_node l s o rows_is (At object a) (sym (may_at o object a) ∙ h) in
      let mark : tree_mark o (At object a) ≡ mark_at o.number 0 = at.mark ∙ ap (λ n. mark_at o.number (serial_in n)) (sym is) in (
        ap (λ m. first_reason (m ∷ [])) h,
        ap (tree_mark o) e ∙ sym (ap (λ m. unless_none m no_mark (mark_of_spot (plain o) (last_before (siblings_of (plain o).rows (name_of m)) (name_of m)))) mark ∙ ap (λ k. mark_of_spot (plain o) (last_before k 0)) root_siblings),
      )

  -- the mark of a cursor at a node
  mark_there : (c : Cursor) (a : Name) → Some a ≡ node_in c → needs_node (plain o) (tree_mark o c) ≡ None → tree_mark o c ≡ mark_at o.number a.serial
  mark_there c a is h = (at_node l s o rows_is c h).mark ∙ ap (λ n. mark_at o.number (serial_in n)) (sym is)

  pub live_there : (c : Cursor) (a : Name) → Some a ≡ node_in c → needs_node (plain o) (tree_mark o c) ≡ None → IsLive l.nodes a
  live_there c a is h = (at_node l s o rows_is c h).live a (sym is)

  pub parent_looks : (c : Cursor) (a : Name) (p : Option Name) (r : Cursor) → may_node (plain o) (tree_mark o c) ≡ None → Some a ≡ node_in c → p ≡ fields.parent_of l a → r ≡ cursor_of_node o.number p
      → Looking (NodeMarks o) (trees.parent_call (plain o) (tree_mark o c)) (Ok r)
  parent_looks c a p r may is found e =
      let h = needed l s o rows_is c a (sym is) may in
      let k = at_place l s a (live_there c a is h) in
      let up : p ≡ parent_in k.steps = found ∙ ap (fields.parent_of l) (sym k.named) ∙ k.links.parent in
      let there : parent_of (plain o).rows a.serial ≡ Some (parent_spot k.steps) =
      ap (λ z. parent_of (plains z) a.serial) (rows_is ∙ ap (outline 2) (sym k.is)) ∙ ap (λ n. parent_of (plains (outline 2 (plugged k.steps (grove k.at k.below k.rest)))) n.serial) (sym k.named)
      ∙ parent_found k.steps k.at k.below k.rest k.alone in (
        ap (λ m. first_reason (m ∷ [])) may,
        ap (tree_mark o) (e ∙ ap (cursor_of_node o.number) up)
            ∙ node_mark l s o rows_is (parent_in k.steps) (λ b q. live_of l _ k.stands b (around_has k.steps (grove k.at k.below k.rest) b (parent_has k.steps b q)))
            ∙ ap (mark_at o.number) (sym (parent_serial k.steps))
            ∙ sym (ap (λ m. unless_none m no_mark (mark_of_spot (plain o) (parent_of (plain o).rows (name_of m)))) (mark_there c a is h) ∙ ap (mark_of_spot (plain o)) there),
      )

  pub next_looks : (c : Cursor) (a : Name) (name : Option Name) (r : Cursor) → may_node (plain o) (tree_mark o c) ≡ None → Some a ≡ node_in c → name ≡ fields.next_of l a → r ≡ cursor_at o.number name
      → Looking (NodeMarks o) (trees.next_sibling_call (plain o) (tree_mark o c)) (Ok r)
  next_looks c a name r may is found e =
      let h = needed l s o rows_is c a (sym is) may in
      let k = at_place l s a (live_there c a is h) in
      let next : name ≡ first_in k.rest = found ∙ ap (fields.next_of l) (sym k.named) ∙ k.links.next in
      let there : next_after (siblings_of (plain o).rows a.serial) a.serial ≡ slice_get (tops (depth_in k.steps) k.rest) 0 =
      ap (λ z. next_after (siblings_of (plains z) a.serial) a.serial) (rows_is ∙ ap (outline 2) (sym k.is))
      ∙ ap (λ n. next_after (siblings_of (plains (outline 2 (plugged k.steps (grove k.at k.below k.rest)))) n.serial) n.serial) (sym k.named)
      ∙ next_found k.steps k.at k.below k.rest k.alone k.all in (
        ap (λ m. first_reason (m ∷ [])) may,
        ap (tree_mark o) (e ∙ ap (cursor_at o.number) next)
            ∙ named_mark l s o rows_is (first_in k.rest) (λ b q. live_of l _ k.stands b (plugged_has k.steps (grove k.at k.below k.rest) b (inr (inr (first_has k.rest b q)))))
            ∙ sym (ap (λ m. unless_none m no_mark (mark_of_spot (plain o) (next_after (siblings_of (plain o).rows (name_of m)) (name_of m)))) (mark_there c a is h) ∙ ap (mark_of_spot (plain o)) there
            ∙ spot_mark (plain o) (slice_get (tops (depth_in k.steps) k.rest) 0) ∙ ap (mark_named o.number) (first_top (depth_in k.steps) k.rest)),
      )

  pub prev_looks : (c : Cursor) (a : Name) (name : Option Name) (r : Cursor) → may_node (plain o) (tree_mark o c) ≡ None → Some a ≡ node_in c → name ≡ fields.prev_of l a → r ≡ cursor_at o.number name
      → Looking (NodeMarks o) (trees.previous_sibling_call (plain o) (tree_mark o c)) (Ok r)
  prev_looks c a name r may is found e =
      let h = needed l s o rows_is c a (sym is) may in
      let k = at_place l s a (live_there c a is h) in
      let prev : name ≡ prev_in k.steps = found ∙ ap (fields.prev_of l) (sym k.named) ∙ k.links.prev in
      let there : last_before (siblings_of (plain o).rows a.serial) a.serial ≡ slice_get (reverse (elders k.steps)) 0 =
      ap (λ z. last_before (siblings_of (plains z) a.serial) a.serial) (rows_is ∙ ap (outline 2) (sym k.is))
      ∙ ap (λ n. last_before (siblings_of (plains (outline 2 (plugged k.steps (grove k.at k.below k.rest)))) n.serial) n.serial) (sym k.named)
      ∙ last_found k.steps k.at k.below k.rest k.alone k.all in (
        ap (λ m. first_reason (m ∷ [])) may,
        ap (tree_mark o) (e ∙ ap (cursor_at o.number) prev)
            ∙ named_mark l s o rows_is (prev_in k.steps) (λ b q. live_of l _ k.stands b (around_has k.steps (grove k.at k.below k.rest) b (prev_has k.steps b q)))
            ∙ sym (ap (λ m. unless_none m no_mark (mark_of_spot (plain o) (last_before (siblings_of (plain o).rows (name_of m)) (name_of m)))) (mark_there c a is h) ∙ ap (mark_of_spot (plain o)) there
            ∙ spot_mark (plain o) (slice_get (reverse (elders k.steps)) 0) ∙ ap (mark_named o.number) (prev_elder k.steps)),
      )

  pub value_of_name : (c : Cursor) (e : At_element l s o rows_is c) → (k : At_place l e.name) → trees.element_of (value_at (plain o).rows (name_of (tree_mark o c))) ≡ Some k.at.value
  value_of_name c e k =
      ap (λ m. trees.element_of (value_at (plain o).rows (name_of m))) e.mark
      ∙ ap (λ z. trees.element_of (value_at (plains z) e.name.serial)) (rows_is ∙ ap (outline 2) (sym k.is))
      ∙ ap (λ (n : Name). trees.element_of (value_at (plains (outline 2 (plugged k.steps (grove k.at k.below k.rest)))) n.serial)) (sym k.named)
      ∙ ap trees.element_of (value_at_place k.steps k.at k.below k.rest k.alone)

  pub live_needed : (c : Cursor) (a : Name) → a ≡ name_in c → needs_element (plain o) (tree_mark o c) ≡ None → IsLive l.nodes a
  live_needed c a is h = let e = at_element l s o rows_is c h in subst (λ n. IsLive l.nodes n) (sym (is ∙ e.is)) e.live

  pub element_looks : (c : Cursor) (a : Name) (lent : Bor X) → needs_element (plain o) (tree_mark o c) ≡ None → a ≡ name_in c → option_map (λ (n : TreeNode X). n.value) (value_of l.nodes a) ≡ Some lent.now
      → Looking Lends (trees.element_call (plain o) (tree_mark o c)) (Ok lent)
  element_looks c a lent h is found =
      let e = at_element l s o rows_is c h in
      let k = at_place l s e.name e.live in (
        ap (λ m. first_reason (m ∷ [])) h,
        value_of_name c e k ∙ sym (ap (option_map (λ (n : TreeNode X). n.value)) (ap (value_of l.nodes) (is ∙ e.is ∙ sym k.named) ∙ k.links.node)) ∙ found,
      )

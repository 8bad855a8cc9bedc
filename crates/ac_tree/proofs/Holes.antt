-- Where new children go: the hole among the links is the place among the rows.
use Rattle.std.proofs.Common.{◌≡◌, ℕ, suc, ◌+◌, Bool, true, false, true≢false, ◌||◌, List, [], ◌∷◌, ◌++◌, length, Option, Some, None, IsTrue, refl, sym, ap, ◌∙◌, subst, inl, inr, arith, eq-eqb, ne_eqb, eqb-true}
use Rattle.std.specs.Prelude.{◌==◌, ◌↔◌}
use Rattle.std.specs.Option.{ForSome}
use Rattle.std.proofs.lemmas.Bool.{cond-true, cond-false, cases_Bool}
use Rattle.std.proofs.lemmas.Option.{none-some}
use Rattle.std.proofs.lemmas.List.{length-append, length-map}
use Rattle.ac_base.specs.declared.name.Name.{Name}
use Rattle.ac_base.specs.declared.cursor.Cursor.{Cursor}
use Rattle.ac_base.specs.declared.cursor.Cursor.TheVariants.{NoElement, At}
use Rattle.ac_base.specs.Rows.{Row, row}
use Rattle.ac_pool.specs.Contents.{IsLive}
use Rattle.ac_chain.specs.Rows as chain
use Rattle.ac_pool.specs.NamedRows.{HasName, IsOnce}
use Rattle.ac_chain.proofs.Marks.{among_has, has_among}
use Rattle.ac_chain.proofs.Looks.{bool_is}
use Rattle.ac_chain.proofs.Puts.{place_cut}
use Rattle.ac_model.specs.Rows.{Node, node, place_of}
use Rattle.ac_model.specs.Objects.{Object, plain, plains}
use Rattle.ac_model.specs.Letters.{mark_at, name_of}
use Rattle.ac_model.specs.Cursors.{IsNamed}
use Rattle.ac_model.specs.Outline.{Spot, spot, depth_of, run_of, run_start, children_of, is_in}
use Rattle.ac_model.specs.Trees.{tree_mark, needs_node, may_node}
use Rattle.ac_tree.specs.declared.links.Links.{Links}
use Rattle.ac_tree.specs.Forests.{Forest, bare, grove, Step, under, after, outline, size, first_in, plugged, parent_in, prev_in, depth_in, before_in, after_in}
use Rattle.ac_tree.specs.TreeFields.{StandsFor, forest_in, IsForest, first_of, parent_of}
use Rattle.ac_tree.specs.TreeCursors.{node_in, serial_in}
use Rattle.ac_tree.specs.Inserting.{Hole, depth_at, place_at}
use Rattle.ac_tree.specs.Children.{IsPlace, place_among}
use Rattle.ac_tree.proofs.Places.{plugged_has, outline_plugged, once_rows, size_is, to_end, plugged_end, parent_end, depth_end, named, has}
use Rattle.ac_tree.proofs.Forests.{links_at, live_of, forest-is}
use Rattle.ac_tree.proofs.Outlines.{seen, at_depth, tops, elders, family, parent_spot, parent_depth, parent_position, position_children, position_depth, position_run, Position, root_position, node_position, root_start, node_start, family_tops, before_out, IsAlone}
use Rattle.ac_tree.proofs.Judging.{at_node, needed, may_at}
use Rattle.ac_tree.proofs.Looking.{alone_at, At_place, at_place, parent_serial}

pub in_middle : (xs : List Spot) (s : Spot) (ys : List Spot) → is_in s.name (xs ++ s ∷ ys) ≡ true
in_middle [] s ys = ap (λ b. b || is_in s.name ys) (eq-eqb s.name s.name refl)
in_middle (x ∷ xs) s ys = or_last (x.name == s.name) (is_in s.name (xs ++ s ∷ ys)) (in_middle xs s ys)
  where
    or_last : (b c : Bool) → c ≡ true → (b || c) ≡ true
    or_last true c e = refl
    or_last false c e = e

module _ {X : Type 0} where
  -- where the children of a node, or of the root, are
  pub record Under (l : Links X) (node_name : Option Name) : Type 0 where
    pub steps : List (Step X)
    pub below : Forest X
    pub stands : StandsFor l (plugged steps below)
    pub parent_is : parent_in steps ≡ node_name
    pub none_before : prev_in steps ≡ None
    pub depth : ℕ
    pub deep : depth_in steps ≡ depth + 1
    pub position : Position (outline 2 (plugged steps below)) (serial_in node_name) depth below
    pub start : run_start (plains (outline 2 (plugged steps below))) (serial_in node_name) ≡ length (before_in steps)
    pub first : first_of l node_name ≡ first_in below

  pub length_seen : (rows : List (Row Name (Node X))) → length (seen rows) ≡ length rows
  length_seen rows = length-map (plains rows) spot ∙ length-map rows (λ (r : Row Name (Node X)). row r.name.serial r.value)

  unfoldable pub under_root : (l : Links X) → IsForest l → Under l None
  under_root l s = record {
    steps = [];
    below = forest_in l;
    stands = s;
    parent_is = refl;
    none_before = refl;
    depth = 1;
    deep = refl;
    position = root_position (forest_in l);
    start = root_start (forest_in l);
    first = s.framed.0;
  }

  pub under_node : (l : Links X) (a : Name) → At_place l a → Under l (Some a)
  under_node l a k =
      let t = grove k.at k.below k.rest in
      let r = row k.at.name (node (depth_in k.steps) k.at.value) in
      record {
        steps = under k.at k.rest ∷ k.steps;
        below = k.below;
        stands = k.stands;
        parent_is = ap Some k.named;
        none_before = refl;
        depth = depth_in k.steps;
        deep = refl;
        position = subst (λ (n : Name). Position (outline 2 (plugged k.steps t)) n.serial (depth_in k.steps) k.below) k.named (node_position k.steps k.at k.below k.rest k.alone);
        start = subst (λ (n : Name). run_start (plains (outline 2 (plugged k.steps t))) n.serial ≡ length (before_in k.steps ++ r ∷ [])) k.named
            (node_start k.steps k.at k.below k.rest k.alone ∙ sym (length-append (before_in k.steps) (r ∷ []) ∙ (let e : length (before_in k.steps) + 1 ≡ suc (length (before_in k.steps)) = omega arith in e)));
        first = ap (λ n. first_of l (Some n)) (sym k.named) ∙ k.links.first;
      }

  pub under_of : (l : Links X) → IsForest l → (node_name : Option Name) → ((a : Name) → node_name ≡ Some a → IsLive l.nodes a) → Under l node_name
  under_of l s None live = under_root l s
  under_of l s (Some a) live = under_node l a (at_place l s a (live a refl))

  -- a child of the parent has it as its parent
  top_parent : (l : Links X) (steps : List (Step X)) (t : Forest X) (depth n : ℕ) → StandsFor l (plugged steps t) → is_in n (tops depth t) ≡ true → (a : Name) × (a.serial ≡ n) × (parent_of l a ≡ parent_in steps) × IsLive l.nodes a
  top_parent l steps bare depth n s h = absurd (true≢false (sym h))
  top_parent l steps (grove x below rest) depth n s h = elim (cases_Bool (x.name.serial == n)) [
    | inl t ↦ (x.name, eqb-true x.name.serial n t, (links_at l steps x below rest s).parent, live_of l (plugged steps (grove x below rest)) s x.name (plugged_has steps (grove x below rest) x.name (inl refl)))
    | inr f ↦ top_parent l (after x below ∷ steps) rest depth n s (sym (ap (λ b. b || is_in n (tops depth rest)) f) ∙ h)
  ]

  pub before_end : (steps : List (Step X)) (t : Forest X) → length (before_in (to_end steps t)) ≡ length (before_in steps) + size t
  before_end steps bare = omega arith
  before_end steps (grove x below rest) =
      let up = before_end (after x below ∷ steps) rest in
      let r = row x.name (node (depth_in steps) x.value) in
      let e = length-append (before_in steps) (r ∷ outline (depth_in steps + 1) below) in
      let b = size_is (depth_in steps + 1) below in omega (arith, up, e, b)

  place_there : (front : List (Row Name (Node X))) (r : Row Name (Node X)) (rest : List (Row Name (Node X))) → is_in r.name.serial (seen front) ≡ false → place_of (plains (front ++ r ∷ rest)) r.name.serial ≡ length front
  place_there [] r rest out = cond-true _ _ _ (eq-eqb r.name.serial r.name.serial refl)
  place_there (f ∷ front) r rest out = elim (cases_Bool (f.name.serial == r.name.serial)) [
    | inl t ↦ absurd (true≢false (sym (ap (λ b. b || is_in r.name.serial (seen front)) t) ∙ out))
    | inr n ↦ cond-false _ _ _ n ∙ ap suc (place_there front r rest (sym (ap (λ b. b || is_in r.name.serial (seen front)) n) ∙ out))
  ]

  pub place_at_place : (steps : List (Step X)) (x : Row Name X) (below rest : Forest X) → IsAlone steps x.name.serial → place_of (plains (outline 2 (plugged steps (grove x below rest)))) x.name.serial ≡ length (before_in steps)
  place_at_place steps x below rest alone =
      let r = row x.name (node (depth_in steps) x.value) in
      ap (λ k. place_of (plains k) x.name.serial) (outline_plugged steps (grove x below rest))
      ∙ place_there (before_in steps) r ((outline (depth_in steps + 1) below ++ outline (depth_in steps) rest) ++ after_in steps) (before_out x.name.serial steps alone.around)

  -- the place of a hole in the chain's words
  pub hole_place : (l : Links X) (parent before : Option Name) (h : Hole l parent before) → chain.place_of (place_at h) (outline 2 (forest_in l)) ≡ length (before_in h.steps)
  hole_place l parent before h =
      let ys = outline (depth_in h.steps) h.rest ++ after_in h.steps in
      let rows : outline 2 (forest_in l) ≡ before_in h.steps ++ ys = ap (outline 2) (forest-is l (plugged h.steps h.rest) h.stands) ∙ outline_plugged h.steps h.rest in
      let once : IsOnce (before_in h.steps ++ ys) = subst (λ z. IsOnce z) (outline_plugged h.steps h.rest) (once_rows 2 (plugged h.steps h.rest) h.stands.once) in
      ap (chain.place_of (place_at h)) rows ∙ place_cut (place_at h) (before_in h.steps) ys once refl

  -- a hole for new children, and which place it is
  pub record Held (l : Links X) (o : Object Name (Node X)) (parent before : Option Name) : Type 0 where
    pub hole : Hole l parent before
    pub place : chain.place_of (place_at hole) (outline 2 (forest_in l)) ≡ place_among o parent before
    pub depth : depth_at hole ≡ depth_of (plain o).rows (serial_in parent) + 1

module _ {X : Type 0} (l : Links X) (s : IsForest l) (o : Object Name (Node X)) (rows_is : o.rows ≡ outline 2 (forest_in l)) where
  pub rows_under : (node_name : Option Name) (u : Under l node_name) → o.rows ≡ outline 2 (plugged u.steps u.below)
  rows_under node_name u = rows_is ∙ ap (outline 2) (forest-is l (plugged u.steps u.below) u.stands)

  pub named_live : (a : Name) → IsNamed o a → IsLive l.nodes a
  named_live a h = live_of l (forest_in l) s a (has a 2 (forest_in l) (subst (λ k. HasName a k) rows_is (among_has a o.rows h)))

  depth_under : (node_name : Option Name) (u : Under l node_name) → depth_of (plain o).rows (serial_in node_name) ≡ u.depth
  depth_under node_name u = ap (λ k. depth_of (plains k) (serial_in node_name)) (rows_under node_name u) ∙ position_depth (outline 2 (plugged u.steps u.below)) (serial_in node_name) u.depth u.below u.position

  children_under : (node_name : Option Name) (u : Under l node_name) → children_of (plain o).rows (serial_in node_name) ≡ tops (u.depth + 1) u.below
  children_under node_name u = ap (λ k. children_of (plains k) (serial_in node_name)) (rows_under node_name u) ∙ position_children (outline 2 (plugged u.steps u.below)) (serial_in node_name) u.depth u.below u.position

  pub start_under : (node_name : Option Name) (u : Under l node_name) → run_start (plain o).rows (serial_in node_name) ≡ length (before_in u.steps)
  start_under node_name u = ap (λ k. run_start (plains k) (serial_in node_name)) (rows_under node_name u) ∙ u.start

  pub run_under : (node_name : Option Name) (u : Under l node_name) → length (run_of (plain o).rows (serial_in node_name)) ≡ size u.below
  run_under node_name u =
      ap (λ k. length (run_of (plains k) (serial_in node_name))) (rows_under node_name u)
      ∙ ap length (position_run (outline 2 (plugged u.steps u.below)) (serial_in node_name) u.depth u.below u.position)
      ∙ length_seen (outline (u.depth + 1) u.below) ∙ size_is (u.depth + 1) u.below

  -- the child's parent is the one that its link leads to
  pub child_parent : (parent : Option Name) → ((a : Name) → parent ≡ Some a → IsLive l.nodes a) → (b : Name) → IsLive l.nodes b → is_in b.serial (children_of (plain o).rows (serial_in parent)) ≡ true → parent_of l b ≡ parent
  child_parent parent live b lives h =
      let u = under_of l s parent live in
      let top = top_parent l u.steps u.below (u.depth + 1) b.serial u.stands (sym (ap (is_in b.serial) (children_under parent u)) ∙ h) in
      let same : top.0 ≡ b = s.sound.serials top.0 b top.3 lives top.1 in
      ap (parent_of l) (sym same) ∙ top.2 ∙ u.parent_is

  pub parent_child : (parent : Option Name) (b : Name) → IsLive l.nodes b → parent_of l b ≡ parent → is_in b.serial (children_of (plain o).rows (serial_in parent)) ≡ true
  parent_child parent b lives e =
      let k = at_place l s b lives in let t = grove k.at k.below k.rest in
      let up : parent ≡ parent_in k.steps = sym e ∙ ap (parent_of l) (sym k.named) ∙ k.links.parent in
      let rows : o.rows ≡ outline 2 (plugged k.steps t) = rows_is ∙ ap (outline 2) (sym k.is) in
      let sp = parent_spot k.steps in
      let kids : children_of (plain o).rows (serial_in parent) ≡ elders k.steps ++ at_depth (depth_in k.steps) k.at.name.serial ∷ tops (depth_in k.steps) k.rest =
      ap (λ n. children_of (plain o).rows n) (ap serial_in up ∙ sym (parent_serial k.steps))
      ∙ ap (λ z. children_of (plains z) sp.name) rows
      ∙ position_children (outline 2 (plugged k.steps t)) sp.name sp.depth (family k.steps t) (parent_position k.steps t k.all)
      ∙ ap (λ d. tops d (family k.steps t)) (sym (parent_depth k.steps))
      ∙ family_tops k.steps t in
      ap (is_in b.serial) kids
      ∙ ap (λ (n : Name). is_in n.serial (elders k.steps ++ at_depth (depth_in k.steps) k.at.name.serial ∷ tops (depth_in k.steps) k.rest)) (sym k.named)
      ∙ in_middle (elders k.steps) (at_depth (depth_in k.steps) k.at.name.serial) (tops (depth_in k.steps) k.rest)

  pub held : (parent before : Option Name) → IsPlace o parent before → Held l o parent before
  held parent None p =
      let u = under_of l s parent (λ a e. named_live a (p.parent_named a e)) in
      let h : Hole l parent None = record {
        steps = to_end u.steps u.below;
        rest = bare;
        stands = subst (λ z. StandsFor l z) (sym (plugged_end u.steps u.below)) u.stands;
        parent_is = sym (parent_end u.steps u.below ∙ u.parent_is);
        before_is = refl;
      } in
      record {
        hole = h;
        place = hole_place l parent None h ∙ before_end u.steps u.below ∙ sym (λ i. start_under parent u i + run_under parent u i);
        depth = depth_end u.steps u.below ∙ u.deep ∙ sym (ap (λ d. d + 1) (depth_under parent u));
      }
  held parent (Some b) p =
      let live = λ (a : Name) (e : parent ≡ Some a). named_live a (p.parent_named a e) in
      let lives = named_live b (p.before_named b refl) in
      let k = at_place l s b lives in let t = grove k.at k.below k.rest in
      let up : parent_in k.steps ≡ parent = sym k.links.parent ∙ ap (parent_of l) k.named ∙ child_parent parent live b lives (p.child b refl) in
      let rows : o.rows ≡ outline 2 (plugged k.steps t) = rows_is ∙ ap (outline 2) (sym k.is) in
      let sp = parent_spot k.steps in
      let h : Hole l parent (Some b) = record { steps = k.steps; rest = t; stands = k.stands; parent_is = sym up; before_is = ap Some (sym k.named) } in
      record {
        hole = h;
        place = hole_place l parent (Some b) h ∙ sym (ap (λ z. place_of (plains z) b.serial) rows ∙ ap (λ (n : Name). place_of (plains (outline 2 (plugged k.steps t))) n.serial) (sym k.named) ∙ place_at_place k.steps k.at k.below k.rest k.alone);
        depth = parent_depth k.steps ∙ sym (ap (λ d. d + 1) (ap (λ n. depth_of (plain o).rows n) (ap serial_in (sym up) ∙ sym (parent_serial k.steps)) ∙ ap (λ z. depth_of (plains z) sp.name) rows
            ∙ position_depth (outline 2 (plugged k.steps t)) sp.name sp.depth (family k.steps t) (parent_position k.steps t k.all)));
      }

  -- whether a cursor is at a child of the node at which another is
  pub is_child_here : (parent before : Cursor) (b : Name) (r : Bool) → needs_node (plain o) (tree_mark o parent) ≡ None → may_node (plain o) (tree_mark o before) ≡ None → Some b ≡ node_in before
      → (IsTrue r ↔ (parent_of l b ≡ node_in parent)) → r ≡ is_in (name_of (tree_mark o before)) (children_of (plain o).rows (name_of (tree_mark o parent)))
  is_child_here parent before b r hp may is test =
      let hb = needed l s o rows_is before b (sym is) may in
      let at = at_node l s o rows_is parent hp in
      let there = at_node l s o rows_is before hb in
      let lives = there.live b (sym is) in
      let marks : is_in (name_of (tree_mark o before)) (children_of (plain o).rows (name_of (tree_mark o parent))) ≡ is_in b.serial (children_of (plain o).rows (serial_in (node_in parent))) =
      (λ i. is_in (name_of ((there.mark ∙ ap (λ n. mark_at o.number (serial_in n)) (sym is)) i)) (children_of (plain o).rows (name_of (at.mark i)))) in
      bool_is r (is_in b.serial (children_of (plain o).rows (serial_in (node_in parent)))) (λ t. parent_child (node_in parent) b lives (test.0 t)) (λ t. test.1 (child_parent (node_in parent) at.live b lives t)) ∙ sym marks

  -- No_Element, and the root, are no child
  pub no_child_here : (parent before : Cursor) → needs_node (plain o) (tree_mark o parent) ≡ None → may_node (plain o) (tree_mark o before) ≡ None → None ≡ node_in before
      → false ≡ is_in (name_of (tree_mark o before)) (children_of (plain o).rows (name_of (tree_mark o parent)))
  no_child_here parent before hp may is =
      let at = at_node l s o rows_is parent hp in
      let u = under_of l s (node_in parent) at.live in
      let kids : children_of (plain o).rows (name_of (tree_mark o parent)) ≡ tops (u.depth + 1) u.below = ap (λ m. children_of (plain o).rows (name_of m)) at.mark ∙ children_under (node_in parent) u in
      sym ((λ i. is_in (zero_name before may is i) (kids i)) ∙ tops_not_root u.steps u.below (u.depth + 1) u.stands)
    where
      zero_name : (before : Cursor) → may_node (plain o) (tree_mark o before) ≡ None → None ≡ node_in before → name_of (tree_mark o before) ≡ 0
      zero_name NoElement may is = refl
      zero_name (At object a) may is = ap name_of ((at_node l s o rows_is (At object a) (sym (may_at o object a) ∙ may)).mark ∙ ap (λ n. mark_at o.number (serial_in n)) (sym is))

      tops_not_root : (steps : List (Step X)) (t : Forest X) (depth : ℕ) → StandsFor l (plugged steps t) → is_in 0 (tops depth t) ≡ false
      tops_not_root steps bare depth s = refl
      tops_not_root steps (grove x below rest) depth s =
          let low = (s.sound.issued x.name (live_of l (plugged steps (grove x below rest)) s x.name (plugged_has steps (grove x below rest) x.name (inl refl)))).0 in
          ap (λ b. b || is_in 0 (tops depth rest)) (ne_eqb x.name.serial 0 (λ e. omega (arith, e, low))) ∙ tops_not_root (after x below ∷ steps) rest depth s

  pub named_node : (c : Cursor) → needs_node (plain o) (tree_mark o c) ≡ None → ForSome (node_in c) (IsNamed o)
  named_node c h = λ a e. has_among a o.rows (subst (λ k. HasName a k) (sym rows_is) (named a 2 (forest_in l) (s.all a ((at_node l s o rows_is c h).live a e))))

  -- before the first child, if there is one
  pub record Front (parent first : Option Name) : Type 0 where
    pub place : IsPlace o parent first
    pub at : place_among o parent first ≡ run_start (plain o).rows (serial_in parent)

  pub front : (parent first : Option Name) → ForSome parent (IsNamed o) → first ≡ first_of l parent → Front parent first
  front parent first parent_named is =
      let u = under_of l s parent (λ a e. named_live a (parent_named a e)) in
      subst (λ n. Front parent n) (sym (is ∙ u.first)) (at_front u u.below refl)
    where
      at_front : (u : Under l parent) (t : Forest X) → u.below ≡ t → Front parent (first_in u.below)
      at_front u bare e =
          let none : size u.below ≡ 0 = ap size e in
          let run = run_under parent u in
          subst (λ n. Front parent n) (sym (ap first_in e)) (record {
            place = record { parent_named = parent_named; before_named = λ a q. absurd (none-some a q); child = λ a q. absurd (none-some a q) };
            at = omega (arith, run, none);
          })
      at_front u (grove x below rest) e =
          let stands : StandsFor l (plugged u.steps (grove x below rest)) = subst (λ z. StandsFor l (plugged u.steps z)) e u.stands in
          let lives = live_of l (plugged u.steps (grove x below rest)) stands x.name (plugged_has u.steps (grove x below rest) x.name (inl refl)) in
          let rows : o.rows ≡ outline 2 (plugged u.steps (grove x below rest)) = rows_under parent u ∙ ap (λ z. outline 2 (plugged u.steps z)) e in
          let up : parent_of l x.name ≡ parent = (links_at l u.steps x below rest stands).parent ∙ u.parent_is in
          subst (λ n. Front parent n) (sym (ap first_in e)) (record {
            place = record {
              parent_named = parent_named;
              before_named = λ a q. subst (IsNamed o) (let same : x.name ≡ a = cc in same) (has_among x.name o.rows (subst (λ k. HasName x.name k) (sym rows_is) (named x.name 2 (forest_in l) (s.all x.name lives))));
              child = λ a q. subst (λ (k : Name). is_in k.serial (children_of (plain o).rows (serial_in parent)) ≡ true) (let same : x.name ≡ a = cc in same) (parent_child parent x.name lives up);
            };
            at = ap (λ z. place_of (plains z) x.name.serial) rows ∙ place_at_place u.steps x below rest (alone_at l u.steps x below rest stands) ∙ sym (start_under parent u);
          })

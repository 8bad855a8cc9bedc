-- A walk in preorder that knows the depth at which it is, and the copies that it makes.
use Rattle.std.proofs.Common.{◌≡◌, ℕ, ◌+◌, ◌-◌, ◌<◌, ◌≤◌, List, [], ◌∷◌, ◌++◌, length, reverse, Option, Some, None, is_some, true, false, refl, sym, ap, ◌∙◌, subst, inl, arith, append-nil, append_assoc}
use Rattle.std.specs.Option.{ForSome, option_map}
use Rattle.std.proofs.lemmas.Option.{none-some}
use Rattle.std.proofs.lemmas.List.{length-append, map-append, reverse-append}
use Rattle.ac_base.specs.declared.name.Name.{Name}
use Rattle.ac_base.specs.Rows.{Row, row, values}
use Rattle.ac_pool.specs.Contents.{value_of, IsLive}
use Rattle.ac_pool.specs.NamedRows as pool
use Rattle.ac_chain.specs.Rows as chain
use Rattle.ac_chain.specs.ChainFields.{first_or}
use Rattle.ac_pool.specs.NamedRows.{IsOnce, HasName}
use Rattle.ac_pool.proofs.Cuts.{HasName-right}
use Rattle.ac_chain.proofs.Puts.{place_cut}
use Rattle.ac_chain.proofs.Searches.{some_value}
use Rattle.ac_model.specs.Rows.{Node, node}
use Rattle.ac_model.specs.Objects.{plains}
use Rattle.ac_model.specs.Outline.{depth_of}
use Rattle.ac_tree.specs.declared.copying.Leveled.{Leveled}
use Rattle.ac_tree.specs.declared.links.TreeNode.{TreeNode}
use Rattle.ac_tree.specs.declared.links.Links.{Links}
use Rattle.ac_tree.specs.Copying.{in_node, nodes_in}
use Rattle.ac_tree.specs.Forests.{Forest, bare, grove, Step, under, after, outline, plugged, depth_in, before_in, after_in}
use Rattle.ac_tree.specs.TreeFields.{StandsFor, forest_in, IsForest, first_of, next_of, parent_of}
use Rattle.ac_tree.specs.Walking.{Passes, Follows}
use Rattle.ac_tree.proofs.Places.{outline_plugged, once_rows, plugged_has, has}
use Rattle.ac_tree.proofs.Standing.{some_name}
use Rattle.ac_tree.proofs.Forests.{links_at, live_of}
use Rattle.ac_tree.proofs.Outlines.{position_depth, node_position}
use Rattle.ac_tree.proofs.Counting.{node_depth, root_depth, deeper}
use Rattle.ac_tree.proofs.Looking.{at_place}
use Rattle.ac_tree.proofs.Following.{Climbs, climbs_start, climbs_hit, climbs_more, climb_less, cut_same, first_row}

module _ {X : Type 0} where
  -- siblings are as deep as one another, and a child is one deeper
  sibling_level : (l : Links X) → IsForest l → (name : Name) → IsLive l.nodes name → (sibling : Option Name) → sibling ≡ next_of l name → ForSome sibling (λ b. node_depth l (Some b) ≡ node_depth l (Some name))
  sibling_level l s name live sibling is b e = let k = at_place l s name live in by_rest k.steps k.at k.below k.rest k.stands k.named
    where
      by_rest : (steps : List (Step X)) (x : Row Name X) (below rest : Forest X) → StandsFor l (plugged steps (grove x below rest)) → x.name ≡ name → node_depth l (Some b) ≡ node_depth l (Some name)
      by_rest steps x below bare h named = absurd (none-some b (sym ((links_at l steps x below bare h).next) ∙ ap (next_of l) named ∙ sym is ∙ e))
      by_rest steps x below (grove y c r) h named =
          let m = links_at l steps x below (grove y c r) h in
          let q = links_at l (after x below ∷ steps) y c r h in
          let same : y.name ≡ b = some_name y.name b (sym m.next ∙ ap (next_of l) named ∙ sym is ∙ e) in
          let lives = live_of l (plugged (after x below ∷ steps) (grove y c r)) h y.name (plugged_has (after x below ∷ steps) (grove y c r) y.name (inl refl)) in
          let up : parent_of l y.name ≡ parent_of l name = q.parent ∙ sym m.parent ∙ ap (parent_of l) named in
          let one = (deeper l s y.name lives).one in let two = (deeper l s name live).one in
          ap (λ n. node_depth l (Some n)) (sym same) ∙ one ∙ ap (λ p. node_depth l p + 1) up ∙ sym two

  pub child_level : (l : Links X) → IsForest l → (name : Name) → IsLive l.nodes name → (child : Option Name) → child ≡ first_of l (Some name) → ForSome child (λ b. node_depth l (Some b) ≡ node_depth l (Some name) + 1)
  child_level l s name live child is b e = let k = at_place l s name live in by_below k.steps k.at k.below k.rest k.stands k.named
    where
      by_below : (steps : List (Step X)) (x : Row Name X) (below rest : Forest X) → StandsFor l (plugged steps (grove x below rest)) → x.name ≡ name → node_depth l (Some b) ≡ node_depth l (Some name) + 1
      by_below steps x bare rest h named = absurd (none-some b (sym ((links_at l steps x bare rest h).first) ∙ ap (λ n. first_of l (Some n)) named ∙ sym is ∙ e))
      by_below steps x (grove y c r) rest h named =
          let m = links_at l steps x (grove y c r) rest h in
          let q = links_at l (under x rest ∷ steps) y c r h in
          let same : y.name ≡ b = some_name y.name b (sym m.first ∙ ap (λ n. first_of l (Some n)) named ∙ sym is ∙ e) in
          let lives = live_of l (plugged (under x rest ∷ steps) (grove y c r)) h y.name (plugged_has (under x rest ∷ steps) (grove y c r) y.name (inl refl)) in
          let up : parent_of l y.name ≡ Some name = q.parent ∙ ap Some named in
          ap (λ n. node_depth l (Some n)) (sym same) ∙ (deeper l s y.name lives).one ∙ ap (λ p. node_depth l p + 1) up

  pub top_level : (l : Links X) → IsForest l → (first : Option Name) → first ≡ first_of l None → ForSome first (λ b. 2 ≡ node_depth l (Some b))
  top_level l s first is b e = by_forest (forest_in l) s
    where
      by_forest : (t : Forest X) → StandsFor l t → 2 ≡ node_depth l (Some b)
      by_forest bare h = absurd (none-some b (sym h.framed.0 ∙ sym is ∙ e))
      by_forest (grove y c r) h =
          let same : y.name ≡ b = some_name y.name b (sym h.framed.0 ∙ sym is ∙ e) in
          let lives = live_of l (grove y c r) h y.name (inl refl) in
          let up : parent_of l y.name ≡ None = (links_at l [] y c r h).parent in
          let one = (deeper l s y.name lives).one in let root = root_depth l in
          let at : node_depth l (Some y.name) ≡ node_depth l (Some b) = ap (λ n. node_depth l (Some n)) same in
          let top : node_depth l (parent_of l y.name) ≡ node_depth l None = ap (node_depth l) up in
          omega (arith, one, root, at, top)

  -- a climb that counts its levels
  pub record Climbs_at (l : Links X) (name : Name) (place : Option Name) (depth : ℕ) : Type 0 where
    pub climbs : Climbs l None name place
    pub level : ForSome place (λ a. depth ≡ node_depth l (Some a))

  pub level_start : (l : Links X) (name : Name) → IsLive l.nodes name → (depth : ℕ) → depth ≡ node_depth l (Some name) → Climbs_at l name (Some name) depth
  level_start l name live depth is = record { climbs = climbs_start l None name live; level = λ b e. is ∙ ap (λ n. node_depth l (Some n)) (some_name name b e) }

  module _ (l : Links X) (s : IsForest l) (name here : Name) (depth : ℕ) (k : Climbs_at l name (Some here) depth) (sibling : Option Name) (next_is : sibling ≡ next_of l here) where
    pub level_hit : is_some sibling ≡ true → Passes l None name sibling
    level_hit found = climbs_hit l None name here sibling k.climbs next_is found

    pub level_sibling : ForSome sibling (λ b. depth ≡ node_depth l (Some b))
    level_sibling b e = k.level here refl ∙ sym (sibling_level l s here (k.climbs.live here refl) sibling next_is b e)

    pub level_low : 1 ≤ depth
    level_low = let low = (deeper l s here (k.climbs.live here refl)).low in let at = k.level here refl in omega (arith, low, at)

    pub level_more : is_some sibling ≡ false → (up : Option Name) → up ≡ parent_of l here → Climbs_at l name up (depth - 1)
    level_more none up is = record {
      climbs = climbs_more l s None name here sibling up k.climbs next_is none (λ e. is ∙ e) (λ no. is) (λ b e. sym is ∙ e);
      level = λ b e.
          let one = (deeper l s here (k.climbs.live here refl)).one in let at = k.level here refl in
          let same : node_depth l (parent_of l here) ≡ node_depth l (Some b) = ap (node_depth l) (sym is ∙ e) in omega (arith, one, at, same);
    }

    pub level_less : (up : Option Name) → up ≡ parent_of l here → node_depth l up < node_depth l (Some here)
    level_less up is = climb_less l s here (k.climbs.live here refl) up (λ b e. sym is ∙ e)

  -- a row of the forest, and the node under its name
  pub record Met (l : Links X) (before left : List (Row Name (Node X))) (r : Row Name (Node X)) : Type 0 where
    pub live : IsLive l.nodes r.name
    pub value : option_map (λ (n : TreeNode X). n.value) (value_of l.nodes r.name) ≡ Some r.value.element
    pub is : r.value ≡ node (node_depth l (Some r.name)) r.value.element
    pub index : pool.index_of r.name (outline 2 (forest_in l)) ≡ length before
    pub next_is : (next : Option Name) → Follows l None r.name next → next ≡ first_or left None

  pub met : (l : Links X) → IsForest l → (before left : List (Row Name (Node X))) (r : Row Name (Node X)) → outline 2 (forest_in l) ≡ before ++ r ∷ left → Met l before left r
  met l s before left r is =
      let once : IsOnce (before ++ r ∷ left) = subst (λ z. IsOnce z) is (once_rows 2 (forest_in l) s.once) in
      let live = in_forest r.name (subst (λ z. HasName r.name z) (sym is) (HasName-right r.name before (r ∷ left) (inl refl))) in
      let k = at_place l s r.name live in let d = depth_in k.steps in let t = grove k.at k.below k.rest in let rows = outline 2 (plugged k.steps t) in
      let q = row k.at.name (node d k.at.value) in
      let tail = (outline (d + 1) k.below ++ outline d k.rest) ++ after_in k.steps in
      let c = cut_same before left (before_in k.steps) tail r q (sym is ∙ ap (outline 2) (sym k.is) ∙ outline_plugged k.steps t) (sym k.named) once in
      let depth : node_depth l (Some r.name) ≡ d =
      sym (ap (λ z. depth_of (plains (outline 2 z)) r.name.serial) k.is) ∙ sym (ap (λ (n : Name). depth_of (plains rows) n.serial) k.named) ∙ position_depth rows k.at.name.serial d k.below (node_position k.steps k.at k.below k.rest k.alone) in
      record {
        live = live;
        value = ap (λ n. option_map (λ (m : TreeNode X). m.value) (value_of l.nodes n)) (sym k.named) ∙ ap (option_map (λ (m : TreeNode X). m.value)) k.links.node ∙ ap (λ (z : Row Name (Node X)). Some z.value.element) (sym c.row);
        is = ap (λ (z : Row Name (Node X)). z.value) c.row ∙ (λ i. node (sym depth i) (sym c.row i).value.element);
        index = ap (chain.place_of (Some r.name)) is ∙ place_cut (Some r.name) before (r ∷ left) once refl;
        next_is = λ next f. f [] k.steps k.at k.below k.rest k.stands refl k.named ∙ sym (ap (λ z. first_or z None) c.rest);
      }
    where
      in_forest : (a : Name) → HasName a (outline 2 (forest_in l)) → IsLive l.nodes a
      in_forest a h = live_of l (forest_in l) s a (has a 2 (forest_in l) h)

  -- a walk that knows its depth: the rows before the place, and those that are left
  pub record Walk (l : Links X) (place : Option Name) (depth : ℕ) : Type 0 where
    pub before : List (Row Name (Node X))
    pub left : List (Row Name (Node X))
    pub is : outline 2 (forest_in l) ≡ before ++ left
    pub place_is : place ≡ first_or left None
    pub level : ForSome place (λ a. depth ≡ node_depth l (Some a))

  pub walk_start : (l : Links X) → IsForest l → (first : Option Name) → first ≡ first_of l None → (k : Walk l first 2) × (k.before ≡ []) × (k.left ≡ outline 2 (forest_in l))
  walk_start l s first is = (
    record {
      before = [];
      left = outline 2 (forest_in l);
      is = refl;
      place_is = is ∙ s.framed.0 ∙ sym (first_row 2 (forest_in l));
      level = top_level l s first is;
    },
    refl,
    refl,
  )

  record At_row (l : Links X) (place : Option Name) (depth : ℕ) (name : Name) (k : Walk l place depth) : Type 0 where
    pub at : Row Name (Node X)
    pub rest : List (Row Name (Node X))
    pub is : k.left ≡ at ∷ rest
    pub named : at.name ≡ name

  at_row : (l : Links X) (place : Option Name) (depth : ℕ) (name : Name) (k : Walk l place depth) → place ≡ Some name → At_row l place depth name k
  at_row l place depth name k e = by_left k.left refl (sym k.place_is ∙ e)
    where
      by_left : (left : List (Row Name (Node X))) → k.left ≡ left → first_or left None ≡ Some name → At_row l place depth name k
      by_left [] is first = absurd (none-some name first)
      by_left (r ∷ left) is first = record { at = r; rest = left; is = is; named = some_name r.name name first }

  -- the row that is met, and the walk behind it
  pub record Here (l : Links X) (place : Option Name) (depth : ℕ) (name : Name) (k : Walk l place depth) : Type 0 where
    pub at : Row Name (Node X)
    pub rest : List (Row Name (Node X))
    pub left_is : k.left ≡ at ∷ rest
    pub live : IsLive l.nodes name
    pub value : option_map (λ (n : TreeNode X). n.value) (value_of l.nodes name) ≡ Some at.value.element
    pub is : node depth at.value.element ≡ at.value
    pub next_is : (next : Option Name) → Follows l None name next → next ≡ first_or rest None

  pub record Stepped (l : Links X) (place : Option Name) (depth : ℕ) (name : Name) (k : Walk l place depth) (next : Option Name) (now : ℕ) : Type 0 where
    pub here : Here l place depth name k
    pub walk : Walk l next now
    pub left_is : here.rest ≡ walk.left
    pub before_is : walk.before ≡ k.before ++ here.at ∷ []

  module _ (l : Links X) (s : IsForest l) (place : Option Name) (depth : ℕ) (k : Walk l place depth) (name : Name) (e : place ≡ Some name) where
    there : (r : At_row l place depth name k) → Met l k.before r.rest r.at
    there r = met l s k.before r.rest r.at (k.is ∙ ap (λ z. k.before ++ z) r.is)

    pub walk_here : Here l place depth name k
    walk_here =
        let r = at_row l place depth name k e in let m = there r in
        let deep : depth ≡ node_depth l (Some r.at.name) = k.level name e ∙ ap (λ n. node_depth l (Some n)) (sym r.named) in
        record {
          at = r.at;
          rest = r.rest;
          left_is = r.is;
          live = subst (λ n. IsLive l.nodes n) r.named m.live;
          value = ap (λ n. option_map (λ (z : TreeNode X). z.value) (value_of l.nodes n)) (sym r.named) ∙ m.value;
          is = ap (λ d. node d r.at.value.element) deep ∙ sym m.is;
          next_is = λ next f. m.next_is next (subst (λ n. Follows l None n next) (sym r.named) f);
        }

    pub walk_live : IsLive l.nodes name
    walk_live = walk_here.live

    pub walk_more : (next : Option Name) (now : ℕ) → Follows l None name next → ForSome next (λ b. now ≡ node_depth l (Some b)) → Stepped l place depth name k next now
    walk_more next now f level =
        let h = walk_here in
        record {
          here = h;
          walk = record {
            before = k.before ++ h.at ∷ [];
            left = h.rest;
            is = k.is ∙ ap (λ z. k.before ++ z) h.left_is ∙ sym (append_assoc k.before (h.at ∷ []) h.rest);
            place_is = h.next_is next f;
            level = level;
          };
          left_is = refl;
          before_is = refl;
        }

    pub walk_less : (next : Option Name) → Follows l None name next
        → length (outline 2 (forest_in l)) - chain.place_of next (outline 2 (forest_in l)) < length (outline 2 (forest_in l)) - chain.place_of place (outline 2 (forest_in l))
    walk_less next f =
        let r = at_row l place depth name k e in let m = there r in
        subst (λ p. length (outline 2 (forest_in l)) - chain.place_of next (outline 2 (forest_in l)) < length (outline 2 (forest_in l)) - chain.place_of p (outline 2 (forest_in l))) (ap Some r.named ∙ sym e)
        (by_rest r m r.rest refl (m.next_is next (subst (λ n. Follows l None n next) (sym r.named) f)))
      where
        by_rest : (r : At_row l place depth name k) → Met l k.before r.rest r.at → (rest : List (Row Name (Node X))) → r.rest ≡ rest → next ≡ first_or r.rest None
            → length (outline 2 (forest_in l)) - chain.place_of next (outline 2 (forest_in l)) < length (outline 2 (forest_in l)) - pool.index_of r.at.name (outline 2 (forest_in l))
        by_rest r m rest are first =
            let rows : outline 2 (forest_in l) ≡ (k.before ++ r.at ∷ []) ++ rest = k.is ∙ ap (λ z. k.before ++ z) (r.is ∙ ap (λ z. r.at ∷ z) are) ∙ sym (append_assoc k.before (r.at ∷ []) rest) in
            let place : chain.place_of next (outline 2 (forest_in l)) ≡ length (k.before ++ r.at ∷ []) =
            ap (chain.place_of next) rows ∙ place_cut next (k.before ++ r.at ∷ []) rest (subst (λ z. IsOnce z) rows (once_rows 2 (forest_in l) s.once)) (first ∙ ap (λ z. first_or z None) are) in
            let here = m.index in let one = length-append k.before (r.at ∷ []) in let all = ap length rows in let both = length-append (k.before ++ r.at ∷ []) rest in
            omega (arith, place, here, one, all, both)

  pub none_left : (l : Links X) (place : Option Name) (depth : ℕ) (k : Walk l place depth) → place ≡ None → k.left ≡ []
  none_left l place depth k none = by_left k.left (sym none ∙ k.place_is)
    where
      by_left : (left : List (Row Name (Node X))) → None ≡ first_or left None → left ≡ []
      by_left [] first = refl
      by_left (r ∷ left) first = absurd (none-some r.name first)

  -- the copies of the rows before the place
  pub record Leveling (l : Links X) (place : Option Name) (depth : ℕ) (made : List (Leveled X)) : Type 0 where
    pub walk : Walk l place depth
    pub copies : nodes_in made ≡ values walk.before

  pub leveling_start : (l : Links X) → IsForest l → (first : Option Name) → first ≡ first_of l None → Leveling l first 2 []
  leveling_start l s first is = let k = walk_start l s first is in record { walk = k.0; copies = sym (ap values k.1) }

  pub leveling_more : (l : Links X) → IsForest l → (place : Option Name) (depth : ℕ) (made : List (Leveled X)) → Leveling l place depth made → (name : Name) → place ≡ Some name
      → (v : X) → option_map (λ (n : TreeNode X). n.value) (value_of l.nodes name) ≡ Some v → (copy : X) → copy ≡ v → (next : Option Name) (now : ℕ) → Follows l None name next → ForSome next (λ b. now ≡ node_depth l (Some b))
      → Leveling l next now (made ++ record { depth = depth; value = copy } ∷ [])
  leveling_more l s place depth made k name e v is copy same next now f level =
      let w = walk_more l s place depth k.walk name e next now f level in
      let h = w.here in
      let value : copy ≡ h.at.value.element = same ∙ some_value v h.at.value.element (sym is ∙ h.value) in
      let one : node depth copy ≡ h.at.value = ap (node depth) value ∙ h.is in
      record {
        walk = w.walk;
        copies = map-append (λ (i : Leveled X). node i.depth i.value) made (record { depth = depth; value = copy } ∷ []) ∙ (λ i. k.copies i ++ one i ∷ [])
            ∙ sym (map-append (λ (z : Row Name (Node X)). z.value) k.walk.before (h.at ∷ [])) ∙ sym (ap values w.before_is);
      }

  pub leveling_end : (l : Links X) (place : Option Name) (depth : ℕ) (made : List (Leveled X)) → Leveling l place depth made → place ≡ None → nodes_in made ≡ values (outline 2 (forest_in l))
  leveling_end l place depth made k none =
      k.copies ∙ sym (ap values (k.walk.is ∙ ap (λ z. k.walk.before ++ z) (none_left l place depth k.walk none) ∙ append-nil k.walk.before))

  pub nodes_reverse : (items : List (Leveled X)) → nodes_in (reverse items) ≡ reverse (nodes_in items)
  nodes_reverse [] = refl
  nodes_reverse (i ∷ items) =
      ap nodes_in (reverse-append (i ∷ []) items) ∙ map-append in_node (reverse items) (i ∷ []) ∙ ap (λ zs. zs ++ in_node i ∷ []) (nodes_reverse items) ∙ sym (reverse-append (in_node i ∷ []) (nodes_in items))

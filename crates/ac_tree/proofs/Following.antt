-- A walk in preorder: where the next node is, and how many it meets.
use Rattle.std.proofs.Common.{◌≡◌, ℕ, ◌+◌, ◌-◌, ◌<◌, ◌≤◌, ◌⊎◌, List, [], ◌∷◌, ◌++◌, length, drop, true, false, true≢false, Option, Some, None, is_some, refl, sym, ap, ◌∙◌, subst, inl, inr, arith, append-nil, append_assoc}
use Rattle.std.specs.Option.{ForSome, option_map}
use Rattle.std.proofs.lemmas.Option.{none-some}
use Rattle.std.proofs.lemmas.List.{length-append}
use Rattle.std.proofs.Math.Seq.{drop-append_seam}
use Rattle.ac_base.specs.declared.name.Name.{Name}
use Rattle.ac_base.specs.Rows.{Row, row}
use Rattle.ac_pool.specs.Contents.{Contents, value_of, IsLive, live_count}
use Rattle.ac_pool.specs.Link.{link_of, name_in, value_at, value_in}
use Rattle.ac_pool.specs.NamedRows as pool
use Rattle.ac_chain.specs.Rows as chain
use Rattle.ac_chain.specs.ChainFields.{first_or}
use Rattle.ac_pool.specs.NamedRows.{IsOnce, HasName}
use Rattle.ac_pool.proofs.Cuts.{HasName-right, has_live}
use Rattle.ac_pool.proofs.SlotNames.{linked_name}
use Rattle.ac_chain.proofs.Puts.{place_cut}
use Rattle.ac_model.specs.Rows.{Node, node}
use Rattle.ac_model.specs.Objects.{plains}
use Rattle.ac_model.specs.Outline.{run_of, subtree_length}
use Rattle.ac_tree.specs.declared.links.TreeNode.{TreeNode}
use Rattle.ac_tree.specs.declared.links.Links.{Links}
use Rattle.ac_tree.specs.Forests.{Forest, bare, grove, Step, under, after, outline, size, first_in, Has, plugged, parent_in, depth_in, before_in, after_in}
use Rattle.ac_tree.specs.TreeFields.{StandsFor, forest_in, IsForest, first_link, next_link, first_of, next_of, parent_of}
use Rattle.ac_tree.specs.TreeCursors.{serial_in}
use Rattle.ac_tree.specs.Walking.{Passes, Follows}
use Rattle.ac_tree.proofs.Places.{parted, plugged_has, around_has, placed, outline_plugged, once_rows, size_is, named, has}
use Rattle.ac_tree.proofs.Standing.{some_name}
use Rattle.ac_tree.proofs.Forests.{links_at, live_of, forest-is, parent_has}
use Rattle.ac_tree.proofs.Outlines.{position_run}
use Rattle.ac_tree.proofs.Holes.{under_of, length_seen, hole_place}
use Rattle.ac_tree.proofs.Counting.{node_depth, root_depth, deeper, elder_size}

module _ {X : Type 0} where
  pub plugged-append : (inner outer : List (Step X)) (t : Forest X) → plugged (inner ++ outer) t ≡ plugged outer (plugged inner t)
  plugged-append [] outer t = refl
  plugged-append (under x rest ∷ inner) outer t = plugged-append inner outer (grove x t rest)
  plugged-append (after x below ∷ inner) outer t = plugged-append inner outer (grove x below t)

  pub parent_top : (inner outer : List (Step X)) → parent_in inner ≡ None → parent_in (inner ++ outer) ≡ parent_in outer
  parent_top [] outer e = refl
  parent_top (under x rest ∷ inner) outer e = absurd (none-some x.name (sym e))
  parent_top (after x below ∷ inner) outer e = parent_top inner outer e

  pub parent_within : (inner outer : List (Step X)) (b : Name) → parent_in inner ≡ Some b → parent_in (inner ++ outer) ≡ Some b
  parent_within [] outer b e = absurd (none-some b e)
  parent_within (under x rest ∷ inner) outer b e = e
  parent_within (after x below ∷ inner) outer b e = parent_within inner outer b e

  after_top : (inner : List (Step X)) → parent_in inner ≡ None → after_in inner ≡ []
  after_top [] e = refl
  after_top (under x rest ∷ inner) e = absurd (none-some x.name (sym e))
  after_top (after x below ∷ inner) e = after_top inner e

  -- the node above a place, where it stands
  record Above (steps : List (Step X)) (t : Forest X) (a : Name) : Type 0 where
    pub up : List (Step X)
    pub at : Row Name X
    pub part : Forest X
    pub rest : Forest X
    pub is : plugged up (grove at part rest) ≡ plugged steps t
    pub named : at.name ≡ a
    pub after : after_in steps ≡ outline (depth_in up) rest ++ after_in up

  above : (steps : List (Step X)) (t : Forest X) (a : Name) → parent_in steps ≡ Some a → Above steps t a
  above [] t a e = absurd (none-some a e)
  above (under x rest ∷ steps) t a e = record { up = steps; at = x; part = t; rest = rest; is = refl; named = some_name x.name a e; after = refl }
  above (after x below ∷ steps) t a e = let k = above steps (grove x below t) a e in record { up = k.up; at = k.at; part = k.part; rest = k.rest; is = k.is; named = k.named; after = k.after }

  -- a node of those below the top, behind which the one that is looked for stands
  pub record Rising (l : Links X) (top : Option Name) (wanted place : Option Name) : Type 0 where
    pub outer : List (Step X)
    pub inner : List (Step X)
    pub at : Row Name X
    pub below : Forest X
    pub rest : Forest X
    pub stands : StandsFor l (plugged outer (plugged inner (grove at below rest)))
    pub top_is : parent_in outer ≡ top
    pub place_is : place ≡ Some at.name
    pub wanted_is : wanted ≡ first_or (outline (depth_in inner) rest ++ after_in inner) None

  abbrev pub Passing : Links X → Option Name → Option Name → Option Name → Type 0
  Passing l top wanted place = ((place ≡ None) × (wanted ≡ None)) ⊎ Rising l top wanted place

  -- what the links of a node below the top lead to
  record Led (l : Links X) (outer inner : List (Step X)) (x : Row Name X) (below rest : Forest X) : Type 0 where
    pub first : first_of l (Some x.name) ≡ first_in below
    pub next : next_of l x.name ≡ first_in rest
    pub parent : parent_of l x.name ≡ parent_in (inner ++ outer)
    pub value : option_map (λ (n : TreeNode X). n.value) (value_of l.nodes x.name) ≡ Some x.value

  led : (l : Links X) (outer inner : List (Step X)) (x : Row Name X) (below rest : Forest X) → StandsFor l (plugged outer (plugged inner (grove x below rest))) → Led l outer inner x below rest
  led l outer inner x below rest s =
      let k = links_at l (inner ++ outer) x below rest (subst (λ z. StandsFor l z) (sym (plugged-append inner outer (grove x below rest))) s) in
      record { first = k.first; next = k.next; parent = k.parent; value = ap (option_map (λ (n : TreeNode X). n.value)) k.node }

  pub passing_start : (l : Links X) (top : Option Name) (outer inner : List (Step X)) (x : Row Name X) (below rest : Forest X) (a : Name) → StandsFor l (plugged outer (plugged inner (grove x below rest))) → parent_in outer ≡ top → x.name ≡ a
      → Passing l top (first_or (outline (depth_in inner) rest ++ after_in inner) None) (Some a)
  passing_start l top outer inner x below rest a s up named = inr (record { outer = outer; inner = inner; at = x; below = below; rest = rest; stands = s; top_is = up; place_is = ap Some (sym named); wanted_is = refl })

  -- a sibling behind the node is what is looked for
  pub passing_hit : (l : Links X) (top wanted : Option Name) (here : Name) (next : Option Name) → Passing l top wanted (Some here) → next ≡ next_of l here → is_some next ≡ true → next ≡ wanted
  passing_hit l top wanted here next p is found = elim p [ inl q ↦ absurd (none-some here (sym q.0)) | inr k ↦ by_rest k k.rest k.stands k.wanted_is ]
    where
      by_rest : (k : Rising l top wanted (Some here)) (rest : Forest X) → StandsFor l (plugged k.outer (plugged k.inner (grove k.at k.below rest))) → wanted ≡ first_or (outline (depth_in k.inner) rest ++ after_in k.inner) None → next ≡ wanted
      by_rest k rest s w =
          let sibling : next ≡ first_in rest = is ∙ ap (next_of l) (some_name here k.at.name k.place_is) ∙ (led l k.outer k.inner k.at k.below rest s).next in
          at_rest rest sibling w
        where
          at_rest : (rest : Forest X) → next ≡ first_in rest → wanted ≡ first_or (outline (depth_in k.inner) rest ++ after_in k.inner) None → next ≡ wanted
          at_rest bare sibling w = absurd (true≢false (sym found ∙ ap is_some sibling))
          at_rest (grove y b r) sibling w = sibling ∙ sym w

  -- where there is none the node above takes its place, unless it is the top
  pub passing_more : (l : Links X) (top wanted : Option Name) (here : Name) (next up : Option Name) → Passing l top wanted (Some here) → next ≡ next_of l here → is_some next ≡ false
      → (parent_of l here ≡ top → up ≡ None) → ((parent_of l here ≡ top → ⊥) → up ≡ parent_of l here) → Passing l top wanted up
  passing_more l top wanted here next up p is none at_top within = elim p [ inl q ↦ absurd (none-some here (sym q.0)) | inr k ↦ by_rest k k.rest k.stands k.wanted_is ]
    where
      by_rest : (k : Rising l top wanted (Some here)) (rest : Forest X) → StandsFor l (plugged k.outer (plugged k.inner (grove k.at k.below rest))) → wanted ≡ first_or (outline (depth_in k.inner) rest ++ after_in k.inner) None → Passing l top wanted up
      by_rest k (grove y b r) s w =
          absurd (true≢false (sym (ap is_some (is ∙ ap (next_of l) (some_name here k.at.name k.place_is) ∙ (led l k.outer k.inner k.at k.below (grove y b r) s).next)) ∙ none))
      by_rest k bare s w =
          let t = grove k.at k.below bare in
          let lead : parent_of l here ≡ parent_in (k.inner ++ k.outer) = ap (parent_of l) (some_name here k.at.name k.place_is) ∙ (led l k.outer k.inner k.at k.below bare s).parent in
          by_parent t (parent_in k.inner) refl lead s w
        where
          by_parent : (t : Forest X) (p : Option Name) → parent_in k.inner ≡ p → parent_of l here ≡ parent_in (k.inner ++ k.outer) → StandsFor l (plugged k.outer (plugged k.inner t)) → wanted ≡ first_or (after_in k.inner) None → Passing l top wanted up
          by_parent t None e lead s w = inl (at_top (lead ∙ parent_top k.inner k.outer e ∙ k.top_is), w ∙ ap (λ z. first_or z None) (after_top k.inner e))
          by_parent t (Some b) e lead s w =
              let to : parent_of l here ≡ Some b = lead ∙ parent_within k.inner k.outer b e in
              let v = above k.inner t b e in
              let apart = (parted k.outer (plugged k.inner t) s.once).apart b (around_has k.inner t b (parent_has k.inner b e)) in
              inr (record {
                outer = k.outer;
                inner = v.up;
                at = v.at;
                below = v.part;
                rest = v.rest;
                stands = subst (λ z. StandsFor l (plugged k.outer z)) (sym v.is) s;
                top_is = k.top_is;
                place_is = within (λ q. apart (parent_has k.outer b (k.top_is ∙ sym q ∙ to))) ∙ to ∙ ap Some (sym v.named);
                wanted_is = w ∙ ap (λ z. first_or z None) v.after;
              })

  pub passing_end : (l : Links X) (top wanted : Option Name) → Passing l top wanted None → None ≡ wanted
  passing_end l top wanted p = elim p [ inl q ↦ sym q.1 | inr k ↦ absurd (none-some k.at.name k.place_is) ]

  -- the climb goes to lesser depths
  pub climb_live : (l : Links X) → IsForest l → (here : Name) → IsLive l.nodes here → (up : Option Name) → ForSome up (λ b. parent_of l here ≡ Some b) → ForSome up (IsLive l.nodes)
  climb_live l s here live up within = λ b e. (deeper l s here live).live b (within b e)

  pub climb_less : (l : Links X) → IsForest l → (here : Name) → IsLive l.nodes here → (up : Option Name) → ForSome up (λ b. parent_of l here ≡ Some b) → node_depth l up < node_depth l (Some here)
  climb_less l s here live None within = let e = root_depth l in let low = (deeper l s here live).low in omega (arith, e, low)
  climb_less l s here live (Some b) within =
      let d = deeper l s here live in
      let same : node_depth l (parent_of l here) ≡ node_depth l (Some b) = ap (node_depth l) (within b refl) in
      let one = d.one in omega (arith, same, one)

  -- from the name's node up, for every place of it
  pub record Climbs (l : Links X) (top : Option Name) (name : Name) (place : Option Name) : Type 0 where
    pub live : ForSome place (IsLive l.nodes)
    pub passing : (outer inner : List (Step X)) (x : Row Name X) (below rest : Forest X) → StandsFor l (plugged outer (plugged inner (grove x below rest))) → parent_in outer ≡ top → x.name ≡ name
        → Passing l top (first_or (outline (depth_in inner) rest ++ after_in inner) None) place

  pub climbs_start : (l : Links X) (top : Option Name) (name : Name) → IsLive l.nodes name → Climbs l top name (Some name)
  climbs_start l top name live = record {
    live = λ b e. subst (λ n. IsLive l.nodes n) (some_name name b e) live;
    passing = λ outer inner x below rest s up named. passing_start l top outer inner x below rest name s up named;
  }

  pub climbs_hit : (l : Links X) (top : Option Name) (name here : Name) (next : Option Name) → Climbs l top name (Some here) → next ≡ next_of l here → is_some next ≡ true → Passes l top name next
  climbs_hit l top name here next k is found = λ outer inner x below rest s up named. passing_hit l top (first_or (outline (depth_in inner) rest ++ after_in inner) None) here next (k.passing outer inner x below rest s up named) is found

  pub climbs_more : (l : Links X) → IsForest l → (top : Option Name) (name here : Name) (next up : Option Name) → Climbs l top name (Some here) → next ≡ next_of l here → is_some next ≡ false
      → (parent_of l here ≡ top → up ≡ None) → ((parent_of l here ≡ top → ⊥) → up ≡ parent_of l here) → ForSome up (λ b. parent_of l here ≡ Some b) → Climbs l top name up
  climbs_more l s top name here next up k is none at_top within parent = record {
    live = climb_live l s here (k.live here refl) up parent;
    passing = λ outer inner x below rest h at named.
        passing_more l top (first_or (outline (depth_in inner) rest ++ after_in inner) None) here next up (k.passing outer inner x below rest h at named) is none at_top within;
  }

  pub climbs_end : (l : Links X) (top : Option Name) (name : Name) → Climbs l top name None → Passes l top name None
  climbs_end l top name k = λ outer inner x below rest s up named. passing_end l top (first_or (outline (depth_in inner) rest ++ after_in inner) None) (k.passing outer inner x below rest s up named)

  -- the first child is next in preorder, or what is behind a node without any
  child_first : (below more : Forest X) (depth : ℕ) (others : List (Row Name (Node X))) (child : Option Name) → child ≡ first_in below → is_some child ≡ true → child ≡ first_or ((outline (depth + 1) below ++ outline depth more) ++ others) None
  child_first bare more depth others child e found = absurd (true≢false (sym found ∙ ap is_some e))
  child_first (grove y b r) more depth others child e found = e

  child_none : (below more : Forest X) (depth : ℕ) (others : List (Row Name (Node X))) (child result : Option Name) → child ≡ first_in below → is_some child ≡ false → result ≡ first_or (outline depth more ++ others) None
      → result ≡ first_or ((outline (depth + 1) below ++ outline depth more) ++ others) None
  child_none bare more depth others child result e none is = is
  child_none (grove y b r) more depth others child result e none is = absurd (true≢false (sym (ap is_some e) ∙ none))

  pub follows_child : (l : Links X) (top : Option Name) (a : Name) (child : Option Name) → child ≡ first_of l (Some a) → is_some child ≡ true → Follows l top a child
  follows_child l top a child is found = λ outer inner x below rest s up named.
      child_first below rest (depth_in inner) (after_in inner) child (is ∙ ap (λ n. first_of l (Some n)) (sym named) ∙ (led l outer inner x below rest s).first) found

  pub follows_past : (l : Links X) (top : Option Name) (a : Name) (child result : Option Name) → child ≡ first_of l (Some a) → is_some child ≡ false → Passes l top a result → Follows l top a result
  follows_past l top a child result is none p = λ outer inner x below rest s up named.
      child_none below rest (depth_in inner) (after_in inner) child result (is ∙ ap (λ n. first_of l (Some n)) (sym named) ∙ (led l outer inner x below rest s).first) none (p outer inner x below rest s up named)

  -- the same told by links: the node to which one leads, and a link that leads to no node
  pub linked_value : (l : Links X) (link : ℕ) (n : TreeNode X) → value_in l.nodes link ≡ Some n → (a : Name) → name_in l.nodes link ≡ Some a → value_of l.nodes a ≡ Some n
  linked_value l link n is a named = ap (value_at l.nodes) (sym named) ∙ is

  pub linked_live : (l : Links X) (link : ℕ) (n : TreeNode X) → value_in l.nodes link ≡ Some n → (a : Name) → name_in l.nodes link ≡ Some a → IsLive l.nodes a
  linked_live l link n is a named = ap is_some (linked_value l link n is a named)

  pub no_link : (l : Links X) → IsForest l → name_in l.nodes (link_of None) ≡ None
  no_link l s = linked_name l.nodes s.sound None (λ a e. absurd (none-some a e))

  pub follows_first : (l : Links X) (top : Option Name) (link : ℕ) (n : TreeNode X) → value_in l.nodes link ≡ Some n → is_some (name_in l.nodes n.first) ≡ true →
      ForSome (name_in l.nodes link) (λ a. Follows l top a (name_in l.nodes n.first))
  follows_first l top link n is found = λ a named.
      follows_child l top a (name_in l.nodes n.first) (ap (λ v. name_in l.nodes (first_link v)) (sym (linked_value l link n is a named))) found

  pub follows_behind : (l : Links X) (top : Option Name) (link : ℕ) (n : TreeNode X) (result : Option Name) → value_in l.nodes link ≡ Some n →
      is_some (name_in l.nodes n.first) ≡ false → ForSome (name_in l.nodes link) (λ a. Passes l top a result) → ForSome (name_in l.nodes link) (λ a. Follows l top a result)
  follows_behind l top link n result is none behind = λ a named.
      follows_past l top a (name_in l.nodes n.first) result (ap (λ v. name_in l.nodes (first_link v)) (sym (linked_value l link n is a named))) none (behind a named)

  pub passes_next : (l : Links X) (top : Option Name) (link : ℕ) (n : TreeNode X) → value_in l.nodes link ≡ Some n → is_some (name_in l.nodes n.next) ≡ true →
      ForSome (name_in l.nodes link) (λ a. Passes l top a (name_in l.nodes n.next))
  passes_next l top link n is found = λ a named.
      climbs_hit l top a a (name_in l.nodes n.next) (climbs_start l top a (linked_live l link n is a named))
      (ap (λ v. name_in l.nodes (next_link v)) (sym (linked_value l link n is a named))) found

  pub passes_named : (l : Links X) (top : Option Name) (link : ℕ) (name : Name) (result : Option Name) → name_in l.nodes link ≡ Some name → Passes l top name result →
      ForSome (name_in l.nodes link) (λ a. Passes l top a result)
  passes_named l top link name result is p = λ a named. subst (λ b. Passes l top b result) (some_name name a (sym is ∙ named)) p

  linked_some : (c : Contents (TreeNode X)) (o : Option Name) → is_some (value_at c o) ≡ true → is_some o ≡ true
  linked_some c None found = found
  linked_some c (Some a) found = refl

  pub follows_beside : (l : Links X) → IsForest l → (top : Option Name) (link beside : ℕ) (n : TreeNode X) → value_in l.nodes link ≡ Some n → n.first ≡ link_of None → n.next ≡ beside → is_some (value_in l.nodes beside) ≡ true →
      ForSome (name_in l.nodes link) (λ a. Follows l top a (name_in l.nodes beside))
  follows_beside l s top link beside n is alone next found =
      let leads : is_some (name_in l.nodes n.next) ≡ true = subst (λ b. is_some (name_in l.nodes b) ≡ true) (sym next) (linked_some l.nodes (name_in l.nodes beside) found) in
      subst (λ b. ForSome (name_in l.nodes link) (λ a. Follows l top a (name_in l.nodes b))) next
      (follows_behind l top link n (name_in l.nodes n.next) is (ap (λ b. is_some (name_in l.nodes b)) alone ∙ ap is_some (no_link l s)) (passes_next l top link n is leads))

  -- a list is cut in one way before a name
  pub record Cut_same (xs ys us vs : List (Row Name (Node X))) (r q : Row Name (Node X)) : Type 0 where
    pub count : length xs ≡ length us
    pub row : r ≡ q
    pub rest : ys ≡ vs

  pub cut_same : (xs ys us vs : List (Row Name (Node X))) (r q : Row Name (Node X)) → xs ++ r ∷ ys ≡ us ++ q ∷ vs → r.name ≡ q.name → IsOnce (xs ++ r ∷ ys) → Cut_same xs ys us vs r q
  cut_same xs ys us vs r q e same once =
      let left = place_cut (Some r.name) xs (r ∷ ys) once refl in
      let right = place_cut (Some r.name) us (q ∷ vs) (subst (λ z. IsOnce z) e once) (ap Some same) in
      let at : length xs ≡ length us = sym left ∙ ap (chain.place_of (Some r.name)) e ∙ right in
      let both : r ∷ ys ≡ q ∷ vs = sym (drop-append_seam xs (r ∷ ys)) ∙ (λ i. drop (at i) (e i)) ∙ drop-append_seam us (q ∷ vs) in
      record { count = at; row = cc; rest = cc }

  pub first_row : (depth : ℕ) (t : Forest X) → first_or (outline depth t) None ≡ first_in t
  first_row depth bare = refl
  first_row depth (grove x below rest) = refl

  -- how many nodes are in the subtree
  abbrev pub nodes_in : Links X → Option Name → ℕ
  nodes_in l top = subtree_length (plains (outline 2 (forest_in l))) (serial_in top)

  -- so many nodes of the subtree stand before the place in preorder
  pub record Subtree_counted (l : Links X) (top place : Option Name) (count : ℕ) : Type 0 where
    pub outer : List (Step X)
    pub below : Forest X
    pub before : List (Row Name (Node X))
    pub left : List (Row Name (Node X))
    pub stands : StandsFor l (plugged outer below)
    pub top_is : parent_in outer ≡ top
    pub total : nodes_in l top ≡ size below + 1
    pub is : outline 2 below ≡ before ++ left
    pub place_is : place ≡ first_or left None
    pub count_is : count ≡ length before + 1

  unfoldable pub counted_start : (l : Links X) → IsForest l → (top : Option Name) → ForSome top (IsLive l.nodes) → (place : Option Name) → place ≡ first_of l top → Subtree_counted l top place 1
  counted_start l s top live place is =
      let u = under_of l s top live in
      let run : length (run_of (plains (outline 2 (forest_in l))) (serial_in top)) ≡ size u.below =
      ap (λ z. length (run_of (plains (outline 2 z)) (serial_in top))) (forest-is l (plugged u.steps u.below) u.stands)
      ∙ ap length (position_run (outline 2 (plugged u.steps u.below)) (serial_in top) u.depth u.below u.position)
      ∙ length_seen (outline (u.depth + 1) u.below) ∙ size_is (u.depth + 1) u.below in
      record {
        outer = u.steps;
        below = u.below;
        before = [];
        left = outline 2 u.below;
        stands = u.stands;
        top_is = u.parent_is;
        total = omega (arith, run);
        is = refl;
        place_is = is ∙ u.first ∙ sym (first_row 2 u.below);
        count_is = refl;
      }

  pub subtree_most : (l : Links X) (top place : Option Name) (count : ℕ) → Subtree_counted l top place count → (count ≤ nodes_in l top) × (nodes_in l top ≤ live_count l.nodes + 1)
  subtree_most l top place count k =
      let rows = size_is 2 k.below in let are = ap length k.is in let both = length-append k.before k.left in let total = k.total in let counted = k.count_is in
      let few = elder_size k.outer k.below in let all = k.stands.count in
      (omega (arith, rows, are, both, total, counted), omega (arith, total, few, all))

  -- how many rows stand before a place within another
  before_length : (inner outer : List (Step X)) → length (before_in (inner ++ outer)) ≡ length (before_in inner) + length (before_in outer)
  before_length [] outer = omega arith
  before_length (under x rest ∷ inner) outer =
      let up = before_length inner outer in
      let one = length-append (before_in inner) (row x.name (node (depth_in inner) x.value) ∷ []) in
      let all = length-append (before_in (inner ++ outer)) (row x.name (node (depth_in (inner ++ outer)) x.value) ∷ []) in omega (arith, up, one, all)
  before_length (after x below ∷ inner) outer =
      let d = depth_in inner in let f = depth_in (inner ++ outer) in
      let up = before_length inner outer in
      let one = length-append (before_in inner) (row x.name (node d x.value) ∷ outline (d + 1) below) in
      let all = length-append (before_in (inner ++ outer)) (row x.name (node f x.value) ∷ outline (f + 1) below) in
      let a = size_is (d + 1) below in let b = size_is (f + 1) below in omega (arith, up, one, all, a, b)

  -- the place of a node among all rows
  index_there : (l : Links X) (steps : List (Step X)) (x : Row Name X) (below rest : Forest X) → StandsFor l (plugged steps (grove x below rest)) → pool.index_of x.name (outline 2 (forest_in l)) ≡ length (before_in steps)
  index_there l steps x below rest s = hole_place l (parent_in steps) (Some x.name) (record { steps = steps; rest = grove x below rest; stands = s; parent_is = refl; before_is = refl })

  -- the node to which the walk has come
  pub record Turned (l : Links X) (top place : Option Name) (count : ℕ) (k : Subtree_counted l top place count) (name : Name) : Type 0 where
    pub at : Row Name (Node X)
    pub left : List (Row Name (Node X))
    pub is : k.left ≡ at ∷ left
    pub named : at.name ≡ name
    pub value : option_map (λ (n : TreeNode X). n.value) (value_of l.nodes name) ≡ Some at.value.element
    pub live : IsLive l.nodes name
    pub index : pool.index_of name (outline 2 (forest_in l)) ≡ length k.before + length (before_in k.outer)
    pub next_is : (next : Option Name) → Follows l top name next → next ≡ first_or left None

  pub turned : (l : Links X) (top place : Option Name) (count : ℕ) (k : Subtree_counted l top place count) (name : Name) → place ≡ Some name → Turned l top place count k name
  turned l top place count k name at = by_left k.left refl (sym k.place_is ∙ at)
    where
      by_left : (left : List (Row Name (Node X))) → k.left ≡ left → first_or left None ≡ Some name → Turned l top place count k name
      by_left [] e first = absurd (none-some name first)
      by_left (r ∷ left) e first =
          let is : outline 2 k.below ≡ k.before ++ r ∷ left = k.is ∙ ap (λ z. k.before ++ z) e in
          let named : r.name ≡ name = some_name r.name name first in
          let there : Has name k.below = has name 2 k.below (subst (λ z. HasName name z) (sym is) (HasName-right name k.before (r ∷ left) (inl (sym named)))) in
          let p = placed name [] k.below there in
          let d = depth_in p.steps in
          let q = row p.at.name (node d p.at.value) in
          let tail = (outline (d + 1) p.below ++ outline d p.rest) ++ after_in p.steps in
          let rows : outline 2 k.below ≡ before_in p.steps ++ q ∷ tail = sym (ap (outline 2) p.is) ∙ outline_plugged p.steps (grove p.at p.below p.rest) in
          let once = once_rows 2 k.below (parted k.outer k.below k.stands.once).once in
          let c = cut_same k.before left (before_in p.steps) tail r q (sym is ∙ rows) (named ∙ sym p.named) (subst (λ z. IsOnce z) is once) in
          let stands : StandsFor l (plugged k.outer (plugged p.steps (grove p.at p.below p.rest))) = subst (λ z. StandsFor l (plugged k.outer z)) (sym p.is) k.stands in
          record {
            at = r;
            left = left;
            is = e;
            named = named;
            value = ap (λ n. option_map (λ (m : TreeNode X). m.value) (value_of l.nodes n)) (sym p.named) ∙ (led l k.outer p.steps p.at p.below p.rest stands).value ∙ ap (λ (z : Row Name (Node X)). Some z.value.element) (sym c.row);
            live = live_of l (plugged k.outer k.below) k.stands name (plugged_has k.outer k.below name there);
            index = ap (λ n. pool.index_of n (outline 2 (forest_in l))) (sym p.named)
                ∙ index_there l (p.steps ++ k.outer) p.at p.below p.rest (subst (λ z. StandsFor l z) (sym (plugged-append p.steps k.outer (grove p.at p.below p.rest))) stands)
                ∙ before_length p.steps k.outer ∙ ap (λ n. n + length (before_in k.outer)) (sym c.count);
            next_is = λ next f. f k.outer p.steps p.at p.below p.rest stands k.top_is p.named ∙ sym (ap (λ z. first_or z None) c.rest);
          }

  -- and the walk after it
  unfoldable pub moved_on : (l : Links X) (top place : Option Name) (count : ℕ) (k : Subtree_counted l top place count) (name : Name) (t : Turned l top place count k name) (next : Option Name) → next ≡ first_or t.left None → Subtree_counted l top next (count + 1)
  moved_on l top place count k name t next e = record {
    outer = k.outer;
    below = k.below;
    before = k.before ++ t.at ∷ [];
    left = t.left;
    stands = k.stands;
    top_is = k.top_is;
    total = k.total;
    is = k.is ∙ ap (λ z. k.before ++ z) t.is ∙ sym (append_assoc k.before (t.at ∷ []) t.left);
    place_is = e;
    count_is = let counted = k.count_is in let one = length-append k.before (t.at ∷ []) in omega (arith, counted, one);
  }

  -- each node stands later among the rows
  pub further : (l : Links X) → IsForest l → (top place : Option Name) (count : ℕ) (k : Subtree_counted l top place count) (name : Name) (t : Turned l top place count k name) (next : Option Name) → next ≡ first_or t.left None
      → length (outline 2 (forest_in l)) - chain.place_of next (outline 2 (forest_in l)) < length (outline 2 (forest_in l)) - pool.index_of name (outline 2 (forest_in l))
  unfolding moved_on
  further l s top place count k name t next e = by_left t.left refl
    where
      inside : pool.index_of name (outline 2 (forest_in l)) < length (outline 2 (forest_in l))
      inside = has_live name (outline 2 (forest_in l)) (named name 2 (forest_in l) (s.all name t.live))

      by_left : (left : List (Row Name (Node X))) → t.left ≡ left
          → length (outline 2 (forest_in l)) - chain.place_of next (outline 2 (forest_in l)) < length (outline 2 (forest_in l)) - pool.index_of name (outline 2 (forest_in l))
      by_left [] is =
          let none : next ≡ None = e ∙ ap (λ z. first_or z None) is in
          let at : chain.place_of next (outline 2 (forest_in l)) ≡ length (outline 2 (forest_in l)) = ap (λ p. chain.place_of p (outline 2 (forest_in l))) none in
          let low = inside in omega (arith, at, low)
      by_left (q ∷ left) is =
          let some : next ≡ Some q.name = e ∙ ap (λ z. first_or z None) is in
          let m = moved_on l top place count k name t next e in
          let u = turned l top next (count + 1) m q.name some in
          let at : chain.place_of next (outline 2 (forest_in l)) ≡ pool.index_of q.name (outline 2 (forest_in l)) = ap (λ p. chain.place_of p (outline 2 (forest_in l))) some in
          let one = length-append k.before (t.at ∷ []) in
          let low = inside in let here = t.index in let there = u.index in omega (arith, at, one, low, here, there)

  pub subtree_live : (l : Links X) (top place : Option Name) (count : ℕ) → Subtree_counted l top place count → (name : Name) → place ≡ Some name → IsLive l.nodes name
  subtree_live l top place count k name at = (turned l top place count k name at).live

  pub subtree_below : (l : Links X) (top place : Option Name) (count : ℕ) → Subtree_counted l top place count → (name : Name) → place ≡ Some name → (count < nodes_in l top) × (nodes_in l top - (count + 1) < nodes_in l top - count)
  subtree_below l top place count k name at =
      let t = turned l top place count k name at in
      let rows = size_is 2 k.below in let are = ap length (k.is ∙ ap (λ z. k.before ++ z) t.is) in let both = length-append k.before (t.at ∷ t.left) in let total = k.total in let counted = k.count_is in
      let less : count < nodes_in l top = omega (arith, rows, are, both, total, counted) in (less, omega (arith, less))

  pub subtree_more : (l : Links X) (top place : Option Name) (count : ℕ) → Subtree_counted l top place count → (name : Name) → place ≡ Some name → (next : Option Name) → Follows l top name next → Subtree_counted l top next (count + 1)
  subtree_more l top place count k name at next f = let t = turned l top place count k name at in moved_on l top place count k name t next (t.next_is next f)

  pub subtree_end : (l : Links X) (top : Option Name) (count : ℕ) → Subtree_counted l top None count → count ≡ nodes_in l top
  subtree_end l top count k = by_left k.left k.is k.place_is
    where
      by_left : (left : List (Row Name (Node X))) → outline 2 k.below ≡ k.before ++ left → None ≡ first_or left None → count ≡ nodes_in l top
      by_left (r ∷ left) is first = absurd (none-some r.name first)
      by_left [] is first =
          let rows = size_is 2 k.below in let are = ap length (is ∙ append-nil k.before) in let total = k.total in let counted = k.count_is in omega (arith, rows, are, total, counted)

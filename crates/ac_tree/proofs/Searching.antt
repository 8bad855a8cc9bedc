-- What a search among the nodes of a subtree has found so far, and what its calls answer.
use Rattle.std.proofs.Common.{◌≡◌, ℕ, suc, ◌+◌, ◌-◌, ◌^◌, ◌<◌, Bool, true, false, true≢false, List, [], ◌∷◌, ◌++◌, length, take, drop, filter, reverse, Option, Some, None, is_some, Ok, refl, sym, ap, ◌∙◌, subst, inl, inr, arith, cond, one-add, ne_eqb}
use Rattle.std.specs.Prelude.{◌==◌, find, if◌then◌else◌}
use Rattle.std.specs.Option.{ForSome, option_map}
use Rattle.std.proofs.lemmas.Bool.{cond-false}
use Rattle.std.proofs.lemmas.Option.{none-some}
use Rattle.std.proofs.Math.Seq.{take-append_seam, drop-append_seam, drop-append-add}
use Rattle.ac_base.specs.declared.name.Name.{Name}
use Rattle.ac_base.specs.declared.cursor.Cursor.{Cursor}
use Rattle.ac_base.specs.FirstReason.{first_reason}
use Rattle.ac_base.specs.Rows.{Row, row}
use Rattle.ac_pool.specs.Contents.{value_of, IsLive}
use Rattle.ac_pool.specs.Link.{link_of, name_in, value_at, value_in}
use Rattle.ac_chain.specs.Rows as chain
use Rattle.ac_chain.specs.ChainFields.{first_or}
use Rattle.ac_pool.specs.NamedRows.{HasName}
use Rattle.ac_pool.specs.Runs.{LiesFrom}
use Rattle.ac_pool.proofs.Runs.{lies_beside}
use Rattle.ac_pool.proofs.SlotNames.{linked_name, value_within}
use Rattle.ac_chain.proofs.Finds.{any_found, take_had, drop_had}
use Rattle.ac_chain.proofs.Grows.{reverse_has}
use Rattle.ac_chain.proofs.Searches.{some_value, first_found, first_passed}
use Rattle.ac_model.specs.Rows.{Node, node}
use Rattle.ac_model.specs.Objects.{Object, plain, plains}
use Rattle.ac_model.specs.Letters.{name_of}
use Rattle.ac_model.specs.Cursors.{cursor_at}
use Rattle.ac_model.specs.Calls.{Looking}
use Rattle.ac_model.specs.Outline.{spot, run_of, run_start, subtree_length, subtree_start, path_to, is_in}
use Rattle.ac_model.specs.Trees as trees
use Rattle.ac_model.specs.Trees.{tree_mark, needs_node, mark_of_spot, found_among, rows_from}
use Rattle.ac_model.proofs.Plains.{plains-take, plains-drop, plains-reverse}
use Rattle.ac_tree.specs.declared.links.TreeNode.{TreeNode}
use Rattle.ac_tree.specs.declared.links.Links.{Links}
use Rattle.ac_tree.specs.Forests.{Forest, bare, grove, outline, plugged, depth_in, before_in, after_in}
use Rattle.ac_tree.specs.TreeFields.{forest_in, IsForest, first_of}
use Rattle.ac_tree.specs.TreeCursors.{node_in, serial_in}
use Rattle.ac_chain.specs.TreeCursors.{NodeMarks}
use Rattle.ac_tree.specs.Searching.{found_in, rows_below, rows_on, rows_up}
use Rattle.ac_tree.specs.Walking.{Follows, IsBeside}
use Rattle.ac_tree.proofs.Places.{outline_plugged, size_is, has}
use Rattle.ac_tree.proofs.Forests.{live_of, forest-is}
use Rattle.ac_tree.proofs.Outlines.{position_run, node_start, serial_of, spot_name}
use Rattle.ac_tree.proofs.Holes.{Under, under_of, under_root, length_seen}
use Rattle.ac_tree.proofs.Judging.{at_node, mark_named, spot_mark, named_mark}
use Rattle.ac_tree.proofs.Looking.{at_place}
use Rattle.ac_tree.proofs.Following.{Subtree_counted, counted_start, subtree_live, turned, moved_on, further, follows_beside}

-- the first of two that is found
abbrev either : Option Name → Option Name → Option Name
either None b = b
either (Some a) b = Some a

module _ {X : Type 0} where
  -- a search among nodes, as one among the rows of a chain
  abbrev same_node : (X → X → Bool) → Node X → Node X → Bool
  same_node same m n = same m.element n.element

  pub hit_first : (same : X → X → Bool) (e : X) (r : Row Name (Node X)) (rest : List (Row Name (Node X))) → same r.value.element e ≡ true → found_in same e (r ∷ rest) ≡ Some r.name
  hit_first same e r rest h = first_found (same_node same) (node 0 e) r rest h

  pub missed_first : (same : X → X → Bool) (e : X) (r : Row Name (Node X)) (rest : List (Row Name (Node X))) → same r.value.element e ≡ false → found_in same e (r ∷ rest) ≡ found_in same e rest
  missed_first same e r rest h = first_passed (same_node same) (node 0 e) r rest h

  -- depths are of no account
  found-append : (same : X → X → Bool) (e : X) (xs ys : List (Row Name (Node X))) → found_in same e (xs ++ ys) ≡ either (found_in same e xs) (found_in same e ys)
  found-append same e [] ys = refl
  found-append same e (r ∷ xs) ys =
      elim (same r.value.element e) as (λ b. option_map (λ (q : Row Name (Node X)). q.name) (cond b (Some r) (find (λ (q : Row Name (Node X)). same q.value.element e) (xs ++ ys)))
      ≡ either (option_map (λ (q : Row Name (Node X)). q.name) (cond b (Some r) (find (λ (q : Row Name (Node X)). same q.value.element e) xs))) (found_in same e ys)) [
        | true ↦ refl
        | false ↦ found-append same e xs ys
      ]

  found_depth : (same : X → X → Bool) (e : X) (d f : ℕ) (t : Forest X) → found_in same e (outline d t) ≡ found_in same e (outline f t)
  found_depth same e d f bare = refl
  found_depth same e d f (grove x below rest) =
      let both : found_in same e (outline (d + 1) below ++ outline d rest) ≡ found_in same e (outline (f + 1) below ++ outline f rest) =
      found-append same e (outline (d + 1) below) (outline d rest) ∙ (λ i. either (found_depth same e (d + 1) (f + 1) below i) (found_depth same e d f rest i))
      ∙ sym (found-append same e (outline (f + 1) below) (outline f rest)) in
      elim (same x.value e) as (λ b.
      option_map (λ (q : Row Name (Node X)). q.name) (cond b (Some (row x.name (node d x.value))) (find (λ (q : Row Name (Node X)). same q.value.element e) (outline (d + 1) below ++ outline d rest)))
      ≡ option_map (λ (q : Row Name (Node X)). q.name) (cond b (Some (row x.name (node f x.value))) (find (λ (q : Row Name (Node X)). same q.value.element e) (outline (f + 1) below ++ outline f rest)))) [
        | true ↦ refl
        | false ↦ both
      ]

  -- the rows below a node are what stands there
  below_rows : (l : Links X) (top : Option Name) (u : Under l top) → rows_below (outline 2 (forest_in l)) (serial_in top) ≡ outline (depth_in u.steps) u.below
  below_rows l top u =
      let all = outline 2 (forest_in l) in let n = serial_in top in let d = depth_in u.steps in
      let f = forest-is l (plugged u.steps u.below) u.stands in
      let run : length (run_of (plains all) n) ≡ length (outline d u.below) =
      ap (λ z. length (run_of (plains (outline 2 z)) n)) f ∙ ap length (position_run (outline 2 (plugged u.steps u.below)) n u.depth u.below u.position)
      ∙ length_seen (outline (u.depth + 1) u.below) ∙ size_is (u.depth + 1) u.below ∙ sym (size_is d u.below) in
      let start : run_start (plains all) n ≡ length (before_in u.steps) = ap (λ z. run_start (plains (outline 2 z)) n) f ∙ u.start in
      let rows : all ≡ before_in u.steps ++ (outline d u.below ++ after_in u.steps) = ap (outline 2) f ∙ outline_plugged u.steps u.below in
      (λ i. take (run i) (drop (start i) (rows i))) ∙ ap (take (length (outline d u.below))) (drop-append_seam (before_in u.steps) (outline d u.below ++ after_in u.steps))
      ∙ take-append_seam (outline d u.below) (after_in u.steps)

  all_below : (l : Links X) → IsForest l → rows_below (outline 2 (forest_in l)) 0 ≡ outline 2 (forest_in l)
  unfolding under_root
  all_below l s = below_rows l None (under_root l s)

  -- nothing was found so far: what is left decides
  pub record Seeking (l : Links X) (top : Option Name) (same : X → X → Bool) (e : X) (wanted place : Option Name) : Type 0 where
    pub count : ℕ
    pub counted : Subtree_counted l top place count
    pub found : found_in same e counted.left ≡ wanted

  pub seek_start : (l : Links X) (s : IsForest l) (top : Option Name) (live : ForSome top (IsLive l.nodes)) (same : X → X → Bool) (e : X) (place : Option Name) → place ≡ first_of l top
      → Seeking l top same e (found_in same e (rows_below (outline 2 (forest_in l)) (serial_in top))) place
  unfolding counted_start
  seek_start l s top live same e place is =
      let u = under_of l s top live in
      record { count = 1; counted = counted_start l s top live place is; found = found_depth same e 2 (depth_in u.steps) u.below ∙ sym (ap (found_in same e) (below_rows l top u)) }

  module _ (l : Links X) (top : Option Name) (same : X → X → Bool) (e : X) (wanted place : Option Name) (k : Seeking l top same e wanted place) (name : Name) (at : place ≡ Some name) where
    pub seek_live : IsLive l.nodes name
    seek_live = subtree_live l top place k.count k.counted name at

    pub seek_hit : (v : X) → option_map (λ (n : TreeNode X). n.value) (value_of l.nodes name) ≡ Some v → (r : Bool) → r ≡ same v e → r ≡ true → Some name ≡ wanted
    seek_hit v is r test hit =
        let t = turned l top place k.count k.counted name at in
        let here : same t.at.value.element e ≡ true = ap (λ w. same w e) (some_value t.at.value.element v (sym t.value ∙ is)) ∙ sym test ∙ hit in
        ap Some (sym t.named) ∙ sym (hit_first same e t.at t.left here) ∙ ap (found_in same e) (sym t.is) ∙ k.found

    pub seek_more : (v : X) → option_map (λ (n : TreeNode X). n.value) (value_of l.nodes name) ≡ Some v → (r : Bool) → r ≡ same v e → r ≡ false → (next : Option Name) → Follows l top name next → Seeking l top same e wanted next
    unfolding moved_on
    seek_more v is r test miss next f =
        let t = turned l top place k.count k.counted name at in
        let here : same t.at.value.element e ≡ false = ap (λ w. same w e) (some_value t.at.value.element v (sym t.value ∙ is)) ∙ sym test ∙ miss in
        record {
          count = k.count + 1;
          counted = moved_on l top place k.count k.counted name t next (t.next_is next f);
          found = sym (missed_first same e t.at t.left here) ∙ ap (found_in same e) (sym t.is) ∙ k.found;
        }

    pub seek_less : IsForest l → (next : Option Name) → Follows l top name next
        → length (outline 2 (forest_in l)) - chain.place_of next (outline 2 (forest_in l)) < length (outline 2 (forest_in l)) - chain.place_of place (outline 2 (forest_in l))
    seek_less s next f =
        let t = turned l top place k.count k.counted name at in let rows = outline 2 (forest_in l) in
        subst (λ p. length rows - chain.place_of next rows < length rows - chain.place_of p rows) (sym at) (further l s top place k.count k.counted name t next (t.next_is next f))

  pub seek_end : (l : Links X) (top : Option Name) (same : X → X → Bool) (e : X) (wanted place : Option Name) → Seeking l top same e wanted place → place ≡ None → None ≡ wanted
  seek_end l top same e wanted place k none = by_left k.counted.left (sym none ∙ k.counted.place_is) k.found
    where
      by_left : (left : List (Row Name (Node X))) → None ≡ first_or left None → found_in same e left ≡ wanted → None ≡ wanted
      by_left [] p f = f
      by_left (r ∷ left) p f = absurd (none-some r.name p)

  -- The same by links: one leads to the place

  pub seek_link : (l : Links X) → IsForest l → (top : Option Name) (same : X → X → Bool) (e : X) (wanted place : Option Name) → Seeking l top same e wanted place
      → Seeking l top same e wanted (name_in l.nodes (link_of place))
  seek_link l s top same e wanted place k =
      subst (λ o. Seeking l top same e wanted o) (sym (linked_name l.nodes s.sound place (λ a is. seek_live l top same e wanted place k a is))) k

  -- the name of a node to which a link leads
  record Linked (l : Links X) (link : ℕ) (n : TreeNode X) : Type 0 where
    pub name : Name
    pub named : name_in l.nodes link ≡ Some name
    pub value : option_map (λ (m : TreeNode X). m.value) (value_of l.nodes name) ≡ Some n.value

  linked_by : (l : Links X) (link : ℕ) (n : TreeNode X) (o : Option Name) → name_in l.nodes link ≡ o → value_at l.nodes o ≡ Some n → Linked l link n
  linked_by l link n None named is = absurd (none-some n is)
  linked_by l link n (Some a) named is = record { name = a; named = named; value = ap (option_map (λ (m : TreeNode X). m.value)) is }

  module _ (l : Links X) (top : Option Name) (same : X → X → Bool) (e : X) (wanted : Option Name) (link : ℕ)
      (k : Seeking l top same e wanted (name_in l.nodes link)) where
    pub link_end : value_in l.nodes link ≡ None → None ≡ wanted
    link_end none = by_name (name_in l.nodes link) refl
      where
        by_name : (o : Option Name) → name_in l.nodes link ≡ o → None ≡ wanted
        by_name None named = seek_end l top same e wanted (name_in l.nodes link) k named
        by_name (Some a) named =
            let live = seek_live l top same e wanted (name_in l.nodes link) k a named in
            absurd (true≢false (sym live ∙ ap (λ o. is_some (value_at l.nodes o)) (sym named) ∙ ap is_some none))

    module _ (n : TreeNode X) (is : value_in l.nodes link ≡ Some n) (r : Bool) (test : r ≡ same n.value e) where
      at : Linked l link n
      at = linked_by l link n (name_in l.nodes link) refl is

      pub link_hit : r ≡ true → name_in l.nodes link ≡ wanted
      link_hit hit = at.named ∙ seek_hit l top same e wanted (name_in l.nodes link) k at.name at.named n.value at.value r test hit

      pub link_more : r ≡ false → (next : Option Name) → ForSome (name_in l.nodes link) (λ a. Follows l top a next) → Seeking l top same e wanted next
      link_more miss next f = seek_more l top same e wanted (name_in l.nodes link) k at.name at.named n.value at.value r test miss next (f at.name at.named)

      pub link_less : IsForest l → (next : Option Name) → ForSome (name_in l.nodes link) (λ a. Follows l top a next)
          → length (outline 2 (forest_in l)) - chain.place_of next (outline 2 (forest_in l))
          < length (outline 2 (forest_in l)) - chain.place_of (name_in l.nodes link) (outline 2 (forest_in l))
      link_less s next f = seek_less l top same e wanted (name_in l.nodes link) k at.name at.named s next (f at.name at.named)

  -- The same with the slots that lie together from the place on

  pub record Running (l : Links X) (top : Option Name) (same : X → X → Bool) (e : X) (wanted : Option Name) (place : ℕ) (run : List (Option (TreeNode X))) : Type 0 where
    pub seeking : Seeking l top same e wanted (name_in l.nodes place)
    pub lies : LiesFrom (value_in l.nodes) place run

  module _ (l : Links X) (s : IsForest l) (top : Option Name) (place : ℕ) (run : List (Option (TreeNode X))) (lies : LiesFrom (value_in l.nodes) place run) (n : TreeNode X) (is : value_in l.nodes place ≡ Some n) where
    pub place_few : place < 2 ^ 30
    place_few = omega (arith, value_within l.nodes s.sound place n is, s.sound.few)

    module _ (b : IsBeside place n (drop 1 run)) where
      pub runs_beside : LiesFrom (value_in l.nodes) (place + 1) (drop 1 run)
      runs_beside = lies_beside (value_in l.nodes) place run lies b.kept

      pub follows_run : ForSome (name_in l.nodes place) (λ a. Follows l top a (name_in l.nodes (place + 1)))
      follows_run = follows_beside l s top place (place + 1) n is b.alone b.next (ap is_some runs_beside.first ∙ b.kept)

  -- the node itself stands before all that is below it
  record Met_first (l : Links X) (a : Name) : Type 0 where
    pub at : Row Name (Node X)
    pub is : rows_on (outline 2 (forest_in l)) a.serial ≡ at ∷ rows_below (outline 2 (forest_in l)) a.serial
    pub named : at.name ≡ a
    pub value : option_map (λ (n : TreeNode X). n.value) (value_of l.nodes a) ≡ Some at.value.element

  met_first : (l : Links X) → IsForest l → (a : Name) → IsLive l.nodes a → Met_first l a
  met_first l s a live =
      let k = at_place l s a live in let d = depth_in k.steps in let q = row k.at.name (node d k.at.value) in
      let all = outline 2 (forest_in l) in let t = grove k.at k.below k.rest in let m = length (run_of (plains all) a.serial) in
      let front = before_in k.steps in let tail = (outline (d + 1) k.below ++ outline d k.rest) ++ after_in k.steps in
      let rows : all ≡ front ++ q ∷ tail = ap (outline 2) (sym k.is) ∙ outline_plugged k.steps t in
      let start : run_start (plains all) a.serial ≡ suc (length front) =
      ap (λ z. run_start (plains (outline 2 z)) a.serial) (sym k.is) ∙ ap (λ (n : Name). run_start (plains (outline 2 (plugged k.steps t))) n.serial) (sym k.named) ∙ node_start k.steps k.at k.below k.rest k.alone in
      let from : subtree_start (plains all) a.serial ≡ length front = omega (arith, start) in
      let behind : run_start (plains all) a.serial ≡ length front + 1 = omega (arith, start) in
      let whole : take (subtree_length (plains all) a.serial) (drop (subtree_start (plains all) a.serial) all) ≡ q ∷ take m tail =
      (λ i. take (one-add m i) (drop (from i) (rows i))) ∙ ap (take (suc m)) (drop-append_seam front (q ∷ tail)) in
      let below : rows_below all a.serial ≡ take m tail = (λ i. take m (drop (behind i) (rows i))) ∙ ap (take m) (drop-append-add front (q ∷ tail) 1) in
      let low = (s.sound.issued a live).0 in
      record {
        at = q;
        is = cond-false _ _ _ (ne_eqb a.serial 0 (λ e. omega (arith, e, low))) ∙ whole ∙ ap (λ z. q ∷ z) (sym below);
        named = k.named;
        value = ap (λ n. option_map (λ (m : TreeNode X). m.value) (value_of l.nodes n)) (sym k.named) ∙ ap (option_map (λ (m : TreeNode X). m.value)) k.links.node;
      }

  pub on_hit : (l : Links X) → IsForest l → (node_name : Option Name) → ForSome node_name (IsLive l.nodes) → (a : Name) → node_name ≡ Some a → (same : X → X → Bool) (e v : X)
      → option_map (λ (n : TreeNode X). n.value) (value_of l.nodes a) ≡ Some v → (r : Bool) → r ≡ same v e → r ≡ true → Some a ≡ found_in same e (rows_on (outline 2 (forest_in l)) (serial_in node_name))
  on_hit l s node_name live a at same e v is r test hit =
      let k = met_first l s a (live a at) in
      let here : same k.at.value.element e ≡ true = ap (λ w. same w e) (some_value k.at.value.element v (sym k.value ∙ is)) ∙ sym test ∙ hit in
      ap Some (sym k.named) ∙ sym (hit_first same e k.at (rows_below (outline 2 (forest_in l)) a.serial) here) ∙ ap (found_in same e) (sym k.is)
      ∙ ap (λ p. found_in same e (rows_on (outline 2 (forest_in l)) (serial_in p))) (sym at)

  pub on_miss : (l : Links X) → IsForest l → (node_name : Option Name) → ForSome node_name (IsLive l.nodes) → (a : Name) → node_name ≡ Some a → (same : X → X → Bool) (e v : X) (result : Option Name)
      → option_map (λ (n : TreeNode X). n.value) (value_of l.nodes a) ≡ Some v → (r : Bool) → r ≡ same v e → r ≡ false
      → result ≡ found_in same e (rows_below (outline 2 (forest_in l)) a.serial) → result ≡ found_in same e (rows_on (outline 2 (forest_in l)) (serial_in node_name))
  on_miss l s node_name live a at same e v result is r test miss below =
      let k = met_first l s a (live a at) in
      let here : same k.at.value.element e ≡ false = ap (λ w. same w e) (some_value k.at.value.element v (sym k.value ∙ is)) ∙ sym test ∙ miss in
      below ∙ sym (missed_first same e k.at (rows_below (outline 2 (forest_in l)) a.serial) here) ∙ ap (found_in same e) (sym k.is)
      ∙ ap (λ p. found_in same e (rows_on (outline 2 (forest_in l)) (serial_in p))) (sym at)

  pub on_root : (l : Links X) → IsForest l → (node_name : Option Name) → node_name ≡ None → (same : X → X → Bool) (e : X) (result : Option Name)
      → result ≡ found_in same e (rows_below (outline 2 (forest_in l)) 0) → result ≡ found_in same e (rows_on (outline 2 (forest_in l)) (serial_in node_name))
  on_root l s node_name none same e result is = is ∙ ap (found_in same e) (all_below l s) ∙ ap (λ p. found_in same e (rows_on (outline 2 (forest_in l)) (serial_in p))) (sym none)

  -- the rows that a search looks at, without slots
  on_plain : (rows : List (Row Name (Node X))) (n : ℕ) → plains (rows_on rows n) ≡ rows_from (plains rows) n
  on_plain rows n =
      elim (n == 0) as (λ b. plains (if b then rows else take (subtree_length (plains rows) n) (drop (subtree_start (plains rows) n) rows))
      ≡ (if b then plains rows else take (subtree_length (plains rows) n) (drop (subtree_start (plains rows) n) (plains rows)))) [
        | true ↦ refl
        | false ↦ plains-take (subtree_length (plains rows) n) (drop (subtree_start (plains rows) n) rows) ∙ ap (take (subtree_length (plains rows) n)) (plains-drop (subtree_start (plains rows) n) rows)
      ]

  on_had : (rows : List (Row Name (Node X))) (n : ℕ) (a : Name) → HasName a (rows_on rows n) → HasName a rows
  on_had rows n a =
      elim (n == 0) as (λ b. HasName a (if b then rows else take (subtree_length (plains rows) n) (drop (subtree_start (plains rows) n) rows)) → HasName a rows) [
        | true ↦ λ h. h
        | false ↦ λ h. drop_had (subtree_start (plains rows) n) rows a (take_had (subtree_length (plains rows) n) (drop (subtree_start (plains rows) n) rows) a h)
      ]

  filter_plain : (p : ℕ → Bool) (rows : List (Row Name (Node X))) → plains (filter (λ (r : Row Name (Node X)). p r.name.serial) rows) ≡ filter (λ (r : Row ℕ (Node X)). p r.name) (plains rows)
  filter_plain p [] = refl
  filter_plain p (r ∷ rows) =
      elim (p r.name.serial) as (λ b. plains (cond b (r ∷ filter (λ (q : Row Name (Node X)). p q.name.serial) rows) (filter (λ (q : Row Name (Node X)). p q.name.serial) rows))
      ≡ cond b (row r.name.serial r.value ∷ filter (λ (q : Row ℕ (Node X)). p q.name) (plains rows)) (filter (λ (q : Row ℕ (Node X)). p q.name) (plains rows))) [
        | true ↦ ap (λ z. row r.name.serial r.value ∷ z) (filter_plain p rows)
        | false ↦ filter_plain p rows
      ]

  filter_had : (p : Row Name (Node X) → Bool) (rows : List (Row Name (Node X))) (a : Name) → HasName a (filter p rows) → HasName a rows
  filter_had p [] a = λ h. h
  filter_had p (r ∷ rows) a =
      elim (p r) as (λ b. HasName a (cond b (r ∷ filter p rows) (filter p rows)) → HasName a (r ∷ rows)) [
        | true ↦ λ h. elim h [ inl e ↦ inl e | inr t ↦ inr (filter_had p rows a t) ]
        | false ↦ λ h. inr (filter_had p rows a h)
      ]

  up_plain : (rows : List (Row Name (Node X))) (n : ℕ) → plains (rows_up rows n) ≡ reverse (filter (λ (r : Row ℕ (Node X)). is_in r.name (path_to (plains rows) n)) (plains rows))
  up_plain rows n =
      plains-reverse (filter (λ (r : Row Name (Node X)). is_in r.name.serial (path_to (plains rows) n)) rows) ∙ ap reverse (filter_plain (λ m. is_in m (path_to (plains rows) n)) rows)

  up_had : (rows : List (Row Name (Node X))) (n : ℕ) (a : Name) → HasName a (rows_up rows n) → HasName a rows
  up_had rows n a h =
      let p = λ (r : Row Name (Node X)). is_in r.name.serial (path_to (plains rows) n) in
      filter_had p rows a (reverse_has a (filter p rows) h)

  found_spot : (same : X → X → Bool) (e : X) (rows : List (Row Name (Node X))) → spot_name (option_map spot (find (λ (r : Row ℕ (Node X)). same r.value.element e) (plains rows))) ≡ serial_of (found_in same e rows)
  found_spot same e [] = refl
  found_spot same e (r ∷ rows) =
      elim (same r.value.element e) as (λ b. spot_name (option_map spot (cond b (Some (row r.name.serial r.value)) (find (λ (q : Row ℕ (Node X)). same q.value.element e) (plains rows))))
      ≡ serial_of (option_map (λ (q : Row Name (Node X)). q.name) (cond b (Some r) (find (λ (q : Row Name (Node X)). same q.value.element e) rows)))) [
        | true ↦ refl
        | false ↦ found_spot same e rows
      ]

  found_has : (same : X → X → Bool) (e : X) (rows : List (Row Name (Node X))) (a : Name) → found_in same e rows ≡ Some a → HasName a rows
  found_has same e [] a = λ h. absurd (none-some a h)
  found_has same e (r ∷ rows) a =
      elim (same r.value.element e) as (λ b. option_map (λ (q : Row Name (Node X)). q.name) (cond b (Some r) (find (λ (q : Row Name (Node X)). same q.value.element e) rows)) ≡ Some a → HasName a (r ∷ rows)) [
        | true ↦ λ h. inl (let same : r.name ≡ a = cc in sym same)
        | false ↦ λ h. inr (found_has same e rows a h)
      ]

module _ {X : Type 0} (l : Links X) (s : IsForest l) (o : Object Name (Node X)) (rows_is : o.rows ≡ outline 2 (forest_in l)) (same : X → X → Bool) (e : X) where
  found_mark : (some : List (Row Name (Node X))) → ((a : Name) → HasName a some → HasName a (outline 2 (forest_in l))) → tree_mark o (cursor_at o.number (found_in same e some)) ≡ found_among same (plain o) e (plains some)
  found_mark some had =
      named_mark l s o rows_is (found_in same e some) (λ a h. live_of l (forest_in l) s a (has a 2 (forest_in l) (had a (found_has same e some a h))))
      ∙ sym (spot_mark (plain o) (option_map spot (find (λ (r : Row ℕ (Node X)). same r.value.element e) (plains some))) ∙ ap (mark_named o.number) (found_spot same e some))

  pub find_marks : (name : Option Name) (r : Cursor) → name ≡ found_in same e (rows_on (outline 2 (forest_in l)) 0) → r ≡ cursor_at o.number name → NodeMarks o r (trees.find_call same (plain o) e)
  find_marks name r n er =
      ap (tree_mark o) (er ∙ ap (cursor_at o.number) n) ∙ found_mark (outline 2 (forest_in l)) (λ a h. h) ∙ ap (λ z. found_among same (plain o) e (plains z)) (sym rows_is)

  pub contains_is : (name : Option Name) (r : Bool) → name ≡ found_in same e (rows_on (outline 2 (forest_in l)) 0) → r ≡ is_some name → r ≡ trees.contains_call same (plain o) e
  contains_is name r n er = er ∙ ap is_some (n ∙ ap (found_in same e) (sym rows_is)) ∙ any_found (same_node same) (node 0 e) o.rows

  pub in_subtree_looks : (c : Cursor) (at name : Option Name) (r : Cursor) → needs_node (plain o) (tree_mark o c) ≡ None → at ≡ node_in c → name ≡ found_in same e (rows_on (outline 2 (forest_in l)) (serial_in at)) → r ≡ cursor_at o.number name
      → Looking (NodeMarks o) (trees.find_in_subtree_call same (plain o) (tree_mark o c) e) (Ok r)
  in_subtree_looks c at name r h is n er =
      let serial : serial_in at ≡ name_of (tree_mark o c) = ap serial_in is ∙ sym (ap name_of (at_node l s o rows_is c h).mark) in
      let all = outline 2 (forest_in l) in (
        ap (λ m. first_reason (m ∷ [])) h,
        ap (tree_mark o) (er ∙ ap (cursor_at o.number) n) ∙ found_mark (rows_on all (serial_in at)) (on_had all (serial_in at))
            ∙ ap (found_among same (plain o) e) (on_plain all (serial_in at) ∙ (λ i. rows_from (plains (sym rows_is i)) (serial i))),
      )

  pub ancestor_looks : (c : Cursor) (at name : Option Name) (r : Cursor) → needs_node (plain o) (tree_mark o c) ≡ None → at ≡ node_in c → name ≡ found_in same e (rows_up (outline 2 (forest_in l)) (serial_in at)) → r ≡ cursor_at o.number name
      → Looking (NodeMarks o) (trees.ancestor_find_call same (plain o) (tree_mark o c) e) (Ok r)
  ancestor_looks c at name r h is n er =
      let serial : serial_in at ≡ name_of (tree_mark o c) = ap serial_in is ∙ sym (ap name_of (at_node l s o rows_is c h).mark) in
      let all = outline 2 (forest_in l) in (
        ap (λ m. first_reason (m ∷ [])) h,
        ap (tree_mark o) (er ∙ ap (cursor_at o.number) n) ∙ found_mark (rows_up all (serial_in at)) (up_had all (serial_in at))
            ∙ ap (found_among same (plain o) e) (up_plain all (serial_in at) ∙ (λ i. reverse (filter (λ (q : Row ℕ (Node X)). is_in q.name (path_to (plains (sym rows_is i)) (serial i))) (plains (sym rows_is i))))),
      )

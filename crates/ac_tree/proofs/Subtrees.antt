-- Rows of a tree that are copied in a walk that counts them: a subtree, and what is below a node.
use Rattle.std.proofs.Common.{◌≡◌, ◌≢◌, ℕ, ◌+◌, ◌-◌, List, [], ◌∷◌, ◌++◌, length, reverse, Option, Some, None, refl, sym, ap, ◌∙◌, arith, append-nil, append_assoc}
use Rattle.std.specs.Prelude.{drop, take, Result, Ok, Err, IfOk}
use Rattle.std.specs.Option.{ForSome, option_map}
use Rattle.std.proofs.Math.Seq.{take-append_seam, drop-append_seam}
use Rattle.std.proofs.lemmas.List.{length-append, length-map, map-append, reverse-reverse}
use Rattle.std.proofs.lemmas.Option.{none-some}
use Rattle.ac_base.specs.declared.name.Name.{Name}
use Rattle.ac_base.specs.Rows.{Row, row, values}
use Rattle.ac_pool.specs.Contents.{value_of, IsLive}
use Rattle.ac_chain.specs.ChainFields.{first_or}
use Rattle.ac_chain.proofs.Searches.{some_value}
use Rattle.ac_model.specs.Rows.{Node, node}
use Rattle.ac_model.specs.Objects.{plains}
use Rattle.ac_model.specs.Letters.{mark_at}
use Rattle.ac_model.specs.Outline.{depth_of, run_of, run_rows, run_start, subtree_length, moved_to_depth}
use Rattle.ac_model.specs.Trees.{run_at_depth}
use Rattle.ac_model.proofs.Plains.{plains-append, length-plains}
use Rattle.ac_tree.specs.declared.copying.Leveled.{Leveled}
use Rattle.ac_tree.specs.declared.links.TreeNode.{TreeNode}
use Rattle.ac_tree.specs.declared.links.Links.{Links}
use Rattle.ac_tree.specs.Copying.{in_node, nodes_in, Part, subtree_nodes, run_nodes, level_of, IsForestOf}
use Rattle.ac_tree.specs.Forests.{Forest, bare, grove, outline, first_in, plugged, depth_in, before_in, after_in}
use Rattle.ac_tree.specs.TreeCursors.{serial_in}
use Rattle.ac_tree.specs.TreeFields.{forest_in, IsForest, first_of}
use Rattle.ac_tree.specs.Walking.{Follows}
use Rattle.ac_tree.proofs.Places.{outline_plugged, size_is}
use Rattle.ac_tree.proofs.Forests.{forest-is}
use Rattle.ac_tree.proofs.Counting.{node_depth, root_depth}
use Rattle.ac_tree.proofs.Outlines.{position_run, position_depth, node_position, node_start}
use Rattle.ac_tree.proofs.Holes.{length_seen, Under, under_of}
use Rattle.ac_tree.proofs.Looking.{At_place, at_place}
use Rattle.ac_tree.proofs.Levels.{Walk, walk_more, none_left, nodes_reverse, child_level, top_level}
use Rattle.ac_tree.proofs.Standing.{some_name}
use Rattle.ac_tree.proofs.SplicedRows.{part_rows, parts, part_is, moved_part, moved_outline, taken_part, three_plains}

same_front : {A : Type 0} (front xs ys us vs : List A) → front ++ (xs ++ us) ≡ front ++ (ys ++ vs) → length xs ≡ length ys → xs ≡ ys
same_front front xs ys us vs e n =
    let rest : xs ++ us ≡ ys ++ vs = sym (drop-append_seam front (xs ++ us)) ∙ ap (drop (length front)) e ∙ drop-append_seam front (ys ++ vs) in
    sym (take-append_seam xs us) ∙ (λ i. take (n i) (rest i)) ∙ take-append_seam ys vs

-- what is said of the copies, said in other words
pub if_copied : {A E : Type 0} (P Q : A → Type 0) (r : Result A E) → ((a : A) → P a → Q a) → IfOk r P → IfOk r Q
if_copied P Q (Ok a) f h = f a h
if_copied P Q (Err e) f h = tt

module _ {X : Type 0} where
  pub plain_values : (rows : List (Row Name (Node X))) → values (plains rows) ≡ values rows
  plain_values [] = refl
  plain_values (r ∷ rows) = ap (λ z. r.value ∷ z) (plain_values rows)

  -- copies of a forest's rows
  pub forest_copied : (depth : ℕ) (t : Forest X) (items : List (Leveled X)) → nodes_in items ≡ reverse (values (plains (outline depth t))) → IsForestOf depth items
  forest_copied depth t items copies = record { forest = t; nodes = nodes_reverse items ∙ ap reverse copies ∙ reverse-reverse (values (plains (outline depth t))) ∙ plain_values (outline depth t) }

module _ {X : Type 0} (l : Links X) (s : IsForest l) (from : Name) (level many first : ℕ) (k : Part l from level many) where
  -- the copies so far, and how many are left
  pub record Copying (place : Option Name) (depth : ℕ) (made : List (Leveled X)) (left : ℕ) : Type 0 where
    pub walk : Walk l place depth
    pub part : List (Row Name (Node X))
    pub before_is : walk.before ≡ k.before ++ part
    pub copies : nodes_in made ≡ values (moved_to_depth level first (plains part))
    pub count : length part + left ≡ length k.rows

  pub copying_start : Copying (Some from) level [] many
  copying_start = record {
    walk = record { before = k.before; left = k.rows ++ k.after; is = k.is; place_is = k.from_is; level = λ b e. k.level_is ∙ ap (level_of l) (some_name from b e) };
    part = [];
    before_is = sym (append-nil k.before);
    copies = refl;
    count = let e = k.count_is in omega (arith, e);
  }

  pub copying_more : (place : Option Name) (depth : ℕ) (made : List (Leveled X)) (left : ℕ) → Copying place depth made left → (name : Name) → place ≡ Some name → left ≢ 0
      → (v : X) → option_map (λ (n : TreeNode X). n.value) (value_of l.nodes name) ≡ Some v → (copy : X) → copy ≡ v → (d : ℕ) → d ≡ depth + first - level → (next : Option Name) (now : ℕ) → Follows l None name next → ForSome next (λ b. now ≡ node_depth l (Some b))
      → Copying next now (made ++ record { depth = d; value = copy } ∷ []) (left - 1)
  copying_more place depth made left c name e some v is copy same d shift next now f on =
      let w = walk_more l s place depth c.walk name e next now f on in let h = w.here in
      let value : copy ≡ h.at.value.element = same ∙ some_value v h.at.value.element (sym is ∙ h.value) in
      let deep : depth ≡ h.at.value.depth = ap (λ (n : Node X). n.depth) h.is in
      let one : node d copy ≡ node (h.at.value.depth + first - level) h.at.value.element = λ i. node ((shift ∙ ap (λ z. z + first - level) deep) i) (value i) in
      let count = c.count in let longer = length-append c.part (h.at ∷ []) in
      record {
        walk = w.walk;
        part = c.part ++ h.at ∷ [];
        before_is = w.before_is ∙ ap (λ z. z ++ h.at ∷ []) c.before_is ∙ append_assoc k.before c.part (h.at ∷ []);
        copies = map-append in_node made (record { depth = d; value = copy } ∷ []) ∙ (λ i. c.copies i ++ one i ∷ [])
            ∙ sym (ap (λ z. values (moved_to_depth level first z)) (plains-append c.part (h.at ∷ []))
            ∙ ap values (map-append (λ (q : Row ℕ (Node X)). row q.name (node (q.value.depth + first - level) q.value.element)) (plains c.part) (plains (h.at ∷ [])))
            ∙ map-append (λ (q : Row ℕ (Node X)). q.value) (moved_to_depth level first (plains c.part)) (moved_to_depth level first (plains (h.at ∷ []))));
        count = omega (arith, count, longer, some);
      }

  pub copying_full : (place : Option Name) (depth : ℕ) (made : List (Leveled X)) (left : ℕ) → Copying place depth made left → left ≡ 0 → nodes_in made ≡ values (moved_to_depth level first (plains k.rows))
  copying_full place depth made left c none =
      let count = c.count in
      let part : c.part ≡ k.rows = same_front k.before c.part k.rows c.walk.left k.after (sym (append_assoc k.before c.part c.walk.left) ∙ ap (λ z. z ++ c.walk.left) (sym c.before_is) ∙ sym c.walk.is ∙ k.is) (omega (arith, count, none)) in
      c.copies ∙ ap (λ z. values (moved_to_depth level first (plains z))) part

  pub copying_end : (place : Option Name) (depth : ℕ) (made : List (Leveled X)) (left : ℕ) → Copying place depth made left → place ≡ None → nodes_in made ≡ values (moved_to_depth level first (plains k.rows))
  copying_end place depth made left c none =
      let gone : c.walk.left ≡ [] = none_left l place depth c.walk none in
      let all = ap length (sym c.walk.is ∙ k.is) in let front = ap length c.before_is in
      let a = length-append c.walk.before c.walk.left in let b = length-append k.before (k.rows ++ k.after) in let m = length-append k.rows k.after in let p = length-append k.before c.part in
      let zero = ap length gone in let count = c.count in
      copying_full place depth made left c (omega (arith, all, front, a, b, m, p, zero, count))

module _ {X : Type 0} (l : Links X) (s : IsForest l) (top : Name) (live : IsLive l.nodes top) where
  abbrev pub k : At_place l top
  k = at_place l s top live

  abbrev mid : List (Row Name (Node X))
  mid = part_rows (depth_in k.steps) k.at k.below

  run_long : subtree_length (plains (outline 2 (forest_in l))) top.serial ≡ length mid
  run_long =
      let t = grove k.at k.below k.rest in let rows = outline 2 (plugged k.steps t) in let d = depth_in k.steps in
      let run : subtree_length (plains (outline 2 (forest_in l))) top.serial ≡ subtree_length (plains rows) k.at.name.serial = λ i. subtree_length (plains (outline 2 (sym k.is i))) (sym k.named i).serial in
      let long = ap length (position_run rows k.at.name.serial d k.below (node_position k.steps k.at k.below k.rest k.alone)) ∙ length_seen (outline (d + 1) k.below) in
      omega (arith, run, long)

  deep : level_of l top ≡ depth_in k.steps
  deep =
      let t = grove k.at k.below k.rest in let rows = outline 2 (plugged k.steps t) in
      (λ i. depth_of (plains (outline 2 (sym k.is i))) (sym k.named i).serial) ∙ position_depth rows k.at.name.serial (depth_in k.steps) k.below (node_position k.steps k.at k.below k.rest k.alone)

  -- what the copies are to be
  pub nodes_are : (first : ℕ) → subtree_nodes l top first ≡ values (plains (part_rows first k.at k.below))
  nodes_are first =
      let t = grove k.at k.below k.rest in let rows = outline 2 (plugged k.steps t) in let d = depth_in k.steps in let at = node_position k.steps k.at k.below k.rest k.alone in
      ap values (part_is (outline 2 (forest_in l)) k.steps k.at k.below k.rest (ap (outline 2) (sym k.is)) (mark_at 0 top.serial) (ap (λ (a : Name). a.serial) (sym k.named)) (node_start k.steps k.at k.below k.rest k.alone)
      (ap length (position_run rows k.at.name.serial d k.below at) ∙ length_seen (outline (d + 1) k.below)) (position_depth rows k.at.name.serial d k.below at) first)

  pub subtree_long : (first : ℕ) → length (subtree_nodes l top first) ≡ subtree_length (plains (outline 2 (forest_in l))) top.serial
  subtree_long first =
      let a = size_is (first + 1) k.below in let b = size_is (depth_in k.steps + 1) k.below in let c = length-plains (outline (first + 1) k.below) in
      let long = length-map (plains (part_rows first k.at k.below)) (λ (q : Row ℕ (Node X)). q.value) in let all = ap length (nodes_are first) in
      let run = run_long in omega (arith, a, b, c, long, all, run)

  pub subtree_part : (n depth : ℕ) → n ≡ subtree_length (plains (outline 2 (forest_in l))) top.serial → depth ≡ level_of l top → Part l top depth n
  subtree_part n depth count is = record {
    before = before_in k.steps;
    rows = mid;
    after = outline (depth_in k.steps) k.rest ++ after_in k.steps;
    is = ap (outline 2) (sym k.is) ∙ parts k.steps k.at k.below k.rest;
    from_is = ap Some (sym k.named);
    count_is = count ∙ run_long;
    level_is = is;
  }

  -- the copies of the part are those of the subtree
  pub subtree_copied : (n depth first : ℕ) (count : n ≡ subtree_length (plains (outline 2 (forest_in l))) top.serial) (is : depth ≡ level_of l top) (items : List (Leveled X))
      → nodes_in items ≡ reverse (values (moved_to_depth depth first (plains (subtree_part n depth count is).rows))) → nodes_in items ≡ reverse (values (plains (part_rows first k.at k.below)))
  unfolding subtree_part
  subtree_copied n depth first count is items copies =
      copies ∙ ap reverse ((λ i. values (moved_to_depth ((is ∙ deep) i) first (plains mid))) ∙ ap values (moved_part (depth_in k.steps) first k.at k.below))

  pub subtree_is : (first : ℕ) (items : List (Leveled X)) → nodes_in items ≡ reverse (values (plains (part_rows first k.at k.below))) → nodes_in items ≡ reverse (subtree_nodes l top first)
  subtree_is first items copies = copies ∙ ap reverse (sym (nodes_are first))

  pub subtree_forest : (first : ℕ) (items : List (Leveled X)) → nodes_in items ≡ reverse (values (plains (part_rows first k.at k.below))) → IsForestOf first items
  subtree_forest first items copies =
      forest_copied first (grove k.at k.below bare) items (copies ∙ ap (λ z. reverse (values (plains (row k.at.name (node first k.at.value) ∷ z)))) (sym (append-nil (outline (first + 1) k.below))))

module _ {X : Type 0} (l : Links X) (s : IsForest l) (parent : Option Name) (live : ForSome parent (IsLive l.nodes)) where
  abbrev pub u : Under l parent
  u = under_of l s parent live

  abbrev below_rows : List (Row Name (Node X))
  below_rows = outline (depth_in u.steps) u.below

  rows_are : outline 2 (forest_in l) ≡ outline 2 (plugged u.steps u.below)
  rows_are = ap (outline 2) (forest-is l (plugged u.steps u.below) u.stands)

  below_run : length (run_of (plains (outline 2 (forest_in l))) (serial_in parent)) ≡ length below_rows
  below_run =
      ap (λ k. length (run_of (plains k) (serial_in parent))) rows_are ∙ ap length (position_run (outline 2 (plugged u.steps u.below)) (serial_in parent) u.depth u.below u.position)
      ∙ length_seen (outline (u.depth + 1) u.below) ∙ ap (λ d. length (outline d u.below)) (sym u.deep)

  below_depth : depth_of (plains (outline 2 (forest_in l))) (serial_in parent) + 1 ≡ depth_in u.steps
  below_depth =
      ap (λ d. d + 1) (ap (λ k. depth_of (plains k) (serial_in parent)) rows_are ∙ position_depth (outline 2 (plugged u.steps u.below)) (serial_in parent) u.depth u.below u.position) ∙ sym u.deep

  below_cut : run_rows (plains (outline 2 (forest_in l))) (serial_in parent) ≡ plains below_rows
  below_cut =
      let start : run_start (plains (outline 2 (forest_in l))) (serial_in parent) ≡ length (plains (before_in u.steps)) = ap (λ k. run_start (plains k) (serial_in parent)) rows_are ∙ u.start ∙ sym (length-plains (before_in u.steps)) in
      (λ i. take ((below_run ∙ sym (length-plains below_rows)) i) (drop (start i) ((ap plains (rows_are ∙ outline_plugged u.steps u.below) ∙ three_plains (before_in u.steps) below_rows (after_in u.steps)) i)))
      ∙ taken_part (plains (before_in u.steps)) (plains below_rows) (plains (after_in u.steps))

  moved_below : (first : ℕ) → moved_to_depth (depth_in u.steps) first (plains below_rows) ≡ plains (outline first u.below)
  moved_below first =
      let zero : depth_in u.steps + 0 ≡ depth_in u.steps = omega arith in let none : first + 0 ≡ first = omega arith in
      ap (λ d. moved_to_depth (depth_in u.steps) first (plains (outline d u.below))) (sym zero) ∙ moved_outline (depth_in u.steps) first 0 u.below ∙ ap (λ d. plains (outline d u.below)) none

  pub below_moved : (first : ℕ) → run_at_depth first (plains (outline 2 (forest_in l))) (mark_at 0 (serial_in parent)) ≡ plains (outline first u.below)
  below_moved first = (λ i. moved_to_depth (below_depth i) first (below_cut i)) ∙ moved_below first

  -- what the copies are to be
  pub below_nodes : (first : ℕ) → run_nodes l parent first ≡ values (plains (outline first u.below))
  below_nodes first = ap values (below_moved first)

  pub below_long : (first : ℕ) → length (run_nodes l parent first) ≡ length (run_of (plains (outline 2 (forest_in l))) (serial_in parent))
  below_long first =
      ap length (below_nodes first) ∙ length-map (plains (outline first u.below)) (λ (q : Row ℕ (Node X)). q.value) ∙ length-plains (outline first u.below) ∙ size_is first u.below
      ∙ sym (below_run ∙ size_is (depth_in u.steps) u.below)

  -- where there is no child there is nothing
  pub below_none : (first : ℕ) → first_of l parent ≡ None → u.below ≡ bare
  below_none first none = by_below u.below (sym u.first ∙ none)
    where
      by_below : (t : Forest X) → first_in t ≡ None → t ≡ bare
      by_below bare e = refl
      by_below (grove x c r) e = absurd (none-some x.name (sym e))

  first_level : (child : Name) → Some child ≡ first_of l parent → depth_of (plains (outline 2 (forest_in l))) (serial_in parent) + 1 ≡ level_of l child
  first_level child is = by_parent parent refl (is)
    where
      by_parent : (p : Option Name) → parent ≡ p → Some child ≡ first_of l parent → depth_of (plains (outline 2 (forest_in l))) (serial_in parent) + 1 ≡ level_of l child
      by_parent None e is =
          let root = root_depth l in
          ap (λ p. node_depth l p + 1) e ∙ ap (λ d. d + 1) root ∙ top_level l s (first_of l None) refl child (ap (first_of l) (sym e) ∙ sym is)
      by_parent (Some a) e is = ap (λ p. node_depth l p + 1) e ∙ sym (child_level l s a (live a e) (first_of l (Some a)) refl child (ap (first_of l) (sym e) ∙ sym is))

  pub below_part : (child : Name) (n depth : ℕ) → Some child ≡ first_of l parent → n ≡ length (run_of (plains (outline 2 (forest_in l))) (serial_in parent)) → depth ≡ depth_of (plains (outline 2 (forest_in l))) (serial_in parent) + 1 → Part l child depth n
  below_part child n depth is count level = record {
    before = before_in u.steps;
    rows = below_rows;
    after = after_in u.steps;
    is = rows_are ∙ outline_plugged u.steps u.below;
    from_is = from_below u.below (sym u.first ∙ sym is);
    count_is = count ∙ below_run;
    level_is = level ∙ first_level child is;
  }
    where
      from_below : (t : Forest X) → first_in t ≡ Some child → Some child ≡ first_or (outline (depth_in u.steps) t ++ after_in u.steps) None
      from_below bare e = absurd (none-some child e)
      from_below (grove x c r) e = sym e

  pub below_copied : (child : Name) (n depth first : ℕ) (is : Some child ≡ first_of l parent) (count : n ≡ length (run_of (plains (outline 2 (forest_in l))) (serial_in parent))) (level : depth ≡ depth_of (plains (outline 2 (forest_in l))) (serial_in parent) + 1)
      (items : List (Leveled X)) → nodes_in items ≡ reverse (values (moved_to_depth depth first (plains (below_part child n depth is count level).rows))) → nodes_in items ≡ reverse (values (plains (outline first u.below)))
  unfolding below_part
  below_copied child n depth first is count level items copies =
      copies ∙ ap reverse ((λ i. values (moved_to_depth ((level ∙ below_depth) i) first (plains below_rows))) ∙ ap values (moved_below first))

  pub below_is : (first : ℕ) (items : List (Leveled X)) → nodes_in items ≡ reverse (values (plains (outline first u.below))) → nodes_in items ≡ reverse (run_nodes l parent first)
  below_is first items copies = copies ∙ ap reverse (sym (below_nodes first))

  pub none_copied : (first : ℕ) (items : List (Leveled X)) → items ≡ [] → first_of l parent ≡ None → nodes_in items ≡ reverse (values (plains (outline first u.below)))
  none_copied first items none leaf = ap nodes_in none ∙ sym (ap (λ t. reverse (values (plains (outline first t)))) (below_none first leaf))

  pub below_forest : (first : ℕ) (items : List (Leveled X)) → nodes_in items ≡ reverse (values (plains (outline first u.below))) → IsForestOf first items
  below_forest first items copies = forest_copied first u.below items copies

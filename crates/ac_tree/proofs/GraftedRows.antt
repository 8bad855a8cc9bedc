-- What a tree is after nodes came into it as a forest of children of a node.
use Rattle.std.proofs.Common.{◌≡◌, ℕ, ◌+◌, ◌-◌, ◌<◌, ◌≤◌, List, [], ◌∷◌, length, reverse, Option, Some, None, Result, Ok, Err, IsTrue, refl, sym, ap, ◌∙◌, subst, arith}
use Rattle.std.specs.Prelude.{IfOk, IfErr}
use Rattle.std.proofs.lemmas.List.{length-map, length-reverse, reverse-reverse}
use Rattle.std.proofs.lemmas.Option.{none-some}
use Rattle.ac_base.specs.declared.limit.Limit.{Limit}
use Rattle.ac_base.specs.declared.name.Name.{Name}
use Rattle.ac_base.specs.declared.cursor.Cursor.{Cursor}
use Rattle.ac_base.specs.declared.cursor.Cursor.TheVariants.{NoElement, At}
use Rattle.ac_base.specs.declared.reason.Reason.{Reason}
use Rattle.ac_base.specs.declared.reason.Reason.TheVariants.{RootSource}
use Rattle.ac_base.specs.declared.fault.Fault.{Fault}
use Rattle.ac_base.specs.declared.fault.Fault.TheVariants as fault
use Rattle.ac_base.specs.declared.fault.NoMemory.{NoMemory}
use Rattle.ac_base.specs.Guards.{GuardCounts}
use Rattle.ac_base.specs.FirstReason.{first_reason, earlier}
use Rattle.ac_base.specs.Limits.{is_past}
use Rattle.ac_base.specs.Rows.{Row, names, values}
use Rattle.ac_pool.specs.Contents.{IsLive}
use Rattle.ac_chain.specs.Rows.{slots_in}
use Rattle.ac_chain.proofs.Puts.{put_length}
use Rattle.ac_chain.proofs.SequenceGrows.{takes_few, takes_within, sequence_grown, put_after, first_marked}
use Rattle.ac_model.specs.Rows.{Node}
use Rattle.ac_model.specs.Objects.{Object, plain, plains, length_of}
use Rattle.ac_model.specs.Letters.{Mark, no_mark, mark_at, mark_of, name_of, reason_if}
use Rattle.ac_model.specs.Calls.{Call, Done, Changing, ChangingBoth, IsAfter, Marks, Same, Both, both}
use Rattle.ac_model.specs.Cursors.{place_in, name_in, cursor_at, spot}
use Rattle.ac_model.specs.Outline.{depth_of, subtree_length}
use Rattle.ac_model.specs.Putting.{Takes, done}
use Rattle.ac_model.specs.Sequences.{with_new, first_new}
use Rattle.ac_model.specs.Trees.{tree_mark, needs_node, may_node, needs_element, is_root, child_depth, child_place, copied_rows, subtree_at_depth, run_at_depth, with_moved, room_for_rows}
use Rattle.ac_model.proofs.Changes.{no_capacity}
use Rattle.ac_model.proofs.Plains.{length-plains}
use Rattle.ac_model.proofs.Reasons.{room_none, none_first, none_others}
use Rattle.ac_tree.specs.declared.copying.Leveled.{Leveled}
use Rattle.ac_tree.specs.declared.links.Links.{Links}
use Rattle.ac_tree.specs.Children.{IsPlace, place_among, nodes_call}
use Rattle.ac_tree.specs.Copying.{in_node, nodes_in, subtree_nodes, run_nodes, HoleAt, Planted}
use Rattle.ac_tree.specs.Forests.{outline}
use Rattle.ac_tree.specs.Inserting.{place_at}
use Rattle.ac_tree.specs.TreeFields.{forest_in, IsForest}
use Rattle.ac_tree.specs.TreeCursors.{node_in, serial_in}
use Rattle.ac_tree.specs.TreeRows.{rows_of, tree_object, IsTree}
use Rattle.ac_tree.proofs.Children.{held_in, spot_is, element_mark}
use Rattle.ac_tree.proofs.Holes.{Held}
use Rattle.ac_tree.proofs.Judging.{both_none, at_node, at_element, needed, may_at}
use Rattle.ac_tree.proofs.Levels.{nodes_reverse}
use Rattle.ac_tree.proofs.Objects.{sound_of}
use Rattle.ac_tree.proofs.Putting.{place_live}
use Rattle.ac_tree.proofs.Looking.{node_live, live_needed}
use Rattle.ac_tree.proofs.Subtrees.{subtree_long, below_long}
use Rattle.ac_tree.proofs.SplicedRows.{places_are}
use Rattle.ac_tree.proofs.NewPlaces.{row_place}

-- none of six reasons, nor of those behind them
pub record NoneOfSix (a b c d e f : Option Reason) (others : List (Option Reason)) : Type 0 where
  pub first : a ≡ None
  pub second : b ≡ None
  pub third : c ≡ None
  pub fourth : d ≡ None
  pub fifth : e ≡ None
  pub sixth : f ≡ None
  pub rest : first_reason others ≡ None

pub six_none : (a b c d e f : Option Reason) (others : List (Option Reason)) → first_reason (a ∷ b ∷ c ∷ d ∷ e ∷ f ∷ others) ≡ None → NoneOfSix a b c d e f others
six_none a b c d e f others h =
    let h1 = none_others a (b ∷ c ∷ d ∷ e ∷ f ∷ others) h in let h2 = none_others b (c ∷ d ∷ e ∷ f ∷ others) h1 in let h3 = none_others c (d ∷ e ∷ f ∷ others) h2 in
    let h4 = none_others d (e ∷ f ∷ others) h3 in let h5 = none_others e (f ∷ others) h4 in
    record {
      first = none_first a (b ∷ c ∷ d ∷ e ∷ f ∷ others) h;
      second = none_first b (c ∷ d ∷ e ∷ f ∷ others) h1;
      third = none_first c (d ∷ e ∷ f ∷ others) h2;
      fourth = none_first d (e ∷ f ∷ others) h3;
      fifth = none_first e (f ∷ others) h4;
      sixth = none_first f others h5;
      rest = none_others f others h5;
    }

-- two reasons that aren't there are none together
pub earlier_nones : (a b : Option Reason) → a ≡ None → b ≡ None → earlier a b ≡ None
earlier_nones a b p q = λ i. earlier (p i) (q i)

module _ {X : Type 0} (l : Links X) (s : IsForest l) (o : Object Name (Node X)) (rows_is : o.rows ≡ outline 2 (forest_in l)) where
  -- the depth of a node's children
  pub depth_is_child : (c : Cursor) (at : Option Name) (n : ℕ) → needs_node (plain o) (tree_mark o c) ≡ None → at ≡ node_in c → n ≡ depth_of (plains (outline 2 (forest_in l))) (serial_in at) → n + 1 ≡ child_depth (plain o).rows (tree_mark o c)
  depth_is_child c at n h is found =
      ap (λ d. d + 1) (found ∙ ap (λ a. depth_of (plains (outline 2 (forest_in l))) (serial_in a)) is ∙ sym (ap (λ k. depth_of (plains k) (serial_in (node_in c))) rows_is)
      ∙ sym (ap (λ m. depth_of (plain o).rows (name_of m)) (at_node l s o rows_is c h).mark))

  pub child_depth_is : (c : Cursor) (at : Option Name) (first : ℕ) → needs_node (plain o) (tree_mark o c) ≡ None → at ≡ node_in c → first ≡ child_depth (plain o).rows (tree_mark o c) → first ≡ depth_of (plain o).rows (serial_in at) + 1
  child_depth_is c at first h is found =
      found ∙ ap (λ m. depth_of (plain o).rows (name_of m) + 1) (at_node l s o rows_is c h).mark ∙ ap (λ a. depth_of (plain o).rows (serial_in a) + 1) (sym is)

  -- a cursor from which may be copied: No_Element, or at an element
  root_absurd : (m : Mark) (number : ℕ) → m ≡ mark_at number 0 → reason_if (is_root m) RootSource ≡ None → ⊥
  root_absurd m number is h = let k : Some RootSource ≡ None = ap (λ z. reason_if (is_root z) RootSource) (sym is) ∙ h in none-some RootSource (sym k)

  pub source_none : (c : Cursor) → earlier (may_node (plain o) (tree_mark o c)) (reason_if (is_root (tree_mark o c)) RootSource) ≡ None → None ≡ node_in c → c ≡ NoElement
  source_none NoElement h is = refl
  source_none (At object a) h is =
      let both = both_none (may_node (plain o) (tree_mark o (At object a))) (reason_if (is_root (tree_mark o (At object a))) RootSource) h in
      let at = at_node l s o rows_is (At object a) (sym (may_at o object a) ∙ both.0) in
      absurd (root_absurd (tree_mark o (At object a)) o.number (at.mark ∙ ap (λ n. mark_at o.number (serial_in n)) (sym is)) both.1)

  pub record SourceAt (c : Cursor) (name : Name) : Type 0 where
    pub live : IsLive l.nodes name
    pub mark : tree_mark o c ≡ mark_at o.number name.serial

  pub source_some : (c : Cursor) (name : Name) → may_node (plain o) (tree_mark o c) ≡ None → Some name ≡ node_in c → SourceAt c name
  source_some c name may is =
      let at = at_node l s o rows_is c (needed l s o rows_is c name (sym is) may) in
      record { live = at.live name (sym is); mark = at.mark ∙ ap (λ n. mark_at o.number (serial_in n)) (sym is) }

  pub copied_none : (c : Cursor) (depth : ℕ) → c ≡ NoElement → copied_rows depth (plain o).rows (tree_mark o c) ≡ []
  copied_none c depth is = ap (λ z. copied_rows depth (plain o).rows (tree_mark o z)) is

  pub copied_some : (c : Cursor) (name : Name) (depth : ℕ) → SourceAt c name → values (copied_rows depth (plain o).rows (tree_mark o c)) ≡ subtree_nodes l name depth
  copied_some c name depth at = ap (λ m. values (copied_rows depth (plain o).rows m)) at.mark ∙ ap (λ k. values (subtree_at_depth depth (plains k) (mark_at 0 name.serial))) rows_is

  pub copied_long : (c : Cursor) (name : Name) (depth n : ℕ) → SourceAt c name → n ≡ subtree_length (plains (outline 2 (forest_in l))) name.serial → n ≡ length (copied_rows depth (plain o).rows (tree_mark o c))
  copied_long c name depth n at count =
      count ∙ sym (subtree_long l s name at.live depth) ∙ sym (ap length (copied_some c name depth at)) ∙ length-map (copied_rows depth (plain o).rows (tree_mark o c)) (λ (r : Row ℕ (Node X)). r.value)

  -- the copies, the first one first
  pub copied_there : (c : Cursor) (name : Name) (depth : ℕ) (items : List (Leveled X)) → SourceAt c name → nodes_in items ≡ reverse (subtree_nodes l name depth) → nodes_in (reverse items) ≡ values (copied_rows depth (plain o).rows (tree_mark o c))
  copied_there c name depth items at copies = nodes_reverse items ∙ ap reverse copies ∙ reverse-reverse (subtree_nodes l name depth) ∙ sym (copied_some c name depth at)

  place_among_is : (parent before : Option Name) → place_among o parent before ≡ row_place (plain o).rows parent before
  place_among_is parent None = refl
  place_among_is parent (Some b) = refl

  -- nodes that were put, as a call that means these rows
  pub moved_after : (parent before : Cursor) (p b : Option Name) (vs : List (Node X)) (rows : List (Row ℕ (Node X))) → needs_node (plain o) (tree_mark o parent) ≡ None → may_node (plain o) (tree_mark o before) ≡ None → p ≡ node_in parent → b ≡ place_in before → vs ≡ values rows
      → (nodes_call o p b vs).after ≡ with_moved (plain o) (tree_mark o parent) (tree_mark o before) rows
  moved_after parent before p b vs rows hp may pe be is =
      let place : place_among o p b ≡ child_place (plain o).rows (tree_mark o parent) (tree_mark o before) =
      (λ i. place_among o (pe i) (be i)) ∙ place_among_is (node_in parent) (place_in before) ∙ sym (places_are l s o rows_is parent before hp may (plain o).rows) in
      λ i. with_new (plain o) (place i) (is i) ((ap length is ∙ length-map rows (λ (r : Row ℕ (Node X)). r.value)) i)

module _ {X : Type 0} where
  -- room for rows is room for so many nodes
  pub rows_fit : (o : Object Name (Node X)) (rows : List (Row ℕ (Node X))) (items : List (Leveled X)) → nodes_in (reverse items) ≡ values rows → first_reason (room_for_rows (plain o) rows) ≡ None → Takes o (length items)
  rows_fit o rows items is none =
      let has = room_none (plain o) (length_of (plain o) + length rows) (length rows) none in
      let long : length rows ≡ length items = sym (length-map rows (λ (r : Row ℕ (Node X)). r.value)) ∙ sym (ap length is) ∙ length-map (reverse items) in_node ∙ length-reverse items in
      let all : length_of (plain o) + length rows ≡ length_of o + length items = λ i. length-plains o.rows i + long i in
      let few = has.within_greatest in let names = has.within_names in
      record { few = omega (arith, few, all); within = ap (is_past o.limit) (sym all) ∙ has.within_limit; unspent = omega (arith, names, long) }

  -- a call that puts nodes and answers their first cursor, as one that answers nothing
  pub done_nodes : (o new : Object Name (Node X)) (k : Call (Object ℕ (Node X)) Mark) (c : Call (Object ℕ (Node X)) Done) (r : Result Cursor Fault) → k.reason ≡ None → c.reason ≡ None → k.after ≡ c.after → IsTrue c.memory → Changing (Marks new) k o new r → Changing Same c o new (done r)
  done_nodes o new k c (Ok first) none allowed after memory h = (allowed, subst (λ z. IsAfter o new z) after h.1, refl)
  done_nodes o new k c (Err (fault.Raised reason)) none allowed after memory h = absurd (none-some reason (sym none ∙ h.0))
  done_nodes o new k c (Err fault.NoMemory) none allowed after memory h = (memory, allowed, h.2)

module _ {X : Type 0} (g : GuardCounts) (limit : Limit) (l m : Links X) (is : IsTree limit l) (parent before : Option Name) (p : IsPlace (tree_object g limit l) parent before) (vs : List (Node X)) where
  abbrev pub h : Held l (tree_object g limit l) parent before
  h = held_in g limit l is parent before p

  abbrev pub hole_of : (first : ℕ) → first ≡ depth_of (plain (tree_object g limit l)).rows (serial_in parent) + 1 → HoleAt l parent before first
  hole_of first depth = record { hole = h.hole; deep = h.depth ∙ sym depth }

  pub planted_tree : (n : ℕ) → length vs ≡ n → Takes (tree_object g limit l) n → (r : Result (Option Name) NoMemory) → IfOk r (λ made. Planted l parent before h.hole vs m made) → IfErr r (λ _. m ≡ l) → IsForest m → IsTree limit m
  planted_tree n count takes (Err e) ok err forest = subst (λ (z : Links X). IsTree limit z) (sym err) is
  planted_tree n count takes (Ok made) ok err forest = record {
    forest = forest;
    sequence = sequence_grown {A = Option Name} limit (rows_of l) (rows_of m) n (Ok made) is.sequence (takes_few g limit None (rows_of l) (tree_object g limit l) refl n takes) (takes_within g limit None (rows_of l) (tree_object g limit l) refl n takes)
        (put_length (rows_of l).rows (rows_of l).next_serial (place_at h.hole) vs (rows_of m) ok.put ∙ ap (λ k. length (rows_of l).rows + k) count) tt (subst (λ k. k ≤ (rows_of l).spare → slots_in (rows_of m) ≡ slots_in (rows_of l)) count ok.grown.kept) (sound_of m (forest_in m) forest);
  }

  pub planted_done : (made : Option Name) (c : Cursor) → Planted l parent before h.hole vs m made → c ≡ cursor_at g.number made
      → Changing (Marks (tree_object g limit m)) (nodes_call (tree_object g limit l) parent before vs) (tree_object g limit l) (tree_object g limit m) (Ok c)
  planted_done made c k at =
      let o = tree_object g limit l in let lives = place_live l parent before h.hole in
      let there : spot o (place_at h.hole) ≡ place_among o parent before = spot_is g limit l is.sequence.sound (place_at h.hole) lives ∙ h.place in (
        refl,
        subst (λ i. IsAfter o (tree_object g limit m) (with_new (plain o) i vs (length vs))) there
            (put_after g limit None None (rows_of l) (rows_of m) (length vs) (place_at h.hole) vs (no_capacity limit (length (rows_of m).rows)) refl is.sequence.sound lives k.put),
        ap (mark_of g.number (names (rows_of m).rows)) at ∙ first_marked g limit None (rows_of l) (rows_of m) (length vs) made k.first,
      )

module _ {X : Type 0} (l : Links X) (s : IsForest l) (o : Object Name (Node X)) (rows_is : o.rows ≡ outline 2 (forest_in l)) where
  -- a subtree at a cursor, as nodes of the links
  element_nodes : (c : Cursor) (a : Name) (depth : ℕ) → needs_element (plain o) (tree_mark o c) ≡ None → a ≡ name_in c → values (subtree_at_depth depth (plain o).rows (tree_mark o c)) ≡ subtree_nodes l a depth
  element_nodes c a depth h is =
      let e = at_element l s o rows_is c h in
      ap (λ m. values (subtree_at_depth depth (plain o).rows m)) e.mark ∙ ap (λ k. values (subtree_at_depth depth (plains k) (mark_at 0 e.name.serial))) rows_is ∙ ap (λ n. subtree_nodes l n depth) (sym (is ∙ e.is))

  pub element_there : (c : Cursor) (a : Name) (depth : ℕ) (items : List (Leveled X)) → needs_element (plain o) (tree_mark o c) ≡ None → a ≡ name_in c → nodes_in items ≡ reverse (subtree_nodes l a depth)
      → nodes_in (reverse items) ≡ values (subtree_at_depth depth (plain o).rows (tree_mark o c))
  element_there c a depth items h is copies = nodes_reverse items ∙ ap reverse copies ∙ reverse-reverse (subtree_nodes l a depth) ∙ sym (element_nodes c a depth h is)

  pub element_long : (c : Cursor) (a : Name) (depth n : ℕ) → needs_element (plain o) (tree_mark o c) ≡ None → a ≡ name_in c → n ≡ subtree_length (plains (outline 2 (forest_in l))) a.serial → n ≡ length (subtree_at_depth depth (plain o).rows (tree_mark o c))
  element_long c a depth n h is count =
      let live = live_needed l s o rows_is c a is h in
      count ∙ sym (subtree_long l s a live depth) ∙ sym (ap length (element_nodes c a depth h is)) ∙ length-map (subtree_at_depth depth (plain o).rows (tree_mark o c)) (λ (r : Row ℕ (Node X)). r.value)

  -- what is below the node at a cursor
  run_nodes_are : (c : Cursor) (at : Option Name) (depth : ℕ) → needs_node (plain o) (tree_mark o c) ≡ None → at ≡ node_in c → values (run_at_depth depth (plain o).rows (tree_mark o c)) ≡ run_nodes l at depth
  run_nodes_are c at depth h is =
      let e = at_node l s o rows_is c h in
      ap (λ m. values (run_at_depth depth (plain o).rows m)) e.mark ∙ ap (λ k. values (run_at_depth depth (plains k) (mark_at 0 (serial_in (node_in c))))) rows_is ∙ ap (λ n. run_nodes l n depth) (sym is)

  pub run_there : (c : Cursor) (at : Option Name) (depth : ℕ) (items : List (Leveled X)) → needs_node (plain o) (tree_mark o c) ≡ None → at ≡ node_in c → nodes_in items ≡ reverse (run_nodes l at depth)
      → nodes_in (reverse items) ≡ values (run_at_depth depth (plain o).rows (tree_mark o c))
  run_there c at depth items h is copies = nodes_reverse items ∙ ap reverse copies ∙ reverse-reverse (run_nodes l at depth) ∙ sym (run_nodes_are c at depth h is)

  pub run_long : (c : Cursor) (at : Option Name) (depth n m : ℕ) → needs_node (plain o) (tree_mark o c) ≡ None → at ≡ node_in c → n ≡ subtree_length (plains (outline 2 (forest_in l))) (serial_in at) → m ≡ n - 1
      → m ≡ length (run_at_depth depth (plain o).rows (tree_mark o c))
  run_long c at depth n m h is count less =
      let live = node_live l s o rows_is c at h is in
      let long = below_long l s at live depth in let all = ap length (run_nodes_are c at depth h is) in let map = length-map (run_at_depth depth (plain o).rows (tree_mark o c)) (λ (r : Row ℕ (Node X)). r.value) in
      omega (arith, count, less, long, all, map)

module _ {X : Type 0} where
  -- nodes that were put, and rows that went from another tree
  pub both_changed : {A B : Type 0} (Answers : B → A → Type 0) (o new p left : Object Name (Node X)) (c : Call (Both (Object ℕ (Node X))) A) (k : Call (Object ℕ (Node X)) Mark) (x : B) → c.reason ≡ None → k.after ≡ c.after.target → IsAfter o new k.after → IsAfter p left c.after.source → Answers x c.answer
      → ChangingBoth Answers c (both o p) (both new left) (Ok x)
  both_changed Answers o new p left c k x none after put gone answer = (none, record { target = subst (λ z. IsAfter o new z) after put; source = gone }, answer)

  -- the cursor of the first of them
  pub first_marks : (o new : Object Name (Node X)) (c : Cursor) (vs : List (Node X)) → 0 < length vs → Marks new c (first_new (plain o) no_mark (length vs)) → tree_mark new c ≡ mark_at o.number o.next
  first_marks o new c [] some h = absurd (omega (arith, some))
  first_marks o new c (v ∷ vs) some h = element_mark new.number (names new.rows) c o.number o.next h

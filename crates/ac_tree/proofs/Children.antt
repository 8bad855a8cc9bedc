-- What a tree is after new children were put into it.
use Rattle.std.proofs.Common.{◌≡◌, ℕ, ℤ, zero, suc, ◌+◌, Bool, true, false, true≢false, not, ◌&&◌, ◌||◌, List, ◌∷◌, length, replicate, Option, Some, None, Result, Ok, Err, refl, sym, ap, ◌∙◌, subst}
use Rattle.std.specs.Prelude.{◌==◌, IfOk, IfErr, if◌then◌else◌}
use Rattle.std.proofs.lemmas.Option.{none-some}
use Rattle.ac_base.specs.declared.limit.Limit.{Limit}
use Rattle.ac_base.specs.declared.name.Name.{Name}
use Rattle.ac_base.specs.declared.cursor.Cursor.{Cursor}
use Rattle.ac_base.specs.declared.cursor.Cursor.TheVariants.{NoElement, At}
use Rattle.ac_base.specs.declared.reason.Reason.TheVariants.{NotChild}
use Rattle.ac_base.specs.declared.fault.Fault.{Fault}
use Rattle.ac_base.specs.declared.fault.Fault.TheVariants as fault
use Rattle.ac_base.specs.Guards.{GuardCounts}
use Rattle.ac_base.specs.Rows.{names}
use Rattle.ac_chain.specs.Rows.{IsLive, IsSound, place_of}
use Rattle.ac_chain.proofs.Marks.{place_live}
use Rattle.ac_model.specs.Rows.{Node, node}
use Rattle.ac_model.specs.Objects.{Object, plain}
use Rattle.ac_model.specs.Letters.{no_mark, mark_at, stale_mark, mark_of, is_among, has_room, name_of, count_of, reason_if}
use Rattle.ac_model.specs.Calls.{Call, call, Done, Changing, IsAfter, Marks, Same}
use Rattle.ac_model.specs.Cursors.{spot, place_in, cursor_of_first}
use Rattle.ac_model.specs.Outline.{depth_of, run_start, run_of, children_of, is_in}
use Rattle.ac_model.specs.Putting.{done, put_call}
use Rattle.ac_model.specs.Sequences.{with_new, first_new}
use Rattle.ac_model.specs.Trees.{root_name, tree_mark, needs_node, may_node, child_or_none, child_place, with_children}
use Rattle.ac_model.proofs.Plains.{length-plains}
use Rattle.ac_tree.specs.declared.links.Links.{Links}
use Rattle.ac_tree.specs.Forests.{outline}
use Rattle.ac_tree.specs.TreeFields.{forest_in, IsForest}
use Rattle.ac_tree.specs.TreeRows.{rows_of, tree_object, IsTree}
use Rattle.ac_tree.specs.TreeCursors.{node_of, node_in, serial_in}
use Rattle.ac_tree.specs.Inserting.{place_at, depth_at}
use Rattle.ac_tree.specs.Children.{IsPlace, place_among, children_call}
use Rattle.ac_tree.proofs.Judging.{At_node, at_node, may_at, node_some, serial_of_node}
use Rattle.ac_tree.proofs.Holes.{Held, held, Front, no_child_here, named_node}
use Rattle.ac_tree.proofs.Putting as putting

pub if_left : {A E : Type 0} (P : Type 0) (Q : A → Type 0) (r : Result A E) → IfOk r (λ a. P × Q a) → IfOk r (λ _. P)
if_left P Q (Ok a) h = h.0
if_left P Q (Err e) h = tt

-- a cursor at an element is the same mark where the root counts
pub element_mark : (number : ℕ) (live : List Name) (c : Cursor) (object serial : ℕ) → mark_of number live c ≡ mark_at object serial → mark_of number (root_name ∷ live) c ≡ mark_at object serial
element_mark number live NoElement object serial h = absurd (let k : no_mark ≡ mark_at object serial = h in cc)
element_mark number live (At n a) object serial h = by_tests (n == number) (is_among live a) (is_root a) h
  where
    is_root : Name → Bool
    is_root a = (a.slot == 0) && (a.serial == 0)

    by_tests : (same there root : Bool) → (if same && not there then stale_mark n else mark_at n a.serial) ≡ mark_at object serial → (if same && not (root || there) then stale_mark n else mark_at n a.serial) ≡ mark_at object serial
    by_tests false there root h = h
    by_tests true true true h = h
    by_tests true true false h = h
    by_tests true false root h = absurd (let k : stale_mark n ≡ mark_at object serial = h in cc)

module _ {X : Type 0} where
  pub if_err_rows : {A E : Type 0} (r : Result A E) (l m : Links X) → IfErr r (λ _. m ≡ l) → IfErr r (λ _. rows_of m ≡ rows_of l)
  if_err_rows (Ok a) l m h = tt
  if_err_rows (Err e) l m h = ap rows_of h

  pub spot_is : (g : GuardCounts) (limit : Limit) (l : Links X) → IsSound (rows_of l) → (place : Option Name) → ((a : Name) → place ≡ Some a → IsLive (rows_of l) a) → spot (tree_object g limit l) place ≡ place_of place (rows_of l).rows
  spot_is g limit l s None h = length-plains (rows_of l).rows
  spot_is g limit l s (Some a) h = place_live (rows_of l) a s (h a refl)

  pub held_in : (g : GuardCounts) (limit : Limit) (l : Links X) → IsTree limit l → (parent before : Option Name) → IsPlace (tree_object g limit l) parent before → Held l (tree_object g limit l) parent before
  held_in g limit l t parent before p = held l t.forest (tree_object g limit l) refl parent before p

  pub children_is : (g : GuardCounts) (limit : Limit) (l : Links X) (t : IsTree limit l) (parent before : Option Name) (p : IsPlace (tree_object g limit l) parent before) (e : X) (n : ℕ)
      → put_call (tree_object g limit l) (place_at (held_in g limit l t parent before p).hole) (node (depth_at (held_in g limit l t parent before p).hole) e) n ≡ children_call (tree_object g limit l) parent before e n
  children_is g limit l t parent before p e n =
      let o = tree_object g limit l in
      let h = held_in g limit l t parent before p in
      let at : spot o (place_at h.hole) ≡ place_among o parent before = spot_is g limit l t.sequence.sound (place_at h.hole) (putting.place_live l parent before h.hole) ∙ h.place in
      λ j. call (not ((n == 1) && has_room (plain o))) None (with_new (plain o) (at j) (replicate n (node (h.depth j) e)) n) (first_new (plain o) no_mark n)

module _ {X : Type 0} (l : Links X) (s : IsForest l) (o : Object Name (Node X)) (rows_is : o.rows ≡ outline 2 (forest_in l)) where
  none_child : (b : Bool) → reason_if (not b) NotChild ≡ None → b ≡ true
  none_child true h = refl
  none_child false h = absurd (let k : Some NotChild ≡ None = h in cc)

  pub place_here : (parent before : Cursor) → needs_node (plain o) (tree_mark o parent) ≡ None → may_node (plain o) (tree_mark o before) ≡ None → child_or_none (plain o) (tree_mark o parent) (tree_mark o before) ≡ None
      → IsPlace o (node_in parent) (place_in before)
  place_here parent NoElement hp may child = record { parent_named = named_node l s o rows_is parent hp; before_named = λ a e. absurd (none-some a e); child = λ a e. absurd (none-some a e) }
  place_here parent (At object a) hp may child =
      let needs = sym (may_at o object a) ∙ may in
      let at = at_node l s o rows_is (At object a) needs in
      let kids : is_in (serial_in (node_of a)) (children_of (plain o).rows (name_of (tree_mark o parent))) ≡ true =
      none_child (is_in (serial_in (node_of a)) (children_of (plain o).rows (name_of (tree_mark o parent)))) (sym (ap (λ m. child_or_none (plain o) (tree_mark o parent) m) at.mark) ∙ child) in
      by_node (node_of a) refl at needs kids
    where
      by_node : (n : Option Name) → node_of a ≡ n → At_node l s o rows_is (At object a) → needs_node (plain o) (tree_mark o (At object a)) ≡ None
          → is_in (serial_in (node_of a)) (children_of (plain o).rows (name_of (tree_mark o parent))) ≡ true → IsPlace o (node_in parent) (Some a)
      by_node None is at needs kids = absurd (true≢false (sym kids ∙ ap (λ m. is_in (name_of m) (children_of (plain o).rows (name_of (tree_mark o parent)))) (sym at.mark) ∙ sym (no_child_here l s o rows_is parent (At object a) hp may (sym is))))
      by_node (Some b) is at needs kids =
          let same : a ≡ b = (node_some a b is).1 in record {
            parent_named = named_node l s o rows_is parent hp;
            before_named = λ c e. named_node l s o rows_is (At object a) needs c (is ∙ ap Some (sym same) ∙ e);
            child = λ c e.
                let it : a ≡ c = cc in
                subst (λ (k : Name). is_in k.serial (children_of (plain o).rows (serial_in (node_in parent))) ≡ true) it
                (subst (λ k. is_in k (children_of (plain o).rows (serial_in (node_in parent))) ≡ true) (serial_of_node a)
                (subst (λ m. is_in (serial_in (node_of a)) (children_of (plain o).rows (name_of m)) ≡ true) (at_node l s o rows_is parent hp).mark kids));
          }

  pub after_is : (parent before : Cursor) (e : X) (n : ℤ) (m : ℕ) → needs_node (plain o) (tree_mark o parent) ≡ None → may_node (plain o) (tree_mark o before) ≡ None → m ≡ count_of n
      → (children_call o (node_in parent) (place_in before) e m).after ≡ with_children (plain o) (tree_mark o parent) (child_place (plain o).rows (tree_mark o parent) (tree_mark o before)) e n
  after_is parent before e n m hp may count =
      let mark = (at_node l s o rows_is parent hp).mark in
      λ j. with_new (plain o) (place_same before may j) (replicate (count j) (node (depth_of (plain o).rows (name_of (sym mark j)) + 1) e)) (count j)
    where
      place_same : (before : Cursor) → may_node (plain o) (tree_mark o before) ≡ None → place_among o (node_in parent) (place_in before) ≡ child_place (plain o).rows (tree_mark o parent) (tree_mark o before)
      place_same NoElement may = ap (λ k. run_start (plain o).rows (name_of k) + length (run_of (plain o).rows (name_of k))) (sym (at_node l s o rows_is parent hp).mark)
      place_same (At object a) may =
          let at = (at_node l s o rows_is (At object a) (sym (may_at o object a) ∙ may)).mark in
          sym (ap (child_place (plain o).rows (tree_mark o parent)) at ∙ ap (λ k. child_place (plain o).rows (tree_mark o parent) (mark_at o.number k)) (serial_of_node a))

  pub front_after : (parent : Cursor) (first : Option Name) (e : X) (n : ℤ) (m : ℕ) → needs_node (plain o) (tree_mark o parent) ≡ None → Front l s o rows_is (node_in parent) first → m ≡ count_of n
      → (children_call o (node_in parent) first e m).after ≡ with_children (plain o) (tree_mark o parent) (run_start (plain o).rows (name_of (tree_mark o parent))) e n
  front_after parent first e n m hp f count =
      let mark = (at_node l s o rows_is parent hp).mark in
      let at : place_among o (node_in parent) first ≡ run_start (plain o).rows (name_of (tree_mark o parent)) = f.at ∙ sym (ap (λ k. run_start (plain o).rows (name_of k)) mark) in
      λ j. with_new (plain o) (at j) (replicate (count j) (node (depth_of (plain o).rows (name_of (sym mark j)) + 1) e)) (count j)

-- the first new node's cursor is what the variable is set to
pub first_set : {V : Type 0} (o new : Object Name V) (before first : Cursor) (m : ℕ) → (m ≡ 0 → new ≡ o) → mark_of new.number (names new.rows) first ≡ first_new (plain o) no_mark m
    → tree_mark new (cursor_of_first m first before) ≡ first_new (plain o) (tree_mark o before) m
first_set o new before first zero same h = ap (λ (p : Object Name _). tree_mark p before) (same refl)
first_set o new before first (suc m) same h = element_mark new.number (names new.rows) first o.number o.next h

-- copies that were put, as a call that answers nothing
pub done_changed : {T : Type 0} (o new : Object Name (Node T)) (parent before : Option Name) (e : T) (m : ℕ) (c : Call (Object ℕ (Node T)) Done) (r : Result Cursor Fault) → c.reason ≡ None
    → (children_call o parent before e m).after ≡ c.after → (children_call o parent before e m).memory ≡ c.memory → Changing (Marks new) (children_call o parent before e m) o new r → Changing Same c o new (done r)
done_changed o new parent before e m c (Ok first) allowed after memory h = (allowed, subst (λ z. IsAfter o new z) after h.1, refl)
done_changed o new parent before e m c (Err (fault.Raised reason)) allowed after memory h = absurd (none-some reason h.0)
done_changed o new parent before e m c (Err fault.NoMemory) allowed after memory h = (sym memory ∙ h.0, allowed, h.2)

-- What a tree is after all that is below a node went, or the node with it.
use Rattle.std.proofs.Common.{◌≡◌, ℕ, suc, ◌+◌, ◌<◌, List, [], ◌∷◌, length, Option, None, IsTrue, refl, sym, ap, ◌∙◌, subst, arith, append-nil}
use Rattle.ac_base.specs.declared.limit.Limit.{Limit}
use Rattle.ac_base.specs.declared.name.Name.{Name}
use Rattle.ac_base.specs.declared.cursor.Cursor.{Cursor}
use Rattle.ac_base.specs.Guards.{GuardCounts}
use Rattle.ac_base.specs.Rows.{Row, row, names}
use Rattle.ac_pool.specs.NamedRows.{HasName}
use Rattle.ac_chain.proofs.Grows.{all_from}
use Rattle.ac_model.specs.Rows.{Node, node}
use Rattle.ac_model.specs.Objects.{plain, plains, with_rows}
use Rattle.ac_model.specs.Letters.{name_of, is_among}
use Rattle.ac_model.specs.Cursors.{name_in}
use Rattle.ac_model.specs.Calls.{IsAfter}
use Rattle.ac_model.specs.Outline.{run_of, run_start, subtree_start, subtree_length}
use Rattle.ac_model.specs.Trees.{tree_mark, needs_node, needs_element, without_run, without_subtree}
use Rattle.ac_tree.specs.declared.links.Links.{Links}
use Rattle.ac_tree.specs.Forests.{bare, grove, outline, size, plugged, depth_in, before_in}
use Rattle.ac_tree.specs.TreeFields.{forest_in}
use Rattle.ac_tree.specs.TreeRows.{tree_object, IsTree}
use Rattle.ac_tree.specs.TreeCursors.{node_in, serial_in}
use Rattle.ac_tree.specs.Removing.{Clears, Uproots}
use Rattle.ac_tree.proofs.Places.{size_is}
use Rattle.ac_tree.proofs.Forests.{forest-is}
use Rattle.ac_tree.proofs.Outlines.{position_run, node_position, node_start}
use Rattle.ac_tree.proofs.Holes.{under_of, start_under, run_under, length_seen}
use Rattle.ac_tree.proofs.Judging.{at_node, at_element}
use Rattle.ac_tree.proofs.Leaves.{thinned_tree, thinned_slots, thinned_after}
use Rattle.ac_tree.proofs.Looking.{at_place, node_live}

module _ {X : Type 0} where
  -- these rows are left
  pub record Gone (g : GuardCounts) (limit : Limit) (l m : Links X) (rows : List (Row ℕ (Node X))) : Type 0 where
    pub tree : IsTree limit m
    pub after : IsAfter (tree_object g limit l) (tree_object g limit m) (with_rows (plain (tree_object g limit l)) rows)
    pub slots : length (outline 2 (forest_in m)) + m.nodes.spare ≡ length (outline 2 (forest_in l)) + l.nodes.spare

  pub below_gone : (g : GuardCounts) (limit : Limit) (l m : Links X) → IsTree limit l → (c : Cursor) (at : Option Name) → let o = tree_object g limit l in needs_node (plain o) (tree_mark o c) ≡ None → at ≡ node_in c → Clears l at m
      → Gone g limit l m (without_run (plain (tree_object g limit l)).rows (tree_mark (tree_object g limit l) c))
  below_gone g limit l m is c at h e cleared =
      let o = tree_object g limit l in let s = is.forest in
      let u = under_of l s at (node_live l s o refl c at h e) in
      let r = cleared u.steps u.below u.stands u.parent_is u.none_before in
      let all = size u.below in let d = depth_in u.steps in
      let serial : name_of (tree_mark o c) ≡ serial_in at = ap name_of (at_node l s o refl c h).mark ∙ ap serial_in (sym e) in
      record {
        tree = thinned_tree limit l m u.steps u.below bare all is u.stands (omega arith) r;
        after = thinned_after g limit l m u.steps u.below bare all (outline d u.below) (run_start (plain o).rows (name_of (tree_mark o c))) (length (run_of (plain o).rows (name_of (tree_mark o c)))) u.stands r (sym (append-nil (outline d u.below)))
            (ap (run_start (plain o).rows) serial ∙ start_under l s o refl at u) (ap (λ n. length (run_of (plain o).rows n)) serial ∙ run_under l s o refl at u ∙ sym (size_is d u.below));
        slots = thinned_slots l m u.steps u.below bare all u.stands (omega arith) r;
      }

  pub subtree_gone : (g : GuardCounts) (limit : Limit) (l m : Links X) → IsTree limit l → (c : Cursor) (a : Name) → let o = tree_object g limit l in needs_element (plain o) (tree_mark o c) ≡ None → a ≡ name_in c → Uproots l a m
      → Gone g limit l m (without_subtree (plain (tree_object g limit l)).rows (tree_mark (tree_object g limit l) c))
  subtree_gone g limit l m is c a h named uproots =
      let o = tree_object g limit l in let s = is.forest in
      let e = at_element l s o refl c h in
      let k = at_place l s e.name e.live in
      let d = depth_in k.steps in let t = grove k.at k.below k.rest in let rows = outline 2 (plugged k.steps t) in
      let r = uproots k.steps k.at k.below k.rest k.stands (k.named ∙ sym (named ∙ e.is)) in
      let many = size k.below + 1 in
      let mid = row k.at.name (node d k.at.value) ∷ outline (d + 1) k.below in
      let start : run_start (plain o).rows (name_of (tree_mark o c)) ≡ suc (length (before_in k.steps)) =
      ap (λ n. run_start (plain o).rows (name_of n)) e.mark ∙ ap (λ z. run_start (plains (outline 2 z)) e.name.serial) (sym k.is)
      ∙ ap (λ (n : Name). run_start (plains rows) n.serial) (sym k.named) ∙ node_start k.steps k.at k.below k.rest k.alone in
      let run : length (run_of (plain o).rows (name_of (tree_mark o c))) ≡ length (outline (d + 1) k.below) =
      ap (λ n. length (run_of (plain o).rows (name_of n))) e.mark ∙ ap (λ z. length (run_of (plains (outline 2 z)) e.name.serial)) (sym k.is)
      ∙ ap (λ (n : Name). length (run_of (plains rows) n.serial)) (sym k.named) ∙ ap length (position_run rows k.at.name.serial d k.below (node_position k.steps k.at k.below k.rest k.alone))
      ∙ length_seen (outline (d + 1) k.below) in
      record {
        tree = thinned_tree limit l m k.steps t k.rest many is k.stands (omega arith) r;
        after = thinned_after g limit l m k.steps t k.rest many mid (subtree_start (plain o).rows (name_of (tree_mark o c))) (subtree_length (plain o).rows (name_of (tree_mark o c))) k.stands r refl
            (omega (arith, start)) (omega (arith, run));
        slots = thinned_slots l m k.steps t k.rest many k.stands (omega arith) r;
      }

  pub all_gone : (g : GuardCounts) (limit : Limit) (l m : Links X) → IsTree limit l → Clears l None m → Gone g limit l m []
  all_gone g limit l m is cleared =
      let s = is.forest in let t = forest_in l in
      let r = cleared [] t s refl refl in
      let none : outline 2 (forest_in m) ≡ [] = ap (outline 2) (forest-is m bare r.stands) in
      record {
        tree = thinned_tree limit l m [] t bare (size t) is s (omega arith) r;
        after = record {
          plainly = λ i. record { number = g.number; limit = limit; capacity = None; next = r.next i; rows = plains (none i); cursor_guards = g.cursor_guards; element_guards = g.element_guards };
          slots = all_from (λ name. name.serial < l.nodes.next_serial → IsTrue (is_among (names (outline 2 (forest_in l))) name)) (outline 2 (forest_in m)) (λ a h lt. absurd (subst (λ z. HasName a z) none h));
        };
        slots = thinned_slots l m [] t bare (size t) s (omega arith) r;
      }

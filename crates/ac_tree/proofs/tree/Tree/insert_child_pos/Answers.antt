use Rattle.std.proofs.Common.{◌≡◌, ◌∷◌, None, sym, ap, ◌∙◌, subst, to_z-of_z, w64}
use Rattle.ac_base.specs.FirstReason.{first_reason, earlier}
use Rattle.ac_base.proofs.FirstReason.{none_found}
use Rattle.ac_model.specs.Calls.{IsAfter}
use Rattle.ac_model.specs.Containers.{Container}
use Rattle.ac_model.specs.Letters.{count_of, tampers_cursors}
use Rattle.ac_model.specs.Objects.{plain}
use Rattle.ac_model.specs.Putting.{Takes}
use Rattle.ac_model.specs.Sequences.{room_for_copies, first_new}
use Rattle.ac_model.specs.Trees.{tree_mark, needs_node, may_node, child_or_none}
use Rattle.ac_model.proofs.Changes.{takes_from}
use Rattle.ac_model.proofs.Reasons.{passed}
use Rattle.ac_tree.specs.Children.{IsPlace, children_call}
use Rattle.ac_tree.specs.TreeCursors.{node_in}
use Rattle.ac_tree.proofs.Children.{place_here, after_is, first_set}
use Rattle.ac_tree.proofs.tree.Tree.insert_child_pos.Goals as goal

pub put-requires-clause-place : goal.put-requires-clause-place
put-requires-clause-place g c =
    let i = c.self.inside in let o = c.args.self.now.object in let rows = ap (λ (x : Container _). x.object.rows) (sym c.self.view_is) in
    let p = tree_mark o c.args.parent in let b = tree_mark o c.args.before in
    let same = to_z-of_z {w = w64} {z = c.args.n} c.ranges.n in
    let no_reason = passed _ _ c.in_ok-allowed.ensures c.refuses_children.ensures ∙ ap (λ m. first_reason (tampers_cursors (plain o) ∷ needs_node (plain o) p ∷ may_node (plain o) b ∷ child_or_none (plain o) p b ∷ room_for_copies (plain o) m)) same in
    let none = none_found (tampers_cursors (plain o) ∷ needs_node (plain o) p ∷ may_node (plain o) b ∷ child_or_none (plain o) p b ∷ room_for_copies (plain o) c.args.n) (sym no_reason) in
    subst (λ z. IsPlace o z c.place_in.result) (sym c.node_in.ensures) (subst (λ z. IsPlace o (node_in c.args.parent) z) (sym c.place_in.ensures) (place_here i.links c.self.invariant.forest o rows c.args.parent c.args.before none.1.0 none.1.1.0 none.1.1.1.0))

pub put-requires-clause-room : goal.put-requires-clause-room
put-requires-clause-room g c =
    let i = c.self.inside in let o = c.args.self.now.object in let rows = ap (λ (x : Container _). x.object.rows) (sym c.self.view_is) in
    let p = tree_mark o c.args.parent in let b = tree_mark o c.args.before in
    let same = to_z-of_z {w = w64} {z = c.args.n} c.ranges.n in
    let no_reason = passed _ _ c.in_ok-allowed.ensures c.refuses_children.ensures ∙ ap (λ m. first_reason (tampers_cursors (plain o) ∷ needs_node (plain o) p ∷ may_node (plain o) b ∷ child_or_none (plain o) p b ∷ room_for_copies (plain o) m)) same in
    let none = none_found (tampers_cursors (plain o) ∷ needs_node (plain o) p ∷ may_node (plain o) b ∷ child_or_none (plain o) p b ∷ room_for_copies (plain o) c.args.n) (sym no_reason) in
    let late = first_reason (child_or_none (plain o) p b ∷ room_for_copies (plain o) c.args.n) in
    let rest : late ≡ None = sym (λ j. earlier (none.0 j) (earlier (none.1.0 j) (earlier (none.1.1.0 j) late))) ∙ sym no_reason in
    subst (λ m. Takes o m) (sym (c.count_of-count.ensures ∙ ap count_of same)) (takes_from o (child_or_none (plain o) p b) c.args.n (sym (ap (λ a. earlier a late) none.0 ∙ rest)))

pub returns-clause-changed : goal.returns-clause-changed
returns-clause-changed g c =
    let i = c.self.inside in let o = c.args.self.now.object in let rows = ap (λ (x : Container _). x.object.rows) (sym c.self.view_is) in
    let p = tree_mark o c.args.parent in let b = tree_mark o c.args.before in
    let same = to_z-of_z {w = w64} {z = c.args.n} c.ranges.n in
    let no_reason = passed _ _ c.in_ok-allowed.ensures c.refuses_children.ensures ∙ ap (λ m. first_reason (tampers_cursors (plain o) ∷ needs_node (plain o) p ∷ may_node (plain o) b ∷ child_or_none (plain o) p b ∷ room_for_copies (plain o) m)) same in
    let none = none_found (tampers_cursors (plain o) ∷ needs_node (plain o) p ∷ may_node (plain o) b ∷ child_or_none (plain o) p b ∷ room_for_copies (plain o) c.args.n) (sym no_reason) in
    let now = c.put.new.self.object in let put = c.in_ok-first.ensures in
    let count = c.count_of-count.ensures ∙ ap count_of same in
    let after = (λ j. (children_call o (c.node_in.ensures j) (c.place_in.ensures j) c.args.e c.count_of-count.result).after) ∙ after_is i.links c.self.invariant.forest o rows c.args.parent c.args.before c.args.e c.args.n c.count_of-count.result none.1.0 none.1.1.0 count in (
      (
        sym no_reason,
        subst (λ z. IsAfter o now z) after put.changed.1,
        ap (tree_mark now) c.cursor_of_first.ensures ∙ first_set o now c.args.before c.in_ok-first.first c.count_of-count.result (λ z. ap (λ (x : Container _). x.object) (put.none z)) put.changed.2 ∙ ap (first_new (plain o) b) count,
      ),
      tt,
    )

use Rattle.std.specs.Prelude.{◌==◌}
use Rattle.std.proofs.Common.{◌&&◌, not, ◌∷◌, None, refl, sym, ap, ◌∙◌, subst, to_z-of_z, w64}
use Rattle.ac_base.specs.declared.cursor.Cursor.TheVariants.{NoElement}
use Rattle.ac_base.specs.FirstReason.{first_reason}
use Rattle.ac_base.proofs.FirstReason.{none_found}
use Rattle.ac_model.specs.Calls.{Changing, Same}
use Rattle.ac_model.specs.Containers.{Container}
use Rattle.ac_model.specs.Letters.{count_of, tampers_cursors, has_room}
use Rattle.ac_model.specs.Objects.{plain}
use Rattle.ac_model.specs.Putting.{Takes}
use Rattle.ac_model.specs.Sequences.{room_for_copies}
use Rattle.ac_model.specs.Trees as trees
use Rattle.ac_model.specs.Trees.{tree_mark, needs_node}
use Rattle.ac_model.proofs.Changes.{takes_from}
use Rattle.ac_model.proofs.Reasons.{passed}
use Rattle.ac_tree.specs.Children.{IsPlace, children_call}
use Rattle.ac_tree.proofs.Children.{place_here, after_is, done_changed}
use Rattle.ac_tree.proofs.tree.Tree.append_child.Goals as goal

pub put-requires-clause-place : goal.put-requires-clause-place
put-requires-clause-place g c =
    let i = c.self.inside in let o = c.args.self.now.object in let rows = ap (λ (x : Container _). x.object.rows) (sym c.self.view_is) in
    let p = tree_mark o c.args.parent in
    let same = to_z-of_z {w = w64} {z = c.args.n} c.ranges.n in
    let no_reason = passed _ _ c.in_ok-allowed.ensures c.refuses_more.ensures ∙ ap (λ m. first_reason (tampers_cursors (plain o) ∷ needs_node (plain o) p ∷ room_for_copies (plain o) m)) same in
    let none = none_found (tampers_cursors (plain o) ∷ needs_node (plain o) p ∷ room_for_copies (plain o) c.args.n) (sym no_reason) in
    subst (λ z. IsPlace o z None) (sym c.node_in.ensures) (place_here i.links c.self.invariant.forest o rows c.args.parent NoElement none.1.0 refl refl)

pub put-requires-clause-room : goal.put-requires-clause-room
put-requires-clause-room g c =
    let i = c.self.inside in let o = c.args.self.now.object in let rows = ap (λ (x : Container _). x.object.rows) (sym c.self.view_is) in
    let p = tree_mark o c.args.parent in
    let same = to_z-of_z {w = w64} {z = c.args.n} c.ranges.n in
    let no_reason = passed _ _ c.in_ok-allowed.ensures c.refuses_more.ensures ∙ ap (λ m. first_reason (tampers_cursors (plain o) ∷ needs_node (plain o) p ∷ room_for_copies (plain o) m)) same in
    let none = none_found (tampers_cursors (plain o) ∷ needs_node (plain o) p ∷ room_for_copies (plain o) c.args.n) (sym no_reason) in
    subst (λ m. Takes o m) (sym (c.count_of.ensures ∙ ap count_of same)) (takes_from o (needs_node (plain o) p) c.args.n no_reason)

pub returns-clause-changed : goal.returns-clause-changed
returns-clause-changed g c =
    let i = c.self.inside in let o = c.args.self.now.object in let rows = ap (λ (x : Container _). x.object.rows) (sym c.self.view_is) in
    let p = tree_mark o c.args.parent in
    let same = to_z-of_z {w = w64} {z = c.args.n} c.ranges.n in
    let no_reason = passed _ _ c.in_ok-allowed.ensures c.refuses_more.ensures ∙ ap (λ m. first_reason (tampers_cursors (plain o) ∷ needs_node (plain o) p ∷ room_for_copies (plain o) m)) same in
    let none = none_found (tampers_cursors (plain o) ∷ needs_node (plain o) p ∷ room_for_copies (plain o) c.args.n) (sym no_reason) in
    let now = c.put.new.self.object in let m = c.count_of.result in
    let count = c.count_of.ensures ∙ ap count_of same in
    let after = (λ j. (children_call o (c.node_in.ensures j) None c.args.e m).after) ∙ after_is i.links c.self.invariant.forest o rows c.args.parent NoElement c.args.e c.args.n m none.1.0 refl count in
    subst (λ r. Changing Same (trees.append_child_call (plain o) p c.args.e c.args.n) o now r) (sym c.done.ensures)
    (done_changed o now c.node_in.result None c.args.e m (trees.append_child_call (plain o) p c.args.e c.args.n) c.put.result (sym no_reason) after (ap (λ k. not ((k == 1) && has_room (plain o))) count) c.put.ensures.changed)

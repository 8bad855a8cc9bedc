use Rattle.std.proofs.Common.{refl, sym, ap, ◌∙◌, subst, reverse}
use Rattle.ac_base.specs.Rows.{values}
use Rattle.ac_tree.specs.Copying.{nodes_in}
use Rattle.ac_model.specs.Calls.{Changing, Same}
use Rattle.ac_model.specs.Containers.{Container}
use Rattle.ac_model.specs.Letters.{tampers_cursors, reason_if}
use Rattle.ac_model.specs.Objects.{plain}
use Rattle.ac_model.specs.Trees as trees
use Rattle.ac_model.specs.Trees.{tree_mark, needs_node, may_node, is_root, child_or_none, child_depth, copied_rows, room_for_rows}
use Rattle.ac_base.specs.declared.reason.Reason.TheVariants.{RootSource}
use Rattle.ac_model.proofs.Reasons.{passed}
use Rattle.ac_tree.specs.Children.{IsPlace, nodes_call}
use Rattle.ac_tree.specs.TreeCursors.{node_in}
use Rattle.ac_tree.proofs.Children.{place_here}
use Rattle.ac_tree.proofs.GraftedRows.{six_none, earlier_nones, child_depth_is, rows_fit, moved_after, done_nodes}
use Rattle.ac_tree.proofs.tree.Tree.copy_subtree_self.Goals as goal

pub child_depth-first-requires : goal.child_depth-first-requires
child_depth-first-requires g c =
    let o = c.args.self.now.object in let from = o in let p = tree_mark o c.args.parent in let b = tree_mark o c.args.before in let q = tree_mark from c.args.top in
    let rows = copied_rows (child_depth (plain o).rows p) (plain from).rows q in
    (six_none (tampers_cursors (plain o)) (needs_node (plain o) p) (may_node (plain o) b) (may_node (plain from) q) (reason_if (is_root q) RootSource) (child_or_none (plain o) p b) (room_for_rows (plain o) rows) (sym (passed _ _ c.in_ok-allowed.ensures c.refuses_copy.ensures))).second

pub copied-requires-clause-source : goal.copied-requires-clause-source
copied-requires-clause-source g c =
    let o = c.args.self.now.object in let from = o in let p = tree_mark o c.args.parent in let b = tree_mark o c.args.before in let q = tree_mark from c.args.top in
    let rows = copied_rows (child_depth (plain o).rows p) (plain from).rows q in
    let n = six_none (tampers_cursors (plain o)) (needs_node (plain o) p) (may_node (plain o) b) (may_node (plain from) q) (reason_if (is_root q) RootSource) (child_or_none (plain o) p b) (room_for_rows (plain o) rows) (sym (passed _ _ c.in_ok-allowed.ensures c.refuses_copy.ensures)) in
    earlier_nones (may_node (plain from) q) (reason_if (is_root q) RootSource) n.fourth n.fifth

pub put_rows-requires-clause-place : goal.put_rows-requires-clause-place
put_rows-requires-clause-place g c =
    let i = c.self.inside in let o = c.args.self.now.object in let seen = ap (λ (x : Container _). x.object.rows) (sym c.self.view_is) in
    let from = o in let p = tree_mark o c.args.parent in let b = tree_mark o c.args.before in let q = tree_mark from c.args.top in
    let rows = copied_rows (child_depth (plain o).rows p) (plain from).rows q in
    let n = six_none (tampers_cursors (plain o)) (needs_node (plain o) p) (may_node (plain o) b) (may_node (plain from) q) (reason_if (is_root q) RootSource) (child_or_none (plain o) p b) (room_for_rows (plain o) rows) (sym (passed _ _ c.in_ok-allowed.ensures c.refuses_copy.ensures)) in
    subst (λ z. IsPlace o z c.place_in.result) (sym c.node_in.ensures) (subst (λ z. IsPlace o (node_in c.args.parent) z) (sym c.place_in.ensures) (place_here i.links c.self.invariant.forest o seen c.args.parent c.args.before n.second n.third n.sixth))

pub put_rows-requires-clause-depth : goal.put_rows-requires-clause-depth
put_rows-requires-clause-depth g c =
    let i = c.self.inside in let o = c.args.self.now.object in let seen = ap (λ (x : Container _). x.object.rows) (sym c.self.view_is) in
    let from = o in let p = tree_mark o c.args.parent in let b = tree_mark o c.args.before in let q = tree_mark from c.args.top in
    let rows = copied_rows (child_depth (plain o).rows p) (plain from).rows q in
    let n = six_none (tampers_cursors (plain o)) (needs_node (plain o) p) (may_node (plain o) b) (may_node (plain from) q) (reason_if (is_root q) RootSource) (child_or_none (plain o) p b) (room_for_rows (plain o) rows) (sym (passed _ _ c.in_ok-allowed.ensures c.refuses_copy.ensures)) in
    child_depth_is i.links c.self.invariant.forest o seen c.args.parent c.node_in.result c.child_depth-first.result n.second c.node_in.ensures c.child_depth-first.ensures.depth

pub put_rows-requires-clause-room : goal.put_rows-requires-clause-room
put_rows-requires-clause-room g c =
    let o = c.args.self.now.object in let from = o in let p = tree_mark o c.args.parent in let b = tree_mark o c.args.before in let q = tree_mark from c.args.top in
    let rows = copied_rows (child_depth (plain o).rows p) (plain from).rows q in
    let n = six_none (tampers_cursors (plain o)) (needs_node (plain o) p) (may_node (plain o) b) (may_node (plain from) q) (reason_if (is_root q) RootSource) (child_or_none (plain o) p b) (room_for_rows (plain o) rows) (sym (passed _ _ c.in_ok-allowed.ensures c.refuses_copy.ensures)) in
    rows_fit o rows c.in-Ok.items.items (c.in-Ok.ensures.copies ∙ ap (λ d. values (copied_rows d (plain from).rows q)) c.child_depth-first.ensures.depth) n.rest

pub returns-clause-changed : goal.returns-clause-changed
returns-clause-changed g c =
    let i = c.self.inside in let o = c.args.self.now.object in let seen = ap (λ (x : Container _). x.object.rows) (sym c.self.view_is) in
    let from = o in let p = tree_mark o c.args.parent in let b = tree_mark o c.args.before in let q = tree_mark from c.args.top in
    let rows = copied_rows (child_depth (plain o).rows p) (plain from).rows q in
    let none = passed _ _ c.in_ok-allowed.ensures c.refuses_copy.ensures in
    let n = six_none (tampers_cursors (plain o)) (needs_node (plain o) p) (may_node (plain o) b) (may_node (plain from) q) (reason_if (is_root q) RootSource) (child_or_none (plain o) p b) (room_for_rows (plain o) rows) (sym none) in
    let vs = nodes_in (reverse c.in-Ok.items.items) in
    let is = c.in-Ok.ensures.copies ∙ ap (λ d. values (copied_rows d (plain from).rows q)) c.child_depth-first.ensures.depth in
    let call = trees.copy_subtree_call (plain o) p b (plain from) q in
    subst (λ r. Changing Same call o c.put_rows.new.self.object r) (sym c.done.ensures)
    (done_nodes o c.put_rows.new.self.object (nodes_call o c.node_in.result c.place_in.result vs) call c.put_rows.result refl (sym none)
    (moved_after i.links c.self.invariant.forest o seen c.args.parent c.args.before c.node_in.result c.place_in.result vs rows n.second n.third c.node_in.ensures c.place_in.ensures is) refl c.put_rows.ensures.changed)

use Rattle.std.proofs.Common.{refl, sym, ap, ◌∙◌, subst, reverse}
use Rattle.ac_base.specs.Rows.{values}
use Rattle.ac_model.specs.Containers.{Container}
use Rattle.ac_model.specs.Letters.{tampers_cursors}
use Rattle.ac_model.specs.Objects.{plain}
use Rattle.ac_model.specs.Trees as trees
use Rattle.ac_model.specs.Trees.{tree_mark, needs_node, may_node, needs_element, child_or_none, child_depth, run_at_depth, room_for_rows}
use Rattle.ac_model.proofs.Reasons.{passed}
use Rattle.ac_model.specs.Calls.{Same}
use Rattle.ac_tree.proofs.Looking.{node_live}
use Rattle.ac_tree.specs.Children.{IsPlace, nodes_call}
use Rattle.ac_tree.specs.Copying.{nodes_in}
use Rattle.ac_tree.specs.TreeCursors.{node_in}
use Rattle.ac_tree.proofs.Children.{place_here}
use Rattle.ac_tree.proofs.GraftedRows.{six_none, child_depth_is, rows_fit, moved_after, run_there, both_changed}
use Rattle.ac_tree.proofs.tree.Tree.splice_children_from.Goals as goal

pub child_depth-first-requires : goal.child_depth-first-requires
child_depth-first-requires g c =
    let o = c.args.self.now.object in let from = c.args.source.now.object in let p = tree_mark o c.args.parent in let b = tree_mark o c.args.before in let q = tree_mark from c.args.source_parent in
    let rows = run_at_depth (child_depth (plain o).rows p) (plain from).rows q in let none = passed _ _ c.in_ok-allowed.ensures c.refuses_children_from.ensures in
    let n = six_none (tampers_cursors (plain o)) (tampers_cursors (plain from)) (needs_node (plain o) p) (may_node (plain o) b) (needs_node (plain from) q) (child_or_none (plain o) p b) (room_for_rows (plain o) rows) (sym none) in
    n.third

pub copied_below-requires-clause-live : goal.copied_below-requires-clause-live
copied_below-requires-clause-live g c =
    let o = c.args.self.now.object in let from = c.args.source.now.object in let p = tree_mark o c.args.parent in let b = tree_mark o c.args.before in let q = tree_mark from c.args.source_parent in
    let rows = run_at_depth (child_depth (plain o).rows p) (plain from).rows q in let none = passed _ _ c.in_ok-allowed.ensures c.refuses_children_from.ensures in
    let n = six_none (tampers_cursors (plain o)) (tampers_cursors (plain from)) (needs_node (plain o) p) (may_node (plain o) b) (needs_node (plain from) q) (child_or_none (plain o) p b) (room_for_rows (plain o) rows) (sym none) in
    let j = c.source.inside in let there = ap (λ (x : Container _). x.object.rows) (sym c.source.view_is) in
    node_live j.links c.source.invariant.forest from there c.args.source_parent c.node_in.result n.fifth c.node_in.ensures

pub put_rows-requires-clause-place : goal.put_rows-requires-clause-place
put_rows-requires-clause-place g c =
    let o = c.args.self.now.object in let from = c.args.source.now.object in let p = tree_mark o c.args.parent in let b = tree_mark o c.args.before in let q = tree_mark from c.args.source_parent in
    let rows = run_at_depth (child_depth (plain o).rows p) (plain from).rows q in let none = passed _ _ c.in_ok-allowed.ensures c.refuses_children_from.ensures in
    let n = six_none (tampers_cursors (plain o)) (tampers_cursors (plain from)) (needs_node (plain o) p) (may_node (plain o) b) (needs_node (plain from) q) (child_or_none (plain o) p b) (room_for_rows (plain o) rows) (sym none) in
    let i = c.self.inside in let seen = ap (λ (x : Container _). x.object.rows) (sym c.self.view_is) in
    subst (λ z. IsPlace o z c.place_in.result) (sym c.node_in-2.ensures) (subst (λ z. IsPlace o (node_in c.args.parent) z) (sym c.place_in.ensures) (place_here i.links c.self.invariant.forest o seen c.args.parent c.args.before n.third n.fourth n.sixth))

pub put_rows-requires-clause-depth : goal.put_rows-requires-clause-depth
put_rows-requires-clause-depth g c =
    let o = c.args.self.now.object in let from = c.args.source.now.object in let p = tree_mark o c.args.parent in let b = tree_mark o c.args.before in let q = tree_mark from c.args.source_parent in
    let rows = run_at_depth (child_depth (plain o).rows p) (plain from).rows q in let none = passed _ _ c.in_ok-allowed.ensures c.refuses_children_from.ensures in
    let n = six_none (tampers_cursors (plain o)) (tampers_cursors (plain from)) (needs_node (plain o) p) (may_node (plain o) b) (needs_node (plain from) q) (child_or_none (plain o) p b) (room_for_rows (plain o) rows) (sym none) in
    let i = c.self.inside in let seen = ap (λ (x : Container _). x.object.rows) (sym c.self.view_is) in
    child_depth_is i.links c.self.invariant.forest o seen c.args.parent c.node_in-2.result c.child_depth-first.result n.third c.node_in-2.ensures c.child_depth-first.ensures.depth

pub put_rows-requires-clause-room : goal.put_rows-requires-clause-room
put_rows-requires-clause-room g c =
    let o = c.args.self.now.object in let from = c.args.source.now.object in let p = tree_mark o c.args.parent in let b = tree_mark o c.args.before in let q = tree_mark from c.args.source_parent in
    let rows = run_at_depth (child_depth (plain o).rows p) (plain from).rows q in let none = passed _ _ c.in_ok-allowed.ensures c.refuses_children_from.ensures in
    let n = six_none (tampers_cursors (plain o)) (tampers_cursors (plain from)) (needs_node (plain o) p) (may_node (plain o) b) (needs_node (plain from) q) (child_or_none (plain o) p b) (room_for_rows (plain o) rows) (sym none) in
    let j = c.source.inside in let there = ap (λ (x : Container _). x.object.rows) (sym c.source.view_is) in
    let is = run_there j.links c.source.invariant.forest from there c.args.source_parent c.node_in.result c.child_depth-first.result c.in-Ok.items.items n.fifth c.node_in.ensures c.in-Ok.ensures.copies ∙ ap (λ d. values (run_at_depth d (plain from).rows q)) c.child_depth-first.ensures.depth in
    rows_fit o rows c.in-Ok.items.items is n.rest

pub take_below-requires : goal.take_below-requires
take_below-requires g c =
    let o = c.args.self.now.object in let from = c.args.source.now.object in let p = tree_mark o c.args.parent in let b = tree_mark o c.args.before in let q = tree_mark from c.args.source_parent in
    let rows = run_at_depth (child_depth (plain o).rows p) (plain from).rows q in let none = passed _ _ c.in_ok-allowed.ensures c.refuses_children_from.ensures in
    let n = six_none (tampers_cursors (plain o)) (tampers_cursors (plain from)) (needs_node (plain o) p) (may_node (plain o) b) (needs_node (plain from) q) (child_or_none (plain o) p b) (room_for_rows (plain o) rows) (sym none) in
    n.fifth

pub returns-clause-changed : goal.returns-clause-changed
returns-clause-changed g c =
    let o = c.args.self.now.object in let from = c.args.source.now.object in let p = tree_mark o c.args.parent in let b = tree_mark o c.args.before in let q = tree_mark from c.args.source_parent in
    let rows = run_at_depth (child_depth (plain o).rows p) (plain from).rows q in let none = passed _ _ c.in_ok-allowed.ensures c.refuses_children_from.ensures in
    let n = six_none (tampers_cursors (plain o)) (tampers_cursors (plain from)) (needs_node (plain o) p) (may_node (plain o) b) (needs_node (plain from) q) (child_or_none (plain o) p b) (room_for_rows (plain o) rows) (sym none) in
    let i = c.self.inside in let seen = ap (λ (x : Container _). x.object.rows) (sym c.self.view_is) in
    let j = c.source.inside in let there = ap (λ (x : Container _). x.object.rows) (sym c.source.view_is) in
    let is = run_there j.links c.source.invariant.forest from there c.args.source_parent c.node_in.result c.child_depth-first.result c.in-Ok.items.items n.fifth c.node_in.ensures c.in-Ok.ensures.copies ∙ ap (λ d. values (run_at_depth d (plain from).rows q)) c.child_depth-first.ensures.depth in
    let vs = nodes_in (reverse c.in-Ok.items.items) in
    let after = moved_after i.links c.self.invariant.forest o seen c.args.parent c.args.before c.node_in-2.result c.place_in.result vs rows n.third n.fourth c.node_in-2.ensures c.place_in.ensures is in
    both_changed Same o c.put_rows.new.self.object from c.take_below.new.self.object (trees.splice_children_from_call (plain o) p b (plain from) q) (nodes_call o c.node_in-2.result c.place_in.result vs) tt
    (sym none) after c.in_ok-_first.ensures.changed.1 c.take_below.ensures.gone refl

use Rattle.std.proofs.Common.{refl, sym, ap, ◌∙◌, subst, reverse}
use Rattle.ac_base.specs.Rows.{values}
use Rattle.ac_model.specs.Containers.{Container}
use Rattle.ac_model.specs.Letters.{tampers_cursors}
use Rattle.ac_model.specs.Objects.{plain}
use Rattle.ac_model.specs.Trees as trees
use Rattle.ac_model.specs.Trees.{tree_mark, needs_node, may_node, needs_element, child_or_none, child_depth, subtree_at_depth, room_for_rows}
use Rattle.ac_model.proofs.Reasons.{passed}
use Rattle.std.proofs.Common.{ℕ, ◌<◌, length, arith}
use Rattle.std.proofs.lemmas.List.{length-map}
use Rattle.ac_base.specs.Rows.{Row}
use Rattle.ac_model.specs.Rows.{Node}
use Rattle.ac_model.specs.Objects.{plains}
use Rattle.ac_model.specs.Outline.{subtree_length}
use Rattle.ac_tree.specs.Forests.{outline}
use Rattle.ac_tree.specs.TreeFields.{forest_in}
use Rattle.ac_chain.specs.TreeCursors.{NodeMarks}
use Rattle.ac_tree.proofs.Looking.{live_needed}
use Rattle.ac_tree.proofs.GraftedRows.{element_long, first_marks}
use Rattle.ac_tree.specs.Children.{IsPlace, nodes_call}
use Rattle.ac_tree.specs.Copying.{nodes_in}
use Rattle.ac_tree.specs.TreeCursors.{node_in}
use Rattle.ac_tree.proofs.Children.{place_here}
use Rattle.ac_tree.proofs.GraftedRows.{six_none, child_depth_is, rows_fit, moved_after, element_there, both_changed}
use Rattle.ac_tree.proofs.tree.Tree.take_from.Goals as goal

pub child_depth-first-requires : goal.child_depth-first-requires
child_depth-first-requires g c =
    let o = c.args.self.now.object in let from = c.args.source.now.object in let p = tree_mark o c.args.parent in let b = tree_mark o c.args.before in let q = tree_mark from c.args.position in
    let rows = subtree_at_depth (child_depth (plain o).rows p) (plain from).rows q in let none = passed _ _ c.in_ok-allowed.ensures c.refuses_splice_from.ensures in
    let n = six_none (tampers_cursors (plain o)) (tampers_cursors (plain from)) (needs_node (plain o) p) (may_node (plain o) b) (needs_element (plain from) q) (child_or_none (plain o) p b) (room_for_rows (plain o) rows) (sym none) in
    n.third

pub copied_subtree-requires-clause-live : goal.copied_subtree-requires-clause-live
copied_subtree-requires-clause-live g c =
    let o = c.args.self.now.object in let from = c.args.source.now.object in let p = tree_mark o c.args.parent in let b = tree_mark o c.args.before in let q = tree_mark from c.args.position in
    let rows = subtree_at_depth (child_depth (plain o).rows p) (plain from).rows q in let none = passed _ _ c.in_ok-allowed.ensures c.refuses_splice_from.ensures in
    let n = six_none (tampers_cursors (plain o)) (tampers_cursors (plain from)) (needs_node (plain o) p) (may_node (plain o) b) (needs_element (plain from) q) (child_or_none (plain o) p b) (room_for_rows (plain o) rows) (sym none) in
    let j = c.source.inside in let there = ap (λ (x : Container _). x.object.rows) (sym c.source.view_is) in
    live_needed j.links c.source.invariant.forest from there c.args.position c.name_in.result c.name_in.ensures n.fifth

pub put_rows-requires-clause-place : goal.put_rows-requires-clause-place
put_rows-requires-clause-place g c =
    let o = c.args.self.now.object in let from = c.args.source.now.object in let p = tree_mark o c.args.parent in let b = tree_mark o c.args.before in let q = tree_mark from c.args.position in
    let rows = subtree_at_depth (child_depth (plain o).rows p) (plain from).rows q in let none = passed _ _ c.in_ok-allowed.ensures c.refuses_splice_from.ensures in
    let n = six_none (tampers_cursors (plain o)) (tampers_cursors (plain from)) (needs_node (plain o) p) (may_node (plain o) b) (needs_element (plain from) q) (child_or_none (plain o) p b) (room_for_rows (plain o) rows) (sym none) in
    let i = c.self.inside in let seen = ap (λ (x : Container _). x.object.rows) (sym c.self.view_is) in
    subst (λ z. IsPlace o z c.place_in.result) (sym c.node_in.ensures) (subst (λ z. IsPlace o (node_in c.args.parent) z) (sym c.place_in.ensures) (place_here i.links c.self.invariant.forest o seen c.args.parent c.args.before n.third n.fourth n.sixth))

pub put_rows-requires-clause-depth : goal.put_rows-requires-clause-depth
put_rows-requires-clause-depth g c =
    let o = c.args.self.now.object in let from = c.args.source.now.object in let p = tree_mark o c.args.parent in let b = tree_mark o c.args.before in let q = tree_mark from c.args.position in
    let rows = subtree_at_depth (child_depth (plain o).rows p) (plain from).rows q in let none = passed _ _ c.in_ok-allowed.ensures c.refuses_splice_from.ensures in
    let n = six_none (tampers_cursors (plain o)) (tampers_cursors (plain from)) (needs_node (plain o) p) (may_node (plain o) b) (needs_element (plain from) q) (child_or_none (plain o) p b) (room_for_rows (plain o) rows) (sym none) in
    let i = c.self.inside in let seen = ap (λ (x : Container _). x.object.rows) (sym c.self.view_is) in
    child_depth_is i.links c.self.invariant.forest o seen c.args.parent c.node_in.result c.child_depth-first.result n.third c.node_in.ensures c.child_depth-first.ensures.depth

pub put_rows-requires-clause-room : goal.put_rows-requires-clause-room
put_rows-requires-clause-room g c =
    let o = c.args.self.now.object in let from = c.args.source.now.object in let p = tree_mark o c.args.parent in let b = tree_mark o c.args.before in let q = tree_mark from c.args.position in
    let rows = subtree_at_depth (child_depth (plain o).rows p) (plain from).rows q in let none = passed _ _ c.in_ok-allowed.ensures c.refuses_splice_from.ensures in
    let n = six_none (tampers_cursors (plain o)) (tampers_cursors (plain from)) (needs_node (plain o) p) (may_node (plain o) b) (needs_element (plain from) q) (child_or_none (plain o) p b) (room_for_rows (plain o) rows) (sym none) in
    let j = c.source.inside in let there = ap (λ (x : Container _). x.object.rows) (sym c.source.view_is) in
    let is = element_there j.links c.source.invariant.forest from there c.args.position c.name_in.result c.child_depth-first.result c.in-Ok.items.items n.fifth c.name_in.ensures c.in-Ok.ensures.copies ∙ ap (λ d. values (subtree_at_depth d (plain from).rows q)) c.child_depth-first.ensures.depth in
    rows_fit o rows c.in-Ok.items.items is n.rest

pub take_subtree-requires : goal.take_subtree-requires
take_subtree-requires g c =
    let o = c.args.self.now.object in let from = c.args.source.now.object in let p = tree_mark o c.args.parent in let b = tree_mark o c.args.before in let q = tree_mark from c.args.position in
    let rows = subtree_at_depth (child_depth (plain o).rows p) (plain from).rows q in let none = passed _ _ c.in_ok-allowed.ensures c.refuses_splice_from.ensures in
    let n = six_none (tampers_cursors (plain o)) (tampers_cursors (plain from)) (needs_node (plain o) p) (may_node (plain o) b) (needs_element (plain from) q) (child_or_none (plain o) p b) (room_for_rows (plain o) rows) (sym none) in
    n.fifth

pub returns-clause-changed : goal.returns-clause-changed
returns-clause-changed g c =
    let o = c.args.self.now.object in let from = c.args.source.now.object in let p = tree_mark o c.args.parent in let b = tree_mark o c.args.before in let q = tree_mark from c.args.position in
    let rows = subtree_at_depth (child_depth (plain o).rows p) (plain from).rows q in let none = passed _ _ c.in_ok-allowed.ensures c.refuses_splice_from.ensures in
    let n = six_none (tampers_cursors (plain o)) (tampers_cursors (plain from)) (needs_node (plain o) p) (may_node (plain o) b) (needs_element (plain from) q) (child_or_none (plain o) p b) (room_for_rows (plain o) rows) (sym none) in
    let i = c.self.inside in let seen = ap (λ (x : Container _). x.object.rows) (sym c.self.view_is) in
    let j = c.source.inside in let there = ap (λ (x : Container _). x.object.rows) (sym c.source.view_is) in
    let is = element_there j.links c.source.invariant.forest from there c.args.position c.name_in.result c.child_depth-first.result c.in-Ok.items.items n.fifth c.name_in.ensures c.in-Ok.ensures.copies ∙ ap (λ d. values (subtree_at_depth d (plain from).rows q)) c.child_depth-first.ensures.depth in
    let vs = nodes_in (reverse c.in-Ok.items.items) in
    let after = moved_after i.links c.self.invariant.forest o seen c.args.parent c.args.before c.node_in.result c.place_in.result vs rows n.third n.fourth c.node_in.ensures c.place_in.ensures is in
    let some : 0 < length vs = let many = element_long j.links c.source.invariant.forest from there c.args.position c.name_in.result (child_depth (plain o).rows p) (subtree_length (plains (outline 2 (forest_in j.links))) c.name_in.result.serial) n.fifth c.name_in.ensures refl in
    let long = ap length is in let all = length-map rows (λ (r : Row ℕ (Node _)). r.value) in omega (arith, many, long, all) in
    let answer = first_marks o c.put_rows.new.self.object c.in_ok-made.made vs some c.in_ok-made.ensures.changed.2 in
    both_changed (NodeMarks c.put_rows.new.self.object) o c.put_rows.new.self.object from c.take_subtree.new.self.object (trees.splice_subtree_from_call (plain o) p b (plain from) q) (nodes_call o c.node_in.result c.place_in.result vs) c.in_ok-made.made
    (sym none) after c.in_ok-made.ensures.changed.1 c.take_subtree.ensures.gone answer

use Rattle.std.proofs.Common.{subst, to_z-of_z, w64, ◌∷◌, Ok}
use Rattle.ac_model.specs.Objects.{plain}
use Rattle.ac_model.specs.Letters.{count_of, tampers_cursors}
use Rattle.ac_model.specs.Calls.{Changing}
use Rattle.ac_model.specs.Sequences.{room_for_copies}
use Rattle.ac_model.specs.Trees.{insert_child_pos_call, needs_node, may_node, child_or_none}
use Rattle.ac_chain.specs.TreeCursors.{NodeMarks, seen_by}
use Rattle.ac_tree_calls.proofs.OwnNodes.{node_change, first_node_own, third_none}
use Rattle.ac_tree_calls.proofs.tree_calls.own_cursors.insert_child_pos.Goals as goal

pub returns-clause-changed : goal.returns-clause-changed
returns-clause-changed g c =
    let tree = g.C.TreeLike.seen c.args.tree.now in
    let o = tree.object in
    let now = (g.C.TreeLike.seen c.insert_child_pos.new.self).object in
    let parent = seen_by tree c.args.parent in
    let before = seen_by tree c.args.before in
    let count = c.args.count in
    node_change o now (insert_child_pos_call (plain o) parent before c.args.element count) c.insert_child_pos.new.p
    (λ h. first_node_own (plain o) before (count_of count) (third_none (tampers_cursors (plain o)) (needs_node (plain o) parent) (may_node (plain o) before)
    (child_or_none (plain o) parent before ∷ room_for_copies (plain o) count) h))
    (subst (λ n. Changing (λ _ m. NodeMarks now c.insert_child_pos.new.p m) (insert_child_pos_call (plain o) parent before c.args.element n) o now (Ok c.in_ok-insert_child_pos.field-0))
    (to_z-of_z {w = w64} {z = count} c.ranges.count) c.in_ok-insert_child_pos.ensures.changed.0)

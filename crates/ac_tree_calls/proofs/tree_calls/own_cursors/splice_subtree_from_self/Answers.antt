use Rattle.std.proofs.Common.{◌∷◌, []}
use Rattle.ac_base.specs.declared.reason.Reason.TheVariants.{BelowItself}
use Rattle.ac_model.specs.Outline.{is_in_subtree}
use Rattle.ac_model.specs.Objects.{plain}
use Rattle.ac_model.specs.Letters.{tampers_cursors, reason_if, name_of}
use Rattle.ac_model.specs.Trees.{splice_subtree_from_self_call, needs_node, may_node, needs_element, child_or_none}
use Rattle.ac_chain.specs.TreeCursors.{seen_by}
use Rattle.ac_tree_calls.proofs.OwnNodes.{node_change, element_own, fourth_none}
use Rattle.ac_tree_calls.proofs.tree_calls.own_cursors.splice_subtree_from_self.Goals as goal

pub returns-clause-changed : goal.returns-clause-changed
returns-clause-changed g c =
    let tree = g.C.TreeLike.seen c.args.tree.now in
    let o = tree.object in
    let parent = seen_by tree c.args.parent in
    let before = seen_by tree c.args.before in
    let top = seen_by tree c.args.top in
    node_change o (g.C.TreeLike.seen c.splice_subtree_from_self.new.self).object (splice_subtree_from_self_call (plain o) parent before top) c.splice_subtree_from_self.new.position
    (λ h. element_own (plain o) top (fourth_none (tampers_cursors (plain o)) (needs_node (plain o) parent) (may_node (plain o) before) (needs_element (plain o) top)
    (child_or_none (plain o) parent before ∷ reason_if (is_in_subtree (plain o).rows (name_of top) (name_of parent)) BelowItself ∷ []) h))
    c.in_ok-splice_subtree_from_self.ensures.changed.0

use Rattle.std.proofs.Common.{refl}
use Rattle.ac_model.specs.Objects.{plain}
use Rattle.ac_model.specs.Trees.{splice_subtree_from_call}
use Rattle.ac_chain.specs.TreeCursors.{seen_by}
use Rattle.ac_tree_calls.proofs.OwnNodes.{node_both}
use Rattle.ac_tree_calls.proofs.tree_calls.own_cursors.splice_subtree_from.Goals as goal

pub returns-clause-changed : goal.returns-clause-changed
returns-clause-changed g c =
    let tree = g.C.TreeLike.seen c.args.tree.now in
    let o = tree.object in
    let source = g.C.TreeLike.seen c.args.source.now in
    node_both o source.object (g.C.TreeLike.seen c.splice_subtree_from.new.self).object (g.C.TreeLike.seen c.splice_subtree_from.new.source).object
    (splice_subtree_from_call (plain o) (seen_by tree c.args.parent) (seen_by tree c.args.before) (plain source.object) (seen_by source c.args.top))
    c.splice_subtree_from.new.position (λ h. refl) c.in_ok-splice_subtree_from.ensures.changed.0

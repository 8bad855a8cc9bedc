use Rattle.std.proofs.Common.{subst, sym}
use Rattle.ac_model.specs.Calls.{Looking}
use Rattle.ac_model.specs.Objects.{plain}
use Rattle.ac_model.specs.Trees.{find_in_subtree_call}
use Rattle.ac_chain.specs.TreeCursors.{NodeMarks, seen_by}
use Rattle.ac_tree_calls.proofs.OwnNodes.{node_look, spot_own}
use Rattle.ac_tree_calls.proofs.tree_calls.own_cursors.find_in_subtree.Goals as goal

pub returns : goal.returns
returns g c =
    let o = (g.C.TreeLike.seen c.args.tree.now).object in
    node_look o _ _ (spot_own (plain o) _)
    (subst (λ same. Looking (NodeMarks o) (find_in_subtree_call same (plain o) (seen_by (g.C.TreeLike.seen c.args.tree.now) c.args.c) c.args.element.now) c.find_in_subtree.result)
    (sym g.met.T.ScriptElement.same_is) c.find_in_subtree.ensures)

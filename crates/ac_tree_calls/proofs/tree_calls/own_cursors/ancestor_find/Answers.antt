use Rattle.std.proofs.Common.{subst, sym}
use Rattle.ac_model.specs.Calls.{Looking}
use Rattle.ac_model.specs.Objects.{plain}
use Rattle.ac_model.specs.Trees.{ancestor_find_call}
use Rattle.ac_chain.specs.TreeCursors.{NodeMarks, seen_by}
use Rattle.ac_tree_calls.proofs.OwnNodes.{node_look, spot_own}
use Rattle.ac_tree_calls.proofs.tree_calls.own_cursors.ancestor_find.Goals as goal

pub returns : goal.returns
returns g c =
    let o = (g.C.TreeLike.seen c.args.tree.now).object in
    node_look o _ _ (spot_own (plain o) _)
    (subst (λ same. Looking (NodeMarks o) (ancestor_find_call same (plain o) (seen_by (g.C.TreeLike.seen c.args.tree.now) c.args.c) c.args.element.now) c.ancestor_find.result)
    (sym g.met.T.ScriptElement.same_is) c.ancestor_find.ensures)

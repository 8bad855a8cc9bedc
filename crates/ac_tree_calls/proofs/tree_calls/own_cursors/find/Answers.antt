use Rattle.std.proofs.Common.{subst, sym}
use Rattle.ac_model.specs.Objects.{plain}
use Rattle.ac_model.specs.Trees.{find_call}
use Rattle.ac_chain.specs.TreeCursors.{NodeMarks}
use Rattle.ac_tree_calls.proofs.OwnNodes.{node_cursor, spot_own}
use Rattle.ac_tree_calls.proofs.tree_calls.own_cursors.find.Goals as goal

pub returns : goal.returns
returns g c =
    let o = (g.C.TreeLike.seen c.args.tree.now).object in
    node_cursor o c.find.result _ (spot_own (plain o) _)
    (subst (λ same. NodeMarks o c.find.result (find_call same (plain o) c.args.element.now)) (sym g.met.T.ScriptElement.same_is) c.find.ensures)

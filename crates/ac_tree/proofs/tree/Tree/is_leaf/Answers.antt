use Rattle.std.proofs.Common.{sym, ap}
use Rattle.ac_model.specs.Containers.{Container}
use Rattle.ac_model.proofs.Reasons.{passed}
use Rattle.ac_tree.proofs.Judging.{none_is}
use Rattle.ac_tree.proofs.Looking.{is_leaf_looks}
use Rattle.ac_tree.proofs.tree.Tree.is_leaf.Goals as goal

pub returns : goal.returns
returns g c =
    let i = c.self.inside in let o = c.args.self.now.object in let rows = ap (λ (x : Container _). x.object.rows) (sym c.self.view_is) in
    is_leaf_looks i.links c.self.invariant.forest o rows c.args.c c.node_in.result c.first_child.result c.is_none.result (sym (passed _ _ c.in_ok-allowed.ensures c.needs_node.ensures)) c.node_in.ensures c.first_child.ensures (none_is c.first_child.result c.is_none.result c.is_none.ensures)

use Rattle.std.proofs.Common.{sym, ap}
use Rattle.ac_model.specs.Containers.{Container}
use Rattle.ac_model.proofs.Reasons.{passed}
use Rattle.ac_tree.proofs.Looking.{node_live}
use Rattle.ac_tree.proofs.Searching.{ancestor_looks}
use Rattle.ac_tree.proofs.tree.Tree.ancestor_find.Goals as goal

pub found_up-requires-clause-live : goal.found_up-requires-clause-live
found_up-requires-clause-live g c =
    let i = c.self.inside in let o = c.args.self.now.object in let rows = ap (λ (x : Container _). x.object.rows) (sym c.self.view_is) in
    node_live i.links c.self.invariant.forest o rows c.args.c c.node_in.result (sym (passed _ _ c.in_ok-allowed.ensures c.needs_node.ensures)) c.node_in.ensures

pub returns : goal.returns
returns g c =
    let i = c.self.inside in let o = c.args.self.now.object in let rows = ap (λ (x : Container _). x.object.rows) (sym c.self.view_is) in
    ancestor_looks i.links c.self.invariant.forest o rows g.T.Elem.is_same c.args.e.now c.args.c c.node_in.result c.found_up.result c.named.result
    (sym (passed _ _ c.in_ok-allowed.ensures c.needs_node.ensures)) c.node_in.ensures c.found_up.ensures c.named.ensures

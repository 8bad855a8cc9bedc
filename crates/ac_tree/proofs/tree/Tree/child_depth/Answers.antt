use Rattle.std.proofs.Common.{sym, ap}
use Rattle.ac_model.specs.Containers.{Container}
use Rattle.ac_tree.proofs.Looking.{node_live}
use Rattle.ac_tree.proofs.GraftedRows.{depth_is_child}
use Rattle.ac_tree.proofs.tree.Tree.child_depth.Goals as goal

pub depth-requires-clause-live : goal.depth-requires-clause-live
depth-requires-clause-live g c =
    let i = c.self.inside in let o = c.args.self.now.object in let rows = ap (λ (x : Container _). x.object.rows) (sym c.self.view_is) in
    node_live i.links c.self.invariant.forest o rows c.args.parent c.node_in.result c.requires c.node_in.ensures

pub returns-clause-depth : goal.returns-clause-depth
returns-clause-depth g c =
    let i = c.self.inside in let o = c.args.self.now.object in let rows = ap (λ (x : Container _). x.object.rows) (sym c.self.view_is) in
    depth_is_child i.links c.self.invariant.forest o rows c.args.parent c.node_in.result c.depth.result c.requires c.node_in.ensures c.depth.ensures.depth

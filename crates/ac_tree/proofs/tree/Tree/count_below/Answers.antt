use Rattle.std.proofs.Common.{sym, ap}
use Rattle.ac_model.specs.Containers.{Container}
use Rattle.ac_tree.proofs.Looking.{node_live}
use Rattle.ac_tree.proofs.GraftedRows.{run_long}
use Rattle.ac_tree.proofs.tree.Tree.count_below.Goals as goal

pub count_subtree-requires-clause-live : goal.count_subtree-requires-clause-live
count_subtree-requires-clause-live g c =
    let i = c.self.inside in let o = c.args.self.now.object in let rows = ap (λ (x : Container _). x.object.rows) (sym c.self.view_is) in
    node_live i.links c.self.invariant.forest o rows c.args.parent c.node_in.result c.requires c.node_in.ensures

pub returns-clause-count : goal.returns-clause-count
returns-clause-count g c = λ depth.
    let i = c.self.inside in let o = c.args.self.now.object in let rows = ap (λ (x : Container _). x.object.rows) (sym c.self.view_is) in
    run_long i.links c.self.invariant.forest o rows c.args.parent c.node_in.result depth c.count_subtree.result c.saturating_sub.result c.requires c.node_in.ensures c.count_subtree.ensures.count c.saturating_sub.ensures

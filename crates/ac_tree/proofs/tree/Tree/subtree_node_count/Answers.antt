use Rattle.std.proofs.Common.{sym, ap, ◌∙◌, to_z-of_z, w64, rules, SFits}
use Rattle.ac_model.specs.Containers.{Container}
use Rattle.ac_model.proofs.Reasons.{passed}
use Rattle.ac_tree.proofs.Looking.{node_live, subtree_looks}
use Rattle.ac_tree.proofs.tree.Tree.subtree_node_count.Goals as goal

pub count_subtree-requires-clause-live : goal.count_subtree-requires-clause-live
count_subtree-requires-clause-live g c =
    let i = c.self.inside in let o = c.args.self.now.object in let rows = ap (λ (x : Container _). x.object.rows) (sym c.self.view_is) in
    node_live i.links c.self.invariant.forest o rows c.args.c c.node_in.result (sym (passed _ _ c.in_ok-allowed.ensures c.needs_node.ensures)) c.node_in.ensures

pub returns : goal.returns
returns g c =
    let fits : SFits w64 c.as_number.result = search rules in
    let i = c.self.inside in let o = c.args.self.now.object in let rows = ap (λ (x : Container _). x.object.rows) (sym c.self.view_is) in
    subtree_looks i.links c.self.invariant.forest o rows c.args.c c.node_in.result c.count_subtree.result _ (sym (passed _ _ c.in_ok-allowed.ensures c.needs_node.ensures)) c.node_in.ensures c.count_subtree.ensures.count (to_z-of_z {w = w64} {z = c.as_number.result} fits ∙ c.as_number.ensures)

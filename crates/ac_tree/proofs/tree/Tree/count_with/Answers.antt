use Rattle.std.proofs.Common.{sym, ap, subst}
use Rattle.ac_pool.specs.Contents.{IsLive}
use Rattle.ac_model.specs.Containers.{Container}
use Rattle.ac_tree.proofs.Standing.{some_name}
use Rattle.ac_tree.proofs.Looking.{live_needed}
use Rattle.ac_tree.proofs.GraftedRows.{element_long}
use Rattle.ac_tree.proofs.tree.Tree.count_with.Goals as goal

pub count_subtree-requires-clause-live : goal.count_subtree-requires-clause-live
count_subtree-requires-clause-live g c = λ b e.
    let i = c.self.inside in let o = c.args.self.now.object in let rows = ap (λ (x : Container _). x.object.rows) (sym c.self.view_is) in
    subst (λ n. IsLive i.links.nodes n) (some_name c.name_in.result b e) (live_needed i.links c.self.invariant.forest o rows c.args.position c.name_in.result c.name_in.ensures c.requires)

pub returns-clause-count : goal.returns-clause-count
returns-clause-count g c = λ depth.
    let i = c.self.inside in let o = c.args.self.now.object in let rows = ap (λ (x : Container _). x.object.rows) (sym c.self.view_is) in
    element_long i.links c.self.invariant.forest o rows c.args.position c.name_in.result depth c.count_subtree.result c.requires c.name_in.ensures c.count_subtree.ensures.count

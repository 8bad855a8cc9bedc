use Rattle.std.proofs.Common.{sym, ap, ◌∙◌}
use Rattle.ac_model.specs.Containers.{Container}
use Rattle.ac_tree.proofs.Judging.{none_is, at_element}
use Rattle.ac_tree.proofs.Looking.{leaf_here}
use Rattle.ac_tree.proofs.tree.Tree.is_childless.Goals as goal

pub returns : goal.returns
returns g c =
    let i = c.self.inside in let o = c.args.self.now.object in let rows = ap (λ (x : Container _). x.object.rows) (sym c.self.view_is) in
    none_is c.first_child.result c.is_none.result c.is_none.ensures
    ∙ leaf_here i.links c.self.invariant.forest o rows c.args.position c.node_in.result c.first_child.result (at_element i.links c.self.invariant.forest o rows c.args.position c.requires).needs c.node_in.ensures c.first_child.ensures

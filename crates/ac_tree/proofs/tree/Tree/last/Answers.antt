use Rattle.std.proofs.Common.{sym, ap}
use Rattle.ac_model.specs.Containers.{Container}
use Rattle.ac_tree.proofs.Loops.{last_marks}
use Rattle.ac_tree.proofs.tree.Tree.last.Goals as goal

pub returns : goal.returns
returns g c =
    let i = c.self.inside in let o = c.args.self.now.object in let rows = ap (λ (x : Container _). x.object.rows) (sym c.self.view_is) in
    last_marks i.links c.self.invariant.forest o rows c.last_node.result c.named.result c.last_node.ensures c.named.ensures

use Rattle.std.proofs.Common.{sym, ap}
use Rattle.ac_model.specs.Containers.{Container}
use Rattle.ac_tree.proofs.Meeting.{starts}
use Rattle.ac_tree.proofs.tree.Tree.first_level.Goals as goal

pub returns : goal.returns
returns g c =
    let i = c.self.inside in let o = c.args.self.now.object in let rows = ap (λ (x : Container _). x.object.rows) (sym c.self.view_is) in
    starts i.links c.self.invariant.forest o rows c.first_child.result c.named.result c.first_child.ensures c.named.ensures

use Rattle.std.proofs.Common.{refl, sym, ap}
use Rattle.ac_model.specs.Containers.{Container}
use Rattle.ac_model.proofs.Reasons.{passed}
use Rattle.ac_tree.proofs.Looking.{prev_of_none, prev_looks}
use Rattle.ac_tree.proofs.tree.Tree.previous_sibling.Goals as goal

pub returns-in-None : goal.returns-in-None
returns-in-None g c =
    let i = c.self.inside in let o = c.args.self.now.object in let rows = ap (λ (x : Container _). x.object.rows) (sym c.self.view_is) in
    prev_of_none i.links c.self.invariant.forest o rows c.args.c _ (sym (passed _ _ c.in_ok-allowed.ensures c.may_node.ensures)) c.in-None.ensures refl

pub returns-in-Some : goal.returns-in-Some
returns-in-Some g c =
    let i = c.self.inside in let o = c.args.self.now.object in let rows = ap (λ (x : Container _). x.object.rows) (sym c.self.view_is) in
    prev_looks i.links c.self.invariant.forest o rows c.args.c c.in-Some.name c.prev.result c.named.result (sym (passed _ _ c.in_ok-allowed.ensures c.may_node.ensures)) c.in-Some.ensures c.prev.ensures c.named.ensures

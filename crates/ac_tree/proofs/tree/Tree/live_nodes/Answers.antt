use Rattle.std.proofs.Common.{length, sym, ap, ◌∙◌, arith}
use Rattle.ac_model.specs.Containers.{Container}
use Rattle.ac_tree.specs.TreeFields.{forest_in}
use Rattle.ac_tree.proofs.Places.{size_is}
use Rattle.ac_tree.proofs.tree.Tree.live_nodes.Goals as goal

pub returns-clause-count : goal.returns-clause-count
returns-clause-count g c =
    let i = c.self.inside in let o = c.args.self.now.object in let rows = ap (λ (x : Container _). x.object.rows) (sym c.self.view_is) in
    c.live.ensures.count ∙ sym (ap length rows ∙ size_is 2 (forest_in i.links) ∙ c.self.invariant.forest.count)

pub returns-clause-few : goal.returns-clause-few
returns-clause-few g c =
    let i = c.self.inside in let count = c.live.ensures.count in let size = size_is 2 (forest_in i.links) in let all = c.self.invariant.forest.count in let few = c.self.invariant.sequence.within_greatest in omega arith

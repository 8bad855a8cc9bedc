use Rattle.std.proofs.Common.{◌≡◌, ◌+◌, length, sym, ap, ◌∙◌}
use Rattle.ac_pool.specs.Contents.{live_count}
use Rattle.ac_model.specs.Containers.{Container}
use Rattle.ac_tree.specs.TreeFields.{forest_in}
use Rattle.ac_tree.proofs.Places.{size_is}
use Rattle.ac_tree.proofs.tree.Tree.slots.Goals as goal

pub returns : goal.returns
returns g c =
    let i = c.self.inside in let o = c.args.self.now.object in let rows = ap (λ (x : Container _). x.object.rows) (sym c.self.view_is) in
    let all : live_count i.links.nodes ≡ length o.rows = sym (ap length rows ∙ size_is 2 (forest_in i.links) ∙ c.self.invariant.forest.count) in
    let spare = ap (λ (x : Container _). x.spare) c.self.view_is in
    c.slots.ensures.count ∙ (λ j. all j + spare j)

use Rattle.std.proofs.Common.{sym, ap, ◌∙◌}
use Rattle.ac_model.specs.Containers.{Container}
use Rattle.ac_model.specs.Letters.{judged_in}
use Rattle.ac_tree.proofs.Judging.{judged}
use Rattle.ac_tree.proofs.tree.Tree.judged.Goals as goal

pub returns : goal.returns
returns g c =
    let i = c.self.inside in let o = c.args.self.now.object in let rows = ap (λ (x : Container _). x.object.rows) (sym c.self.view_is) in
    c.judge.ensures ∙ (λ j. judged_in (c.number.ensures j) c.args.object (c.is_node.ensures j)) ∙ judged i.links c.self.invariant.forest o rows c.args.object c.args.name

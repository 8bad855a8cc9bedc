use Rattle.std.proofs.Common.{sym, ap, ◌∙◌}
use Rattle.ac_model.specs.Containers.{Container}
use Rattle.ac_model.specs.Letters.{judged_in, may}
use Rattle.ac_model.specs.Objects.{plain}
use Rattle.ac_model.specs.Trees.{tree_mark}
use Rattle.ac_tree.proofs.Judging.{element_judged}
use Rattle.ac_tree.proofs.tree.Tree.may_element.Goals as goal

pub returns-in-At : goal.returns-in-At
returns-in-At g c =
    let i = c.self.inside in let o = c.args.self.now.object in let rows = ap (λ (x : Container _). x.object.rows) (sym c.self.view_is) in
    c.judge.ensures ∙ (λ j. judged_in (c.number.ensures j) c.in-At.object (c.is_live.ensures j)) ∙ element_judged i.links c.self.invariant.forest o rows c.in-At.object c.in-At.name
    ∙ ap (λ z. may (plain o) (tree_mark o z)) (sym c.in-At.is)

use Rattle.std.proofs.Common.{is_none, sym, ap, ◌∙◌}
use Rattle.ac_model.specs.Containers.{Container}
use Rattle.ac_tree.proofs.Judging.{designated, none_is}
use Rattle.ac_tree.proofs.tree.Tree.has_element.Goals as goal

pub returns : goal.returns
returns g c =
    let i = c.self.inside in let o = c.args.self.now.object in let rows = ap (λ (x : Container _). x.object.rows) (sym c.self.view_is) in
    none_is c.needs_element.result c.is_none.result c.is_none.ensures ∙ ap is_none c.needs_element.ensures ∙ designated i.links c.self.invariant.forest o rows c.args.c

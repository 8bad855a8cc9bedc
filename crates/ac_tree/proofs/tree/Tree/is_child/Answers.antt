use Rattle.std.proofs.Common.{sym, ap, ◌∙◌}
use Rattle.ac_model.specs.Containers.{Container}
use Rattle.ac_tree.proofs.Holes.{is_child_here, no_child_here}
use Rattle.ac_tree.proofs.tree.Tree.is_child.Goals as goal

pub returns-in-None : goal.returns-in-None
returns-in-None g c =
    let i = c.self.inside in let o = c.args.self.now.object in let rows = ap (λ (x : Container _). x.object.rows) (sym c.self.view_is) in
    no_child_here i.links c.self.invariant.forest o rows c.args.parent c.args.before c.requires.parent c.requires.before c.in-None.ensures

pub returns-in-Some : goal.returns-in-Some
returns-in-Some g c =
    let i = c.self.inside in let o = c.args.self.now.object in let rows = ap (λ (x : Container _). x.object.rows) (sym c.self.view_is) in
    let up = c.parent.ensures in let there = c.node_in-in-Some.ensures in
    is_child_here i.links c.self.invariant.forest o rows c.args.parent c.args.before c.in-Some.name c.is_same.result c.requires.parent c.requires.before c.in-Some.ensures
    (λ t. sym up ∙ c.is_same.ensures.0 t ∙ there, λ e. c.is_same.ensures.1 (up ∙ e ∙ sym there))

use Rattle.std.proofs.Common.{is_some, sym, ap, ◌∙◌}
use Rattle.ac_chain.proofs.Chains.{copied_some}
use Rattle.ac_model.specs.Containers.{Container}
use Rattle.ac_tree.proofs.Judging.{live_is}
use Rattle.ac_tree.proofs.tree.Tree.is_live.Goals as goal

pub returns : goal.returns
returns g c =
    let i = c.self.inside in let o = c.args.self.now.object in let rows = ap (λ (x : Container _). x.object.rows) (sym c.self.view_is) in
    c.is_some.ensures ∙ sym (copied_some c.get.result) ∙ ap is_some c.get.ensures ∙ live_is i.links c.self.invariant.forest o rows c.args.name

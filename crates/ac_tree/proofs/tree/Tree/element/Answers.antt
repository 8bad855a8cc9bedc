use Rattle.std.proofs.Common.{sym, ap}
use Rattle.ac_model.specs.Containers.{Container}
use Rattle.ac_model.proofs.Reasons.{passed}
use Rattle.ac_tree.proofs.Looking.{live_needed, element_looks}
use Rattle.ac_tree.proofs.tree.Tree.element.Goals as goal

pub at-requires : goal.at-requires
at-requires g c =
    let i = c.self.inside in let o = c.args.self.now.object in let rows = ap (λ (x : Container _). x.object.rows) (sym c.self.view_is) in
    live_needed i.links c.self.invariant.forest o rows c.args.c c.name_in.result c.name_in.ensures (sym (passed _ _ c.in_ok-allowed.ensures c.needs_element.ensures))

pub returns : goal.returns
returns g c =
    let i = c.self.inside in let o = c.args.self.now.object in let rows = ap (λ (x : Container _). x.object.rows) (sym c.self.view_is) in
    element_looks i.links c.self.invariant.forest o rows c.args.c c.name_in.result c.at.result (sym (passed _ _ c.in_ok-allowed.ensures c.needs_element.ensures)) c.name_in.ensures c.at.ensures

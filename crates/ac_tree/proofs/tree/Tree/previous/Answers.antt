use Rattle.std.proofs.Common.{sym, ap}
use Rattle.ac_model.specs.Containers.{Container}
use Rattle.ac_model.proofs.Reasons.{passed}
use Rattle.ac_tree.proofs.Loops.{next_at, previous_goes}
use Rattle.ac_tree.proofs.tree.Tree.previous.Goals as goal

pub preceding-requires-clause-live : goal.preceding-requires-clause-live
preceding-requires-clause-live g c =
    let i = c.self.inside in let o = c.args.self.now.object in let rows = ap (λ (x : Container _). x.object.rows) (sym c.self.view_is) in
    (next_at i.links c.self.invariant.forest o rows c.args.c c.in-At.object c.in-At.name c.in-At.is (sym (passed _ _ c.in_ok-allowed.ensures c.may_element.ensures))).1

pub returns-in-At : goal.returns-in-At
returns-in-At g c =
    let i = c.self.inside in let o = c.args.self.now.object in let rows = ap (λ (x : Container _). x.object.rows) (sym c.self.view_is) in
    previous_goes i.links c.self.invariant.forest o rows c.args.c c.in-At.object c.in-At.name c.in-At.is c.preceding.result c.named.result (sym (passed _ _ c.in_ok-allowed.ensures c.may_element.ensures)) c.preceding.ensures c.named.ensures

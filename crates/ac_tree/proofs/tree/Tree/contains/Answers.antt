use Rattle.std.proofs.Common.{sym, ap}
use Rattle.std.proofs.lemmas.Option.{none-some}
use Rattle.ac_model.specs.Containers.{Container}
use Rattle.ac_tree.proofs.Searching.{contains_is}
use Rattle.ac_tree.proofs.tree.Tree.contains.Goals as goal

pub found_on-requires-clause-live : goal.found_on-requires-clause-live
found_on-requires-clause-live g c = λ a e. absurd (none-some a e)

pub returns : goal.returns
returns g c =
    let i = c.self.inside in let o = c.args.self.now.object in let rows = ap (λ (x : Container _). x.object.rows) (sym c.self.view_is) in
    contains_is i.links c.self.invariant.forest o rows g.T.Elem.is_same c.args.e.now c.found_on.result c.is_some.result c.found_on.ensures c.is_some.ensures

use Rattle.std.proofs.Common.{sym, ◌∙◌}
use Rattle.ac_tree.proofs.Emptying.{sibling_live, goes_on, goes_up}
use Rattle.ac_tree.proofs.clearing.leaf_after.Goals as goal

pub first_leaf-requires-clause-live : goal.first_leaf-requires-clause-live
first_leaf-requires-clause-live g c = sibling_live c.args.links.now c.requires.forest c.args.name c.requires.live c.next-sibling.result c.next-sibling.ensures

pub returns-then-is_some : goal.returns-then-is_some
returns-then-is_some g c =
    goes_on c.args.links.now c.args.top c.args.name c.next-sibling.result c.first_leaf.result c.next-sibling.ensures (sym c.is_some.ensures ∙ c.if-is_some.true) c.first_leaf.ensures

pub returns-else-is_some : goal.returns-else-is_some
returns-else-is_some g c =
    goes_up c.args.links.now c.args.top c.args.name c.next-sibling.result c.above.result c.next-sibling.ensures (sym c.is_some.ensures ∙ c.if-is_some.false) c.above.ensures.top c.above.ensures.within

use Rattle.std.proofs.Common.{sym, ◌∙◌}
use Rattle.ac_tree.proofs.WalkBack.{last_live, last_end, last_none}
use Rattle.ac_tree.proofs.backward.last_node.Goals as goal

pub end_of-requires-clause-live : goal.end_of-requires-clause-live
end_of-requires-clause-live g c = last_live c.args.links.now c.requires c.in-Some.name (sym c.in-Some.is ∙ c.last_child.ensures)

pub returns-in-Some : goal.returns-in-Some
returns-in-Some g c =
    last_end c.args.links.now c.requires c.in-Some.name c.end_of.result (sym c.in-Some.is ∙ c.last_child.ensures) c.end_of.ensures

pub returns-in-None : goal.returns-in-None
returns-in-None g c = last_none c.args.links.now c.requires (sym c.in-None.is ∙ c.last_child.ensures)

use Rattle.std.proofs.Common.{sym, ◌∙◌}
use Rattle.ac_tree.proofs.WalkBack.{precedes_elder, precedes_parent, elder_live}
use Rattle.ac_tree.proofs.backward.preceding.Goals as goal

pub end_of-requires-clause-live : goal.end_of-requires-clause-live
end_of-requires-clause-live g c =
    elder_live c.args.links.now c.requires.forest c.args.name c.in-Some.elder c.requires.live (sym c.in-Some.is ∙ c.prev.ensures)

pub returns-in-Some : goal.returns-in-Some
returns-in-Some g c =
    precedes_elder c.args.links.now c.args.name c.in-Some.elder c.end_of.result (sym c.in-Some.is ∙ c.prev.ensures) c.end_of.ensures

pub returns-in-None : goal.returns-in-None
returns-in-None g c =
    precedes_parent c.args.links.now c.args.name c.parent.result (sym c.in-None.is ∙ c.prev.ensures) c.parent.ensures

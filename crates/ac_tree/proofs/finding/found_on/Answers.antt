use Rattle.ac_tree.proofs.Searching.{on_hit, on_miss, on_root}
use Rattle.ac_tree.proofs.finding.found_on.Goals as goal

pub at-requires : goal.at-requires
at-requires g c = c.requires.live c.in-Some.name c.in-Some.is

pub returns-then-same : goal.returns-then-same
returns-then-same g c =
    on_hit c.args.links.now c.requires.forest c.args.node c.requires.live c.in-Some.name c.in-Some.is g.T.Elem.is_same c.args.e.now c.at.result.now c.at.ensures c.same.result c.same.ensures c.if-same.true

pub returns-else-same : goal.returns-else-same
returns-else-same g c =
    on_miss c.args.links.now c.requires.forest c.args.node c.requires.live c.in-Some.name c.in-Some.is g.T.Elem.is_same c.args.e.now c.at.result.now c.found_below.result
    c.at.ensures c.same.result c.same.ensures c.if-same.false c.found_below.ensures

pub returns-in-None : goal.returns-in-None
returns-in-None g c = on_root c.args.links.now c.requires.forest c.args.node c.in-None.is g.T.Elem.is_same c.args.e.now c.found_below-in-None.result c.found_below-in-None.ensures

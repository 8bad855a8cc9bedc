use Rattle.std.proofs.Common.{◌∙◌, sym, subst, arith}
use Rattle.ac_tree.specs.declared.links.Links.{Links}
use Rattle.ac_tree.specs.Forests.{plugged}
use Rattle.ac_tree.specs.TreeFields.{IsForest}
use Rattle.ac_tree.proofs.Forests.{is_forest}
use Rattle.ac_tree.proofs.Putting.{row_count}
use Rattle.ac_tree.proofs.Grafts.{graft_fits, hole_ready, planted}
use Rattle.ac_tree.proofs.grafting.put_nodes.Goals as goal

pub reserve-requires : goal.reserve-requires
reserve-requires g c =
    let h = c.requires.hole.hole in let count = row_count c.args.links.now (is_forest c.args.links.now (plugged h.steps h.rest) h.stands) in let few = c.requires.few in let n = c.len.ensures in omega (arith, few, count, n)

pub returns-in_err-reserve-clause-forest : goal.returns-in_err-reserve-clause-forest
returns-in_err-reserve-clause-forest g c =
    let h = c.requires.hole.hole in subst (λ (m : Links _). IsForest m) (sym c.in_err-reserve.ensures.err) (is_forest c.args.links.now (plugged h.steps h.rest) h.stands)

pub graft-requires-clause-hole : goal.graft-requires-clause-hole
graft-requires-clause-hole g c =
    hole_ready c.args.links.now c.reserve.new.self c.args.parent c.args.before c.len.result c.args.first c.args.items.items c.in_ok-reserve.ensures.ok (c.len.ensures ∙ c.args.items.ok.0) c.requires.hole

pub graft-requires-clause-spare : goal.graft-requires-clause-spare
graft-requires-clause-spare g c =
    (graft_fits c.args.links.now c.reserve.new.self c.args.parent c.args.before c.len.result c.args.first c.args.items.items c.in_ok-reserve.ensures.ok (c.len.ensures ∙ c.args.items.ok.0) c.requires.hole.hole).0

pub graft-requires-clause-unspent : goal.graft-requires-clause-unspent
graft-requires-clause-unspent g c =
    let next = (graft_fits c.args.links.now c.reserve.new.self c.args.parent c.args.before c.len.result c.args.first c.args.items.items c.in_ok-reserve.ensures.ok (c.len.ensures ∙ c.args.items.ok.0) c.requires.hole.hole).1 in
    let few = c.requires.unspent in omega (arith, next, few)

pub returns-clause-planted : goal.returns-clause-planted
returns-clause-planted g c =
    planted c.args.links.now c.reserve.new.self c.args.parent c.args.before c.len.result c.args.first c.args.items.items c.in_ok-reserve.ensures.ok (c.len.ensures ∙ c.args.items.ok.0) c.graft.new.links c.graft.result c.graft.ensures

pub returns-clause-forest : goal.returns-clause-forest
returns-clause-forest g c =
    let h = hole_ready c.args.links.now c.reserve.new.self c.args.parent c.args.before c.len.result c.args.first c.args.items.items c.in_ok-reserve.ensures.ok (c.len.ensures ∙ c.args.items.ok.0) c.requires.hole in
    (c.graft.ensures h.hole h.deep).forest

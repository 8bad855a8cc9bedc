use Rattle.ac_tree.proofs.Emptying.{top_live, empty_start, empty_now, empty_more, empty_end}
use Rattle.ac_tree.proofs.clearing.remove_below.Goals as goal

pub first_leaf-place-requires-clause-live : goal.first_leaf-place-requires-clause-live
first_leaf-place-requires-clause-live g c = top_live c.args.links.now c.requires.forest c.args.top c.requires.live c.first_child-first.result c.first_child-first.ensures

pub loop-place-init : goal.loop-place-init
loop-place-init g c = empty_start c.args.links.now c.args.top c.first_child-first.result c.first_leaf-place.result c.first_child-first.ensures c.first_leaf-place.ensures

pub leaf_after-place-requires-clause-forest : goal.leaf_after-place-requires-clause-forest
leaf_after-place-requires-clause-forest g c = (empty_now c.args.links.now c.requires.forest c.args.top c.requires.live c.loop-place.links c.loop-place.place c.loop-place.invariant c.in-Some.name c.in-Some.is).forest

pub leaf_after-place-requires-clause-live : goal.leaf_after-place-requires-clause-live
leaf_after-place-requires-clause-live g c = (empty_now c.args.links.now c.requires.forest c.args.top c.requires.live c.loop-place.links c.loop-place.place c.loop-place.invariant c.in-Some.name c.in-Some.is).live

pub loop-place-smaller : goal.loop-place-smaller
loop-place-smaller g c =
    (empty_now c.args.links.now c.requires.forest c.args.top c.requires.live c.loop-place.links c.loop-place.place c.loop-place.invariant c.in-Some.name c.in-Some.is).less c.remove.new.self c.remove.ensures

pub loop-place-preserved : goal.loop-place-preserved
loop-place-preserved g c =
    empty_more c.args.links.now c.loop-place.links c.remove.new.self c.args.top c.loop-place.place c.leaf_after-place.result c.in-Some.name c.loop-place.invariant c.in-Some.is c.leaf_after-place.ensures c.remove.ensures

pub returns : goal.returns
returns g c = empty_end c.args.links.now c.loop-place.links c.args.top c.loop-place.place c.loop-place.invariant c.in_default.is

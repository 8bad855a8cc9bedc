use Rattle.ac_tree.proofs.Emptying.{descend_start, descend_less, descend_more, descend_end}
use Rattle.ac_tree.proofs.clearing.first_leaf.Goals as goal

pub loop-place-init : goal.loop-place-init
loop-place-init g c = descend_start c.args.links.now c.args.from c.requires.live

pub loop-place-smaller : goal.loop-place-smaller
loop-place-smaller g c =
    descend_less c.args.links.now c.requires.forest c.args.from c.loop-place.leaf c.loop-place.place c.loop-place.invariant c.in-Some.name c.in-Some.is c.first_child-place.result c.first_child-place.ensures

pub loop-place-preserved : goal.loop-place-preserved
loop-place-preserved g c =
    descend_more c.args.links.now c.requires.forest c.args.from c.loop-place.leaf c.loop-place.place c.loop-place.invariant c.in-Some.name c.in-Some.is c.first_child-place.result c.first_child-place.ensures

pub returns : goal.returns
returns g c = descend_end c.args.links.now c.args.from c.loop-place.leaf c.loop-place.place c.loop-place.invariant c.in_default.is

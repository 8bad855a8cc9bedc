use Rattle.std.proofs.Common.{refl, subst, arith}
use Rattle.ac_tree.specs.TreeFields.{parent_of}
use Rattle.ac_tree.proofs.Counting.{Depth_counted, depth_start, depth_more, depth_few, depth_end}
use Rattle.ac_tree.proofs.counts.depth.Goals as goal

pub loop-place-init : goal.loop-place-init
loop-place-init g c = depth_start c.args.links.now c.args.node c.requires.live

pub overflow_add-depth : goal.overflow_add-depth
overflow_add-depth g c =
    let l = c.args.links.now in let few = c.requires.forest.sound.few in let most = depth_few l c.requires.forest c.args.node c.requires.live in
    let below = (depth_more l c.requires.forest c.args.node c.requires.live c.loop-place.place c.loop-place.depth c.loop-place.invariant c.in-Some.name c.in-Some.is (parent_of l c.in-Some.name) refl).1 in
    record { fits = omega (arith, few, most, below) }

pub loop-place-smaller : goal.loop-place-smaller
loop-place-smaller g c =
    (depth_more c.args.links.now c.requires.forest c.args.node c.requires.live c.loop-place.place c.loop-place.depth c.loop-place.invariant c.in-Some.name c.in-Some.is c.parent-place.result c.parent-place.ensures).2

pub loop-place-preserved : goal.loop-place-preserved
loop-place-preserved g c =
    (depth_more c.args.links.now c.requires.forest c.args.node c.requires.live c.loop-place.place c.loop-place.depth c.loop-place.invariant c.in-Some.name c.in-Some.is c.parent-place.result c.parent-place.ensures).0

pub returns-clause-depth : goal.returns-clause-depth
returns-clause-depth g c =
    let l = c.args.links.now in depth_end l c.args.node c.loop-place.depth (subst (λ p. Depth_counted l c.args.node p c.loop-place.depth) c.in_default.is c.loop-place.invariant)

pub returns-clause-few : goal.returns-clause-few
returns-clause-few g c =
    let l = c.args.links.now in let few = c.requires.forest.sound.few in let most = depth_few l c.requires.forest c.args.node c.requires.live in
    let is = depth_end l c.args.node c.loop-place.depth (subst (λ p. Depth_counted l c.args.node p c.loop-place.depth) c.in_default.is c.loop-place.invariant) in omega (arith, few, most, is)

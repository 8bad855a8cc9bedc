use Rattle.std.proofs.Common.{subst, arith}
use Rattle.ac_tree.proofs.Following.{Subtree_counted, counted_start, subtree_most, subtree_below, subtree_live, subtree_more, subtree_end}
use Rattle.ac_tree.proofs.counts.count_subtree.Goals as goal

pub loop-place-init : goal.loop-place-init
loop-place-init g c = counted_start c.args.links.now c.requires.forest c.args.node c.requires.live c.first_child-place.result c.first_child-place.ensures

pub overflow_add-count : goal.overflow_add-count
overflow_add-count g c =
    let l = c.args.links.now in let few = c.requires.forest.sound.few in
    let most = (subtree_most l c.args.node c.loop-place.place c.loop-place.count c.loop-place.invariant).1 in
    let below = (subtree_below l c.args.node c.loop-place.place c.loop-place.count c.loop-place.invariant c.in-Some.name c.in-Some.is).0 in record { fits = omega (arith, few, most, below) }

pub following-place-requires-clause-live : goal.following-place-requires-clause-live
following-place-requires-clause-live g c = subtree_live c.args.links.now c.args.node c.loop-place.place c.loop-place.count c.loop-place.invariant c.in-Some.name c.in-Some.is

pub loop-place-smaller : goal.loop-place-smaller
loop-place-smaller g c = (subtree_below c.args.links.now c.args.node c.loop-place.place c.loop-place.count c.loop-place.invariant c.in-Some.name c.in-Some.is).1

pub loop-place-preserved : goal.loop-place-preserved
loop-place-preserved g c =
    subtree_more c.args.links.now c.args.node c.loop-place.place c.loop-place.count c.loop-place.invariant c.in-Some.name c.in-Some.is c.following-place.result c.following-place.ensures

pub returns-clause-count : goal.returns-clause-count
returns-clause-count g c =
    let l = c.args.links.now in subtree_end l c.args.node c.loop-place.count (subst (λ p. Subtree_counted l c.args.node p c.loop-place.count) c.in_default.is c.loop-place.invariant)

pub returns-clause-few : goal.returns-clause-few
returns-clause-few g c =
    let few = c.requires.forest.sound.few in let most = subtree_most c.args.links.now c.args.node c.loop-place.place c.loop-place.count c.loop-place.invariant in
    let one = most.0 in let two = most.1 in omega (arith, few, one, two)

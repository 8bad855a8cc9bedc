use Rattle.std.proofs.Common.{refl, subst, arith}
use Rattle.ac_tree.specs.TreeFields.{next_of}
use Rattle.ac_tree.proofs.Counting.{Children_counted, children_start, children_more, children_most, children_end}
use Rattle.ac_tree.proofs.counts.count_children.Goals as goal

pub loop-place-init : goal.loop-place-init
loop-place-init g c = children_start c.args.links.now c.requires.forest c.args.parent c.requires.live c.first_child-place.result c.first_child-place.ensures

pub overflow_add-count : goal.overflow_add-count
overflow_add-count g c =
    let l = c.args.links.now in let few = c.requires.forest.sound.few in
    let below = (children_more l c.args.parent c.loop-place.place c.loop-place.count c.loop-place.invariant c.in-Some.name c.in-Some.is (next_of l c.in-Some.name) refl).1 in record { fits = omega (arith, few, below) }

pub loop-place-smaller : goal.loop-place-smaller
loop-place-smaller g c = (children_more c.args.links.now c.args.parent c.loop-place.place c.loop-place.count c.loop-place.invariant c.in-Some.name c.in-Some.is c.next-place.result c.next-place.ensures).2

pub loop-place-preserved : goal.loop-place-preserved
loop-place-preserved g c = (children_more c.args.links.now c.args.parent c.loop-place.place c.loop-place.count c.loop-place.invariant c.in-Some.name c.in-Some.is c.next-place.result c.next-place.ensures).0

pub returns-clause-count : goal.returns-clause-count
returns-clause-count g c =
    let l = c.args.links.now in children_end l c.args.parent c.loop-place.count (subst (λ p. Children_counted l c.args.parent p c.loop-place.count) c.in_default.is c.loop-place.invariant)

pub returns-clause-few : goal.returns-clause-few
returns-clause-few g c =
    let few = c.requires.forest.sound.few in let most = children_most c.args.links.now c.args.parent c.loop-place.place c.loop-place.count c.loop-place.invariant in omega (arith, few, most)

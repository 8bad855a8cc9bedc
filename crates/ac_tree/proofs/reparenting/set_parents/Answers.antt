use Rattle.ac_tree.proofs.Holes.{under_of}
use Rattle.ac_tree.proofs.ReparentedLinks.{reparent_start, reparent_more, reparent_less, reparent_end}
use Rattle.ac_tree.proofs.reparenting.set_parents.Goals as goal

pub loop-place-init : goal.loop-place-init
loop-place-init g c = λ steps below s up none. reparent_start c.args.links.now c.args.from c.args.parent c.first_child-place.result c.first_child-place.ensures steps below s up none

pub loop-place-smaller : goal.loop-place-smaller
loop-place-smaller g c =
    let u = under_of c.args.links.now c.requires.forest c.args.from c.requires.live in let w = c.loop-place in
    reparent_less c.args.links.now w.links c.args.parent w.place c.next-place.result u.below c.in-Some.name (w.invariant u.steps u.below u.stands u.parent_is u.none_before) c.in-Some.is c.next-place.ensures

pub loop-place-preserved : goal.loop-place-preserved
loop-place-preserved g c = λ steps below s up none.
    let w = c.loop-place in
    reparent_more c.args.links.now w.links c.set_parent.new.self c.args.parent w.place c.next-place.result below c.in-Some.name (w.invariant steps below s up none) c.in-Some.is c.next-place.ensures c.set_parent.ensures

pub returns : goal.returns
returns g c = λ steps below s up none.
    let w = c.loop-place in reparent_end c.args.links.now w.links c.args.parent w.place below (w.invariant steps below s up none) c.in_default.is

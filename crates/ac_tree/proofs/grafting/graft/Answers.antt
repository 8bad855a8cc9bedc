use Rattle.std.proofs.Common.{◌≡◌, [], rules, arith}
use Rattle.ac_tree.proofs.Counting.{depth_low}
use Rattle.ac_tree.proofs.Grafts.{graft_start, graft_few, graft_small, graft_room, graft_more, graft_end}
use Rattle.ac_tree.proofs.grafting.graft.Goals as goal

pub overflow_sub-depth : goal.overflow_sub-depth
overflow_sub-depth g c = let h = c.requires.hole in let low = depth_low h.hole.steps in let is = h.deep in omega (arith, low, is)

pub loop-item-init : goal.loop-item-init
loop-item-init g c = λ h is. graft_start c.args.links.now c.args.parent c.args.before h c.args.items.items c.args.first is c.requires.forest

pub overflow_add-depth : goal.overflow_add-depth
overflow_add-depth g c =
    let h = c.requires.hole.hole in let w = c.loop-item in let k = w.invariant h c.requires.hole.deep in let few = k.level.hole.stands.sound.few in
    let small = graft_small c.args.links.now c.args.parent c.args.before h c.args.items.items w.links w.node w.depth w.made w.items.items c.pop.new.self.items c.in-Some.item k c.in-Some.ensures.items in
    record { fits = omega (arith, few, small) }

pub overflow_sub-depth-in-Some : goal.overflow_sub-depth-in-Some
overflow_sub-depth-in-Some g c =
    let h = c.requires.hole.hole in let w = c.loop-item in let k = w.invariant h c.requires.hole.deep in
    graft_few c.args.links.now c.args.parent c.args.before h c.args.items.items w.links w.node w.depth w.made w.items.items c.pop.new.self.items c.in-Some.item k c.in-Some.ensures.items

pub insert-name-requires-clause-spare : goal.insert-name-requires-clause-spare
insert-name-requires-clause-spare g c =
    let h = c.requires.hole.hole in let w = c.loop-item in let k = w.invariant h c.requires.hole.deep in
    (graft_room c.args.links.now c.args.parent c.args.before h c.args.items.items w.links w.node w.depth w.made w.items.items c.pop.new.self.items c.in-Some.item k c.in-Some.ensures.items c.requires.spare c.requires.unspent).0

pub insert-name-requires-clause-unspent : goal.insert-name-requires-clause-unspent
insert-name-requires-clause-unspent g c =
    let h = c.requires.hole.hole in let w = c.loop-item in let k = w.invariant h c.requires.hole.deep in
    (graft_room c.args.links.now c.args.parent c.args.before h c.args.items.items w.links w.node w.depth w.made w.items.items c.pop.new.self.items c.in-Some.item k c.in-Some.ensures.items c.requires.spare c.requires.unspent).1

pub loop-item-preserved : goal.loop-item-preserved
loop-item-preserved g c = λ h is.
    let w = c.loop-item in let k = w.invariant h is in
    let room = graft_room c.args.links.now c.args.parent c.args.before h c.args.items.items w.links w.node w.depth w.made w.items.items c.pop.new.self.items c.in-Some.item k c.in-Some.ensures.items c.requires.spare c.requires.unspent in
    graft_more c.args.links.now c.args.parent c.args.before h c.args.items.items w.links w.node w.depth w.made w.items.items c.pop.new.self.items c.in-Some.item k c.in-Some.ensures.items
    _ c.args.first is c.raised-above.result c.before_at.result c.insert-name.result c.raised-above.ensures c.before_at.ensures c.insert-name.ensures c.first_made-made.result c.first_made-made.ensures room.0

pub returns : goal.returns
returns g c = λ h is.
    let w = c.loop-item in let none : w.items.items ≡ [] = search rules in
    graft_end c.args.links.now c.args.parent c.args.before h c.args.items.items w.links w.node w.depth w.made w.items.items (w.invariant h is) none

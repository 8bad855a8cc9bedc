use Rattle.std.proofs.Common.{◌≡◌, [], rules, arith}
use Rattle.ac_tree.proofs.Putting.{growing_start, growing_more, growing_room, growing_end}
use Rattle.ac_tree.proofs.growing.put_each.Goals as goal

pub loop-value-init : goal.loop-value-init
loop-value-init g c =
    let put = c.insert-name in let room = c.requires.spare in
    growing_start c.args.links.now c.args.parent c.args.before c.args.first c.args.others.items put.new.self put.result (omega arith) put.ensures

pub insert-requires-clause-spare : goal.insert-requires-clause-spare
insert-requires-clause-spare g c =
    (growing_room c.args.links.now c.args.parent c.args.before c.requires.hole c.args.first c.in-Some.value c.args.others.items c.loop-value.others.items c.pop.new.self.items c.loop-value.links _
    (c.loop-value.invariant c.requires.hole) c.in-Some.ensures.items c.requires.spare c.requires.unspent).0

pub insert-requires-clause-unspent : goal.insert-requires-clause-unspent
insert-requires-clause-unspent g c =
    (growing_room c.args.links.now c.args.parent c.args.before c.requires.hole c.args.first c.in-Some.value c.args.others.items c.loop-value.others.items c.pop.new.self.items c.loop-value.links _
    (c.loop-value.invariant c.requires.hole) c.in-Some.ensures.items c.requires.spare c.requires.unspent).1

pub loop-value-preserved : goal.loop-value-preserved
loop-value-preserved g c = λ h.
    let room = growing_room c.args.links.now c.args.parent c.args.before h c.args.first c.in-Some.value c.args.others.items c.loop-value.others.items c.pop.new.self.items c.loop-value.links _
    (c.loop-value.invariant h) c.in-Some.ensures.items c.requires.spare c.requires.unspent in
    growing_more c.args.links.now c.args.parent c.args.before h _ c.loop-value.others.items c.pop.new.self.items c.loop-value.links c.insert.new.self _ c.insert.result c.in-Some.value
    (c.loop-value.invariant h) c.in-Some.ensures.items room.0 c.insert.ensures

pub returns : goal.returns
returns g c = λ h.
    let none : c.loop-value.others.items ≡ [] = search rules in
    growing_end c.args.links.now c.args.parent c.args.before h _ c.loop-value.others.items c.loop-value.links _ (c.loop-value.invariant h) none

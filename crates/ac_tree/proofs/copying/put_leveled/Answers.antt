use Rattle.std.proofs.Common.{◌≡◌, [], refl, rules, arith}
use Rattle.ac_tree.proofs.Refilling.{filling_start, next_of_stack, filling_room, filling_more, filling_end}
use Rattle.ac_tree.proofs.copying.put_leveled.Goals as goal

pub loop-item-init : goal.loop-item-init
loop-item-init g c = filling_start c.args.links.now c.args.items.items c.requires.empty c.requires.outline

pub overflow_add-depth : goal.overflow_add-depth
overflow_add-depth g c =
    let k = c.loop-item.invariant in let few = k.ending.stands.sound.few in
    let small = (next_of_stack c.args.links.now c.args.items.items c.loop-item.links c.loop-item.node c.loop-item.depth c.loop-item.items.items c.pop.new.self.items c.in-Some.item k c.in-Some.ensures.items).small in
    record { fits = omega (arith, few, small) }

pub overflow_sub-depth : goal.overflow_sub-depth
overflow_sub-depth g c = (next_of_stack c.args.links.now c.args.items.items c.loop-item.links c.loop-item.node c.loop-item.depth c.loop-item.items.items c.pop.new.self.items c.in-Some.item c.loop-item.invariant c.in-Some.ensures.items).few

pub insert-requires-clause-spare : goal.insert-requires-clause-spare
insert-requires-clause-spare g c = (
    filling_room c.args.links.now c.args.items.items c.loop-item.links c.loop-item.node c.loop-item.depth c.loop-item.items.items c.pop.new.self.items c.in-Some.item c.loop-item.invariant c.in-Some.ensures.items c.requires.spare c.requires.unspent
    ).0

pub insert-requires-clause-unspent : goal.insert-requires-clause-unspent
insert-requires-clause-unspent g c = (
    filling_room c.args.links.now c.args.items.items c.loop-item.links c.loop-item.node c.loop-item.depth c.loop-item.items.items c.pop.new.self.items c.in-Some.item c.loop-item.invariant c.in-Some.ensures.items c.requires.spare c.requires.unspent
    ).1

pub loop-item-preserved : goal.loop-item-preserved
loop-item-preserved g c =
    filling_more c.args.links.now c.args.items.items c.loop-item.links c.insert.new.self c.loop-item.node c.loop-item.depth c.loop-item.items.items c.pop.new.self.items c.in-Some.item c.loop-item.invariant c.in-Some.ensures.items
    _ refl c.raised-parent.result c.raised-parent.ensures c.insert.result c.insert.ensures c.requires.spare

pub returns-clause-forest : goal.returns-clause-forest
returns-clause-forest g c =
    let none : c.loop-item.items.items ≡ [] = search rules in (filling_end c.args.links.now c.args.items.items c.loop-item.links c.loop-item.node c.loop-item.depth c.loop-item.items.items c.loop-item.invariant none).forest

pub returns-clause-rows : goal.returns-clause-rows
returns-clause-rows g c =
    let none : c.loop-item.items.items ≡ [] = search rules in (filling_end c.args.links.now c.args.items.items c.loop-item.links c.loop-item.node c.loop-item.depth c.loop-item.items.items c.loop-item.invariant none).rows

pub returns-clause-next : goal.returns-clause-next
returns-clause-next g c =
    let none : c.loop-item.items.items ≡ [] = search rules in (filling_end c.args.links.now c.args.items.items c.loop-item.links c.loop-item.node c.loop-item.depth c.loop-item.items.items c.loop-item.invariant none).next

pub returns-clause-spare : goal.returns-clause-spare
returns-clause-spare g c =
    let none : c.loop-item.items.items ≡ [] = search rules in (filling_end c.args.links.now c.args.items.items c.loop-item.links c.loop-item.node c.loop-item.depth c.loop-item.items.items c.loop-item.invariant none).spare

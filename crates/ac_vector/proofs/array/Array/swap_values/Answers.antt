use Rattle.ac_vector.proofs.Rewrites.{swapped_array, swapped_itself}
use Rattle.ac_vector.proofs.Slots.{slotted}
use Rattle.ac_vector.proofs.array.Array.swap_values.Goals as goal

pub invariant_of-self : goal.invariant_of-self
invariant_of-self g c =
    (slotted (swapped_array c.self.invariant.array c.self.view_is c.args.a c.args.b c.index_of-first.result c.index_of-second.result c.index_of-first.ensures.index c.index_of-second.ensures.index
    c.requires.a c.requires.b c.swap.new.self.items _ c.swap.ensures.items c.swap.ensures.capacity) _ c.self.invariant.slots).invariant

pub returns-clause-swapped : goal.returns-clause-swapped
returns-clause-swapped g c =
    (slotted (swapped_array c.self.invariant.array c.self.view_is c.args.a c.args.b c.index_of-first.result c.index_of-second.result c.index_of-first.ensures.index c.index_of-second.ensures.index
    c.requires.a c.requires.b c.swap.new.self.items _ c.swap.ensures.items c.swap.ensures.capacity) _ c.self.invariant.slots).view

pub returns-clause-itself : goal.returns-clause-itself
returns-clause-itself g c =
    swapped_itself c.self.invariant.array c.self.view_is c.args.a c.args.b c.index_of-first.result c.index_of-second.result c.index_of-first.ensures.index c.index_of-second.ensures.index
    c.requires.a c.requires.b c.swap.new.self.items _ c.swap.ensures.items c.swap.ensures.capacity

pub returns-clause-sound : goal.returns-clause-sound
returns-clause-sound g c =
    (slotted (swapped_array c.self.invariant.array c.self.view_is c.args.a c.args.b c.index_of-first.result c.index_of-second.result c.index_of-first.ensures.index c.index_of-second.ensures.index
    c.requires.a c.requires.b c.swap.new.self.items _ c.swap.ensures.items c.swap.ensures.capacity) _ c.self.invariant.slots).sound

use Rattle.ac_vector.proofs.Slots.{cleared_slots}
use Rattle.ac_vector.proofs.array.Array.clear.Goals as goal

pub invariant_of-self : goal.invariant_of-self
invariant_of-self g c =
    (cleared_slots c.self.invariant c.self.view_is c.clear-2.new.self.items c.clear.new.self.items c.clear-3.new.self _ _ c.clear-2.ensures.items c.clear.ensures.items c.clear-3.ensures.cleared c.clear-3.ensures.sound c.clear-2.ensures.capacity c.clear.ensures.capacity).invariant

pub returns-clause-cleared : goal.returns-clause-cleared
returns-clause-cleared g c =
    (cleared_slots c.self.invariant c.self.view_is c.clear-2.new.self.items c.clear.new.self.items c.clear-3.new.self _ _ c.clear-2.ensures.items c.clear.ensures.items c.clear-3.ensures.cleared c.clear-3.ensures.sound c.clear-2.ensures.capacity c.clear.ensures.capacity).view

pub returns-clause-sound : goal.returns-clause-sound
returns-clause-sound g c =
    (cleared_slots c.self.invariant c.self.view_is c.clear-2.new.self.items c.clear.new.self.items c.clear-3.new.self _ _ c.clear-2.ensures.items c.clear.ensures.items c.clear-3.ensures.cleared c.clear-3.ensures.sound c.clear-2.ensures.capacity c.clear.ensures.capacity).sound

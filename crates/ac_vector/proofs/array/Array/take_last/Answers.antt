use Rattle.ac_vector.proofs.Slots.{popped_slots}
use Rattle.ac_vector.proofs.Drains.{popped_value}
use Rattle.ac_vector.proofs.array.Array.take_last.Goals as goal

pub invariant_of-self : goal.invariant_of-self
invariant_of-self g c =
    let ns = c.pop-slot in let vs = c.pop-value in let q = c.take-place in
    (popped_slots c.self.invariant c.self.view_is c.args.name c.requires ns.new.self.items vs.new.self.items q.new.self _ _ _ _ c.self.inside.slots.ok.0 ns.ensures.rest c.self.inside.values.ok.0 vs.ensures.rest
    q.ensures.taken q.ensures.sound ns.ensures.capacity vs.ensures.capacity).invariant

pub returns-clause-removed : goal.returns-clause-removed
returns-clause-removed g c =
    let ns = c.pop-slot in let vs = c.pop-value in let q = c.take-place in
    (popped_slots c.self.invariant c.self.view_is c.args.name c.requires ns.new.self.items vs.new.self.items q.new.self _ _ _ _ c.self.inside.slots.ok.0 ns.ensures.rest c.self.inside.values.ok.0 vs.ensures.rest
    q.ensures.taken q.ensures.sound ns.ensures.capacity vs.ensures.capacity).view

pub returns-clause-sound : goal.returns-clause-sound
returns-clause-sound g c =
    let ns = c.pop-slot in let vs = c.pop-value in let q = c.take-place in
    (popped_slots c.self.invariant c.self.view_is c.args.name c.requires ns.new.self.items vs.new.self.items q.new.self _ _ _ _ c.self.inside.slots.ok.0 ns.ensures.rest c.self.inside.values.ok.0 vs.ensures.rest
    q.ensures.taken q.ensures.sound ns.ensures.capacity vs.ensures.capacity).sound

pub returns-clause-value : goal.returns-clause-value
returns-clause-value g c =
    let vs = c.pop-value in
    popped_value c.self.invariant.array c.self.view_is c.args.name c.requires vs.new.self.items vs.result _ vs.ensures.items c.self.inside.values.ok.0 vs.ensures.rest

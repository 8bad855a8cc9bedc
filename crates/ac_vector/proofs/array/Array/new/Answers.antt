use Rattle.std.proofs.Common.{arith}
use Rattle.ac_vector.proofs.Slots.{emptied_slots}
use Rattle.ac_vector.proofs.array.Array.new.Goals as goal

pub invariant_of-result : goal.invariant_of-result
invariant_of-result g c = (emptied_slots c.new-2.result.items c.new.result.items c.new-3.result _ _ 1 0 c.new-2.ensures.items c.new.ensures.items c.new-3.ensures.empty c.new-3.ensures.sound (omega arith) (omega arith)).invariant

pub returns-clause-empty : goal.returns-clause-empty
returns-clause-empty g c = (emptied_slots c.new-2.result.items c.new.result.items c.new-3.result 0 0 1 0 c.new-2.ensures.items c.new.ensures.items c.new-3.ensures.empty c.new-3.ensures.sound (omega arith) (omega arith)).view

pub returns-clause-sound : goal.returns-clause-sound
returns-clause-sound g c = (emptied_slots c.new-2.result.items c.new.result.items c.new-3.result 0 0 1 0 c.new-2.ensures.items c.new.ensures.items c.new-3.ensures.empty c.new-3.ensures.sound (omega arith) (omega arith)).sound

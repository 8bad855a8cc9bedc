use Rattle.ac_vector.proofs.Rewrites.{placed_array, there_array}
use Rattle.ac_vector.proofs.Slots.{slotted}
use Rattle.ac_vector.proofs.array.Array.set_at.Goals as goal

pub invariant_of-self : goal.invariant_of-self
invariant_of-self g c = (slotted (there_array c.self.invariant.array c.self.view_is c.args.place c.args.v c.requires).1 _ c.self.invariant.slots).invariant

pub returns-clause-written : goal.returns-clause-written
returns-clause-written g c = λ a e. (slotted (placed_array c.self.invariant.array c.self.view_is a c.args.place c.args.v e) _ c.self.invariant.slots).view

pub returns-clause-sound : goal.returns-clause-sound
returns-clause-sound g c = (slotted (there_array c.self.invariant.array c.self.view_is c.args.place c.args.v c.requires).1 _ c.self.invariant.slots).sound

use Rattle.std.proofs.Common.{refl}
use Rattle.ac_chain.proofs.Deletes.{none_last}
use Rattle.ac_vector.proofs.Arrays.{old_sound}
use Rattle.ac_vector.proofs.Drains.{popped_last}
use Rattle.ac_vector.proofs.array.Array.pop.Goals as goal

pub returns-in-Some-clause-popped : goal.returns-in-Some-clause-popped
returns-in-Some-clause-popped g c =
    popped_last c.args.self.now c.take_last.new.self c.in-Some.name c.take_last.result (old_sound c.self.invariant.array c.self.view_is) c.in-Some.ensures.name c.take_last.ensures.value c.take_last.ensures.removed

pub returns-in-None-clause-popped : goal.returns-in-None-clause-popped
returns-in-None-clause-popped g c = (none_last c.args.self.now.rows c.in-None.ensures.name, refl)

pub returns-in-None-clause-sound : goal.returns-in-None-clause-sound
returns-in-None-clause-sound g c = old_sound c.self.invariant.array c.self.view_is

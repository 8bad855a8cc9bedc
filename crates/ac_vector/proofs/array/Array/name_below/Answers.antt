use Rattle.ac_vector.proofs.Arrays.{old_sound}
use Rattle.ac_vector.proofs.array.Array.name_below.Goals as goal

pub returns-then-place-eq0-clause-sound : goal.returns-then-place-eq0-clause-sound
returns-then-place-eq0-clause-sound g c = old_sound c.self.invariant.array c.self.view_is

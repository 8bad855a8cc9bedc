use Rattle.std.proofs.Common.{◌∙◌}
use Rattle.ac_vector.proofs.Arrays.{old_stands}
use Rattle.ac_vector.proofs.array.Array.values.Goals as goal

pub returns : goal.returns
returns g c = record { values = c.as_slice.ensures.value ∙ (old_stands c.self.invariant.array c.self.view_is).valued }

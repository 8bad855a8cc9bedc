use Rattle.std.proofs.Common.{◌∙◌}
use Rattle.ac_vector.proofs.Arrays.{old_stands, old_sound, length_values}
use Rattle.ac_vector.proofs.array.ArrayWalked.len.Goals as goal

pub returns-clause-count : goal.returns-clause-count
returns-clause-count g c = c.len.ensures ∙ c.self.inside.values.ok.0 ∙ length_values (old_stands c.self.invariant.array c.self.view_is)

pub returns-clause-sound : goal.returns-clause-sound
returns-clause-sound g c = old_sound c.self.invariant.array c.self.view_is

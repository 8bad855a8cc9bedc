use Rattle.std.proofs.Common.{subst}
use Rattle.ac_chain.specs.Rows.{IsSound}
use Rattle.ac_vector.proofs.Arrays.{sound_of}
use Rattle.ac_vector.proofs.array.Array.spare.Goals as goal

pub returns-clause-sound : goal.returns-clause-sound
returns-clause-sound g c = subst (λ x. IsSound x) c.self.view_is (sound_of c.self.invariant.array.stands)

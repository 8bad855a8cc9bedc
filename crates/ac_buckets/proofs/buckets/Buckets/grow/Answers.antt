use Rattle.std.proofs.Common.{subst}
use Rattle.ac_buckets.specs.Pairs.{IsSound}
use Rattle.ac_buckets.proofs.Bucketing.{sound}
use Rattle.ac_buckets.proofs.buckets.Buckets.grow.Goals as goal

pub returns-then-wanted-len-clause-sound : goal.returns-then-wanted-len-clause-sound
returns-then-wanted-len-clause-sound c = subst IsSound c.self.view_is (sound _ _ _ c.self.invariant)

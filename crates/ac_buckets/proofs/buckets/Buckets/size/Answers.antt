use Rattle.std.proofs.Common.{subst}
use Rattle.ac_buckets.specs.Pairs.{IsSound}
use Rattle.ac_buckets.proofs.Bucketing.{sound}
use Rattle.ac_buckets.proofs.buckets.Buckets.size.Goals as goal

pub returns-clause-sound : goal.returns-clause-sound
returns-clause-sound c = subst IsSound c.self.view_is (sound _ _ _ c.self.invariant)

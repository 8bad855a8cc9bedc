use Rattle.std.proofs.Common.{vec_capacity, rules}
use Rattle.ac_buckets.proofs.Bucketing.{sound}
use Rattle.ac_buckets.proofs.buckets.Buckets.clear.Goals as goal

pub returns-clause-sound : goal.returns-clause-sound
returns-clause-sound c = sound c.clear.new.self.items c.fill.new.self.items (vec_capacity c.clear.new.self) (search rules)

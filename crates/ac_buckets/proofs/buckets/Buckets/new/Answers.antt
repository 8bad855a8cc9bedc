use Rattle.std.proofs.Common.{vec_capacity}
use Rattle.ac_buckets.proofs.Bucketing.{sound, IsBuckets-none}
use Rattle.ac_buckets.proofs.buckets.Buckets.new.Goals as goal

pub invariant_of-result : goal.invariant_of-result
invariant_of-result c = IsBuckets-none _ _ _ c.new-2.ensures.items c.new.ensures.items

pub returns-clause-sound : goal.returns-clause-sound
returns-clause-sound c = sound c.new-2.result.items c.new.result.items (vec_capacity c.new-2.result) (IsBuckets-none _ _ _ c.new-2.ensures.items c.new.ensures.items)

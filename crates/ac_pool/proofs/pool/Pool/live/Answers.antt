use Rattle.std.proofs.Common.{arith, vec_capacity}
use Rattle.ac_pool.proofs.Entries.{len-entries_in}
use Rattle.ac_pool.proofs.Pooled.{sound, empty_count_within}
use Rattle.ac_pool.proofs.pool.Pool.live.Goals as goal

pub returns-clause-sound : goal.returns-clause-sound
returns-clause-sound g c = let a = c.self.inside in rw (← c.self.view_is) (sound a.slots a.free.items (vec_capacity a.free) a.spare a.next_serial c.self.invariant)

pub overflow_sub-result : goal.overflow_sub-result
overflow_sub-result g c = let a = c.self.inside in omega (arith, c.len.ensures.count, c.self.invariant.count, empty_count_within a.slots)

pub returns-clause-count : goal.returns-clause-count
returns-clause-count g c = let a = c.self.inside in rw (← c.self.view_is) (omega (arith, c.len.ensures.count, c.self.invariant.count, len-entries_in a.slots))

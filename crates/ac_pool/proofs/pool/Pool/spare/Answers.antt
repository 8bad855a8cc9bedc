use Rattle.std.proofs.Common.{vec_capacity}
use Rattle.ac_pool.proofs.Pooled.{sound}
use Rattle.ac_pool.proofs.pool.Pool.spare.Goals as goal

pub returns-clause-sound : goal.returns-clause-sound
returns-clause-sound g c = let a = c.self.inside in rw (← c.self.view_is) (sound a.slots a.free.items (vec_capacity a.free) a.spare a.next_serial c.self.invariant)

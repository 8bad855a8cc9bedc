use Rattle.std.proofs.Common.{sym, ◌∙◌, vec_capacity}
use Rattle.ac_pool.proofs.Pooled.{sound, slot_count-cells}
use Rattle.ac_pool.proofs.pool.Pool.slots.Goals as goal

pub returns-clause-sound : goal.returns-clause-sound
returns-clause-sound g c = let a = c.self.inside in rw (← c.self.view_is) (sound a.slots a.free.items (vec_capacity a.free) a.spare a.next_serial c.self.invariant)

pub returns-clause-count : goal.returns-clause-count
returns-clause-count g c = let a = c.self.inside in rw (← c.self.view_is) (c.len.ensures.count ∙ sym (slot_count-cells a.slots a.free.items (vec_capacity a.free) a.spare a.next_serial c.self.invariant))

use Rattle.std.proofs.Common.{sym}
use Rattle.ac_pool.proofs.Laid.{length-cells_in}
use Rattle.ac_pool.proofs.slots.Slots.len.Goals as goal

pub returns-clause-count : goal.returns-clause-count
returns-clause-count g c = let a = c.self.inside in rw (← c.self.view_is) (sym (length-cells_in a.chunks.items a.len c.self.invariant))

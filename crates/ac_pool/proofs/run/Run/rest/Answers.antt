use Rattle.std.proofs.Common.{option_copied}
use Rattle.ac_pool.proofs.Runs.{run_next}
use Rattle.ac_pool.proofs.run.Run.rest.Goals as goal

pub returns : goal.returns
returns g c = let a = c.self.inside in rw (← c.self.view_is) (run_next (option_copied a.chunk) a.index c.next_index.result c.self.invariant c.next_index.ensures.0 c.next_index.ensures.1)

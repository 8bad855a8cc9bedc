use Rattle.std.proofs.Common.{sym, subst}
use Rattle.ac_pool.specs.Reached.{IsReached}
use Rattle.ac_pool.proofs.Written.{none_reached}
use Rattle.ac_pool.proofs.chunk.Chunk.new.Goals as goal

pub invariant_of-result : goal.invariant_of-result
invariant_of-result g c = subst (λ l. IsReached l 0) (sym c.in_ok-block.ensures) none_reached

use Rattle.std.proofs.Common.{length}
use Rattle.ac_chain.proofs.Transfers.{Moving}
use Rattle.ac_chain.proofs.transfer.move_each.Given as goal

abbrev pub invariant-loop-first : goal.invariant-loop-first
invariant-loop-first g l = Moving l.fn.target l.fn.place l.fn.source l.target l.source

abbrev pub decreases-loop-first : goal.decreases-loop-first
decreases-loop-first g l = length l.source.rows

use Rattle.std.proofs.Common.{length}
use Rattle.ac_vector.proofs.Appends.{Appending}
use Rattle.ac_vector.proofs.Drains.{Draining, back}
use Rattle.ac_vector.proofs.moving.move_back.Given as goal

abbrev pub invariant-loop-value : goal.invariant-loop-value
invariant-loop-value g l = Appending l.fn.target (back l.fn.source) (back l.source) l.target × Draining l.fn.source l.source

abbrev pub decreases-loop-value : goal.decreases-loop-value
decreases-loop-value g l = length l.source.rows

use Rattle.ac_chain.proofs.Deletes.{Dropping}
use Rattle.ac_vector.proofs.array.Array.cut_last.Given as goal

abbrev pub invariant-loop-i : goal.invariant-loop-i
invariant-loop-i g l = Dropping l.fn.self l._i l.self

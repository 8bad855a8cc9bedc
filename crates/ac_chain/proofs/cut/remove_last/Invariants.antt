use Rattle.ac_chain.proofs.Deletes.{Dropping}
use Rattle.ac_chain.proofs.cut.remove_last.Given as goal

abbrev pub invariant-loop-i : goal.invariant-loop-i
invariant-loop-i g l = Dropping l.fn.chain l._i l.chain

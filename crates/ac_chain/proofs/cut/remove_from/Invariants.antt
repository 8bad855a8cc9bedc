use Rattle.ac_chain.specs.Rows.{place_of}
use Rattle.ac_chain.proofs.Deletes.{Cutting}
use Rattle.ac_chain.proofs.cut.remove_from.Given as goal

abbrev pub invariant-loop-i : goal.invariant-loop-i
invariant-loop-i g l = Cutting l.fn.chain (place_of l.fn.place l.fn.chain.rows) l._i l.place l.chain

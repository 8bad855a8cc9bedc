use Rattle.ac_chain.proofs.Refills.{Copying, left}
use Rattle.ac_chain.proofs.refilling.copies_back.Given as goal

abbrev pub invariant-loop-place : goal.invariant-loop-place
invariant-loop-place g l = Copying l.chain.rows l.place l.made.items

abbrev pub decreases-loop-place : goal.decreases-loop-place
decreases-loop-place g l = left l.chain.rows l.place

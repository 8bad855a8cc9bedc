use Rattle.std.proofs.Common.{◌-◌, length}
use Rattle.ac_chain.specs.Rows.{place_of}
use Rattle.ac_chain.proofs.Sorts.{Taking}
use Rattle.ac_chain.proofs.sort.rows_of.Given as goal

abbrev pub invariant-loop-place : goal.invariant-loop-place
invariant-loop-place g l = Taking l.fn.chain l.made.items l.place

abbrev pub decreases-loop-place : goal.decreases-loop-place
decreases-loop-place g l = length l.fn.chain.rows - place_of l.place l.fn.chain.rows

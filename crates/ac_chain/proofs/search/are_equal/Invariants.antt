use Rattle.std.proofs.Common.{◌-◌, length}
use Rattle.ac_chain.specs.Rows.{place_of}
use Rattle.ac_chain.proofs.Compares.{Comparing}
use Rattle.ac_chain.proofs.search.are_equal.Given as goal

abbrev pub invariant-loop-here : goal.invariant-loop-here
invariant-loop-here g l = Comparing g.T.Elem.is_same (g.C.Walked.seen l.fn.left) (g.C.Walked.seen l.fn.right) l.here l.there

abbrev pub decreases-loop-here : goal.decreases-loop-here
decreases-loop-here g l = length (g.C.Walked.seen l.fn.left).rows - place_of l.here (g.C.Walked.seen l.fn.left).rows

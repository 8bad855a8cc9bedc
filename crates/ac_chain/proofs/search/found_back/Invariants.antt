use Rattle.std.proofs.Common.{reverse, take}
use Rattle.ac_chain.specs.Search.{count_to}
use Rattle.ac_chain.proofs.Searches.{SearchingBack}
use Rattle.ac_chain.proofs.search.found_back.Given as goal

abbrev pub invariant-loop-place : goal.invariant-loop-place
invariant-loop-place g l = SearchingBack (g.C.Walked.seen l.fn.rows) g.T.Elem.is_same l.fn.e (reverse (take (count_to l.fn.from (g.C.Walked.seen l.fn.rows).rows) (g.C.Walked.seen l.fn.rows).rows)) l.place

abbrev pub decreases-loop-place : goal.decreases-loop-place
decreases-loop-place g l = count_to l.place (g.C.Walked.seen l.fn.rows).rows

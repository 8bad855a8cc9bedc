use Rattle.std.proofs.Common.{◌-◌, drop, length}
use Rattle.ac_chain.specs.Rows.{place_of}
use Rattle.ac_chain.proofs.Searches.{SearchingOn}
use Rattle.ac_chain.proofs.search.found_from.Given as goal

abbrev pub invariant-loop-place : goal.invariant-loop-place
invariant-loop-place g l = SearchingOn (g.C.Walked.seen l.fn.rows) g.T.Elem.is_same l.fn.e (drop (place_of l.fn.from (g.C.Walked.seen l.fn.rows).rows) (g.C.Walked.seen l.fn.rows).rows) l.place

abbrev pub decreases-loop-place : goal.decreases-loop-place
decreases-loop-place g l = length (g.C.Walked.seen l.fn.rows).rows - place_of l.place (g.C.Walked.seen l.fn.rows).rows

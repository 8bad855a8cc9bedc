use Rattle.std.proofs.Common.{◌-◌, length}
use Rattle.ac_pool.specs.NamedRows.{index_of}
use Rattle.ac_chain.proofs.Compares.{Ascending}
use Rattle.ac_chain.proofs.search.is_ascending.Given as goal

abbrev pub invariant-loop-name : goal.invariant-loop-name
invariant-loop-name g l = Ascending g.T.Rank.is_less (g.C.Walked.seen l.fn.rows) l.before

abbrev pub decreases-loop-name : goal.decreases-loop-name
decreases-loop-name g l = length (g.C.Walked.seen l.fn.rows).rows - index_of l.before (g.C.Walked.seen l.fn.rows).rows

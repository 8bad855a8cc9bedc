use Rattle.std.proofs.Common.{◌-◌, drop, length}
use Rattle.ac_chain.specs.Rows.{place_of}
use Rattle.ac_chain.specs.Merging.{is_behind}
use Rattle.ac_chain.proofs.Searches.{SearchingOn}
use Rattle.ac_chain.proofs.merge.place_for.Given as goal

abbrev pub invariant-loop-place : goal.invariant-loop-place
invariant-loop-place g l = SearchingOn l.fn.chain (is_behind g.T.Rank.is_less) l.fn.value (drop (place_of l.fn.from l.fn.chain.rows) l.fn.chain.rows) l.place

abbrev pub decreases-loop-place : goal.decreases-loop-place
decreases-loop-place g l = length l.fn.chain.rows - place_of l.place l.fn.chain.rows

use Rattle.std.proofs.Common.{length}
use Rattle.ac_chain.proofs.Merges.{Merging}
use Rattle.ac_chain.proofs.merge.merge_each.Given as goal

abbrev pub invariant-loop-first : goal.invariant-loop-first
invariant-loop-first g l = Merging g.T.Rank.is_less l.fn.target l.fn.source l.place l.target l.source

abbrev pub decreases-loop-first : goal.decreases-loop-first
decreases-loop-first g l = length l.source.rows

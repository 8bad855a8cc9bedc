use Rattle.std.proofs.Common.{◌%◌, length}
use Rattle.ac_buckets.proofs.Walks.{IsPassed}
use Rattle.ac_buckets.proofs.walk.find.Given as goal

abbrev pub invariant-loop-link : goal.invariant-loop-link
invariant-loop-link l = IsPassed l.nodes (length l.heads) (l.hash % length l.heads) l.name l.link

abbrev pub decreases-loop-link : goal.decreases-loop-link
decreases-loop-link l = l.link

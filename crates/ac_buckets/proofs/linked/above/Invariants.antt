use Rattle.std.proofs.Common.{◌<◌, ◌≤◌, ℕ, List, length, IfSome}
use Rattle.ac_buckets.specs.Linked.{AreLinked}
use Rattle.ac_buckets.proofs.Links.{IsReached}
use Rattle.ac_buckets.proofs.linked.above.Given as goal

abbrev pub invariant-loop-link : goal.invariant-loop-link
invariant-loop-link l = record {
  reached : (marks : List ℕ) → AreLinked marks l.nodes l.heads → IsReached marks l.bucket l.index l.above l.link;
  within : l.link ≤ length l.nodes;
  node : IfSome l.above (λ i. i < length l.nodes);
}

abbrev pub decreases-loop-link : goal.decreases-loop-link
decreases-loop-link l = l.link

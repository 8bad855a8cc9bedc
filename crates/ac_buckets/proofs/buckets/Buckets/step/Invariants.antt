use Rattle.std.proofs.Common.{◌≡◌, ◌≤◌}
use Rattle.ac_buckets.specs.Places.{IsPlace, names_left}
use Rattle.ac_buckets.proofs.buckets.Buckets.step.Given as goal

abbrev pub invariant-loop-link : goal.invariant-loop-link
invariant-loop-link l = record {
  stands : IsPlace l.self l.hash l.link;
  names : names_left l.self l.hash l.fn.place.left ≡ names_left l.self l.hash l.link;
  nearer : l.link ≤ l.fn.place.left;
}

abbrev pub decreases-loop-link : goal.decreases-loop-link
decreases-loop-link l = l.link

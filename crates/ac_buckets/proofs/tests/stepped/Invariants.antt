use Rattle.ac_buckets.specs.Places.{IsPlace}
use Rattle.ac_buckets.proofs.tests.stepped.Given as goal

abbrev pub invariant-loop-count : goal.invariant-loop-count
invariant-loop-count l = IsPlace l.buckets l.hash l.place.left

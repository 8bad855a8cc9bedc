use Rattle.std.proofs.Common.{◌≡◌, drop}
use Rattle.ac_vector.specs.ArrayFields.{renumbered_in}
use Rattle.ac_vector.proofs.places.renumber.Given as goal

abbrev pub invariant-loop-place : goal.invariant-loop-place
invariant-loop-place l = renumbered_in (drop l.place l.slots) l.place l.places ≡ renumbered_in (drop l.from l.slots) l.from l.initial.places

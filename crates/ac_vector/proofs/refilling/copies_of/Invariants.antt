use Rattle.std.proofs.Common.{◌≡◌, take}
use Rattle.ac_vector.proofs.refilling.copies_of.Given as goal

abbrev pub invariant-loop-value : goal.invariant-loop-value
invariant-loop-value g l = l.made.items ≡ take l.value-index l.values

use Rattle.std.proofs.Common.{◌≡◌, take}
use Rattle.ac_snapshot.specs.Keys as keys
use Rattle.ac_snapshot.proofs.key_set.number_of.Given as goal

abbrev pub invariant-loop-byte : goal.invariant-loop-byte
invariant-loop-byte l = l.number ≡ keys.number_of (take l.byte-index l.bytes)

use Rattle.std.proofs.Common.{◌≡◌, drop}
use Rattle.ac_aggregate.specs.Plains.{plain_named}
use Rattle.ac_aggregate.proofs.valuing.plain_named.Given as goal

abbrev pub invariant-loop-plain : goal.invariant-loop-plain
invariant-loop-plain l = plain_named (drop l.plain-index l.plains) l.name ≡ plain_named l.plains l.name

use Rattle.std.proofs.Common.{◌≡◌, take}
use Rattle.ac_syntax.specs.Tokens as tokens
use Rattle.ac_snapshot.proofs.value_reader.number_value.Given as goal

abbrev pub invariant-loop-b : goal.invariant-loop-b
invariant-loop-b l = l.value ≡ tokens.number_value (take l.b-index l.digits)

use Rattle.std.proofs.Common.{◌≡◌, ◌≤◌, nat_lt, drop}
use Rattle.ac_aggregate.specs.Limits.{nesting}
use Rattle.ac_aggregate.proofs.limits.is_deep.Given as goal

abbrev pub invariant-loop-token : goal.invariant-loop-token
invariant-loop-token l = (l.count ≤ 16) × (nat_lt 16 (nesting l.count (drop l.token-index l.tokens)) ≡ nat_lt 16 (nesting 0 l.tokens))

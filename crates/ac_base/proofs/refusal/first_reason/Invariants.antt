use Rattle.std.proofs.Common.{◌≡◌, drop}
use Rattle.ac_base.specs.FirstReason.{earlier, first_reason}
use Rattle.ac_base.proofs.refusal.first_reason.Given as goal

abbrev pub invariant-loop-reason : goal.invariant-loop-reason
invariant-loop-reason l = earlier l.first (first_reason (drop l.reason-index l.found)) ≡ first_reason l.found

use Rattle.std.proofs.Common.{◌∙◌}
use Rattle.ac_base.proofs.Earlier.{one_further}
use Rattle.ac_base.proofs.refusal.first_reason.Goals as goal

pub loop-reason-preserved : goal.loop-reason-preserved
loop-reason-preserved c = one_further _ _ _ _ c.loop-reason-test.true c.earlier-first.ensures ∙ c.loop-reason.invariant

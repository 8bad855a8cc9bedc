use Rattle.ac_meaning.proofs.Refused.{refusals_leave}
use Rattle.ac_meaning.proofs.law.refusals_leave.Goals as goal

pub returns : goal.returns
returns c = refusals_leave

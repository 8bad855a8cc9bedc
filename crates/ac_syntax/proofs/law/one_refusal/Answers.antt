use Rattle.ac_syntax.proofs.OneRefusal as refusals
use Rattle.ac_syntax.proofs.law.one_refusal.Goals as goal

pub returns-clause-one : goal.returns-clause-one
returns-clause-one c = refusals.one_refusal

pub returns-clause-not_spelled : goal.returns-clause-not_spelled
returns-clause-not_spelled c = refusals.spelled_or_refused

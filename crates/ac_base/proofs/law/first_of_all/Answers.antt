use Rattle.ac_base.proofs.FirstReason.{none_found, none_earlier}
use Rattle.ac_base.proofs.law.first_of_all.Goals as goal

pub returns-clause-none : goal.returns-clause-none
returns-clause-none c = none_found

pub returns-clause-earliest : goal.returns-clause-earliest
returns-clause-earliest c = none_earlier

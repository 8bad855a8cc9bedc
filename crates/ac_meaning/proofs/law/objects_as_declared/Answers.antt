use Rattle.ac_meaning.proofs.AsDeclared.{stays_declared}
use Rattle.ac_meaning.proofs.ExecGoesOn.{states_go_on}
use Rattle.ac_meaning.proofs.law.objects_as_declared.Goals as goal

pub returns-clause-statements : goal.returns-clause-statements
returns-clause-statements c = states_go_on

pub returns-clause-script : goal.returns-clause-script
returns-clause-script c = stays_declared

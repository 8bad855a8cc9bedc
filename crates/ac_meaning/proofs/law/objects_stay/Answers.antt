use Rattle.ac_meaning.proofs.VectorsStay.{replies_stay}
use Rattle.ac_meaning.proofs.CommandsStay.{command_stays}
use Rattle.ac_meaning.proofs.ObjectsGoOn.{objects_go_on, names_stay_in_scope, names_come_and_go}
use Rattle.ac_meaning.proofs.law.objects_stay.Goals as goal

pub returns-clause-replies : goal.returns-clause-replies
returns-clause-replies g c = replies_stay

pub returns-clause-commands : goal.returns-clause-commands
returns-clause-commands g c = command_stays

pub returns-clause-numbers : goal.returns-clause-numbers
returns-clause-numbers g c = objects_go_on

pub returns-clause-scope : goal.returns-clause-scope
returns-clause-scope g c = names_stay_in_scope

pub returns-clause-names : goal.returns-clause-names
returns-clause-names g c = names_come_and_go

use Rattle.ac_history.proofs.Starts.{with_itself, turned_round, passed_on}
use Rattle.ac_history.proofs.law.begun_alike.Goals as goal

pub returns-clause-with_itself : goal.returns-clause-with_itself
returns-clause-with_itself c = with_itself

pub returns-clause-turned_round : goal.returns-clause-turned_round
returns-clause-turned_round c = turned_round

pub returns-clause-passed_on : goal.returns-clause-passed_on
returns-clause-passed_on c = passed_on

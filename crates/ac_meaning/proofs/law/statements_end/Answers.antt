use Rattle.ac_meaning.proofs.Ends.{ends_stay_normal, none_runs_behind}
use Rattle.ac_meaning.proofs.law.statements_end.Goals as goal

pub returns-clause-normal : goal.returns-clause-normal
returns-clause-normal c = ends_stay_normal

pub returns-clause-none_runs : goal.returns-clause-none_runs
returns-clause-none_runs c = none_runs_behind

use Rattle.ac_meaning.proofs.Resolved.{runs_resolved, script_runs_resolved}
use Rattle.ac_meaning.proofs.law.resolved_statements.Goals as goal

pub returns-clause-each : goal.returns-clause-each
returns-clause-each c = runs_resolved

pub returns-clause-script : goal.returns-clause-script
returns-clause-script c = script_runs_resolved

use Rattle.ac_snapshot.proofs.Decided.{integer_decided, text_decided, step_decided}
use Rattle.ac_snapshot.proofs.RowTests.{rows_decided}
use Rattle.ac_snapshot.proofs.law.tests_decide.Goals as goal

pub returns-clause-integers : goal.returns-clause-integers
returns-clause-integers c = integer_decided

pub returns-clause-texts : goal.returns-clause-texts
returns-clause-texts c = text_decided

pub returns-clause-steps : goal.returns-clause-steps
returns-clause-steps c = step_decided

pub returns-clause-rows : goal.returns-clause-rows
returns-clause-rows c = rows_decided

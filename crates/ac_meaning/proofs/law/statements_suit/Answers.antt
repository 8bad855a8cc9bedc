use Rattle.ac_meaning.proofs.Suiting.{calls_suit, blocks_suit}
use Rattle.ac_meaning.proofs.TasksFit.{tasks_all_fit, tasks_run}
use Rattle.ac_meaning.proofs.law.statements_suit.Goals as goal

pub returns-clause-calls : goal.returns-clause-calls
returns-clause-calls c = calls_suit

pub returns-clause-blocks : goal.returns-clause-blocks
returns-clause-blocks c = blocks_suit

pub returns-clause-fit : goal.returns-clause-fit
returns-clause-fit c = tasks_all_fit

pub returns-clause-run : goal.returns-clause-run
returns-clause-run c = tasks_run

use Rattle.ac_history.proofs.Runs.{orders_run, histories_have_orders}
use Rattle.ac_history.proofs.law.orders_and_histories.Goals as goal

pub returns-clause-runs : goal.returns-clause-runs
returns-clause-runs c = orders_run

pub returns-clause-all : goal.returns-clause-all
returns-clause-all c = histories_have_orders

use Rattle.ac_meaning.proofs.HistoryLines.{blocks_are_counted}
use Rattle.ac_meaning.proofs.NextRises.{blocks_rise}
use Rattle.ac_meaning.proofs.OrdersTold.{orders_tell}
use Rattle.ac_meaning.proofs.law.blocks_have_orders.Goals as goal

pub returns-clause-rise : goal.returns-clause-rise
returns-clause-rise c = blocks_rise

pub returns-clause-counted : goal.returns-clause-counted
returns-clause-counted c = blocks_are_counted

pub returns-clause-told : goal.returns-clause-told
returns-clause-told c = orders_tell

use Rattle.ac_syntax.proofs.Orders.{script_ordered, script_found, front_completes}
use Rattle.ac_syntax.proofs.law.items_order.Goals as goal

pub returns-clause-script : goal.returns-clause-script
returns-clause-script c = script_ordered

pub returns-clause-only : goal.returns-clause-only
returns-clause-only c = script_found

pub returns-clause-front : goal.returns-clause-front
returns-clause-front c = front_completes

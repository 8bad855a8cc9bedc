use Rattle.ac_meaning.specs.Execution.{no_orders}
use Rattle.ac_top.proofs.running.run_on.Goals as goal

pub returns : goal.returns
returns g c = (no_orders, c.run_serial_from.ensures.writes, c.run_serial_from.ensures.left)

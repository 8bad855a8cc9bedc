use Rattle.ac_host.proofs.ByOrders.{orders_from, go_by_told}
use Rattle.ac_host.proofs.host.Host.run.Goals as goal

pub returns : goal.returns
returns g c =
    let ran = c.run_by.ensures in
    let orders = orders_from 0 ran.told in
    let holds = ran.holds orders (go_by_told ran.told 0) in
    (orders, holds.0, holds.1)

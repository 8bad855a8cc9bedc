use Rattle.std.proofs.Common.{ap, subst, ◌∙◌}
use Rattle.std.proofs.lemmas.Result.{IfOk-weaker}
use Rattle.ac_meaning.specs.Environment.{nodes}
use Rattle.ac_meaning.specs.Execution.{Outcome, no_orders}
use Rattle.ac_host.specs.Writing.{Writes}
use Rattle.ac_host.proofs.ByOrders.{go_by_none}
use Rattle.ac_host.proofs.Scripts.{serial_run, serial_text}
use Rattle.ac_host.proofs.host.Host.run_serial.Goals as goal

pub returns-clause-writes : goal.returns-clause-writes
returns-clause-writes g c =
    let sink = g.K.Sink in
    let ran = c.run_by.ensures in
    let holds = ran.holds no_orders (go_by_none ran.told 0 ran.allowed) in
    subst (λ t. Writes sink.held sink.faults sink.room sink.counts_failures c.args.sink.now c.run_by.new.sink t c.run_by.result)
    (serial_text c.args.script.now) holds.0

pub returns-clause-nodes : goal.returns-clause-nodes
returns-clause-nodes g c =
    let ran = c.run_by.ensures in
    let holds = ran.holds no_orders (go_by_none ran.told 0 ran.allowed) in
    IfOk-weaker c.run_by.result _ _ (λ count is. is ∙ ap (λ (r : Outcome). nodes r.after) (serial_run c.args.script.now)) holds.1

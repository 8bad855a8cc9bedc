use Rattle.std.proofs.Common.{◌≡◌, subst}
use Rattle.std.proofs.lemmas.Result.{IfOk-weaker}
use Rattle.ac_calls.specs.Answers.{lines_text}
use Rattle.ac_meaning.specs.Environment.{at_rest}
use Rattle.ac_meaning.specs.Execution.{run_from}
use Rattle.ac_objects.specs.World.{state_of}
use Rattle.ac_host.specs.Writing.{Writes}
use Rattle.ac_host.proofs.ByOrders.{orders_from, go_by_told}
use Rattle.ac_host.proofs.host.Host.run_from.Goals as goal

pub returns : goal.returns
returns g c =
    let sink = g.K.Sink in
    let script = c.args.script.now in
    let ran = c.run_on.ensures in
    let orders = orders_from 0 ran.told in
    let holds = ran.holds orders (go_by_told ran.told 0) in (
      orders,
      subst
          (λ w. Writes sink.held sink.faults sink.room sink.counts_failures c.args.sink.now c.run_on.new.sink
          (lines_text (run_from orders script (state_of w)).lines) c.run_on.result)
          c.over.ensures holds.0,
      IfOk-weaker c.run_on.result _ _
          (λ left is. subst (λ w. state_of left ≡ at_rest (run_from orders script (state_of w)).after) c.over.ensures is) holds.1,
    )

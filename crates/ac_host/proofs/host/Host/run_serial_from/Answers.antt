use Rattle.std.proofs.Common.{◌≡◌, sym, subst}
use Rattle.std.proofs.lemmas.Result.{IfOk-weaker}
use Rattle.ac_calls.specs.Answers.{lines_text}
use Rattle.ac_meaning.specs.Environment.{at_rest}
use Rattle.ac_meaning.specs.Execution.{no_orders, run_from}
use Rattle.ac_objects.specs.World.{state_of}
use Rattle.ac_host.specs.Start.{IsAtStart}
use Rattle.ac_host.specs.Writing.{Writes}
use Rattle.ac_host.proofs.ByOrders.{go_by_none}
use Rattle.ac_host.proofs.host.Host.run_serial_from.Goals as goal

pub run_on-requires : goal.run_on-requires
run_on-requires g c = record { sound = tt; start = subst (λ w. IsAtStart (state_of w)) (sym c.over.ensures) c.requires }

pub returns-clause-writes : goal.returns-clause-writes
returns-clause-writes g c =
    let sink = g.K.Sink in
    let ran = c.run_on.ensures in
    let holds = ran.holds no_orders (go_by_none ran.told 0 ran.allowed) in
    subst
    (λ w. Writes sink.held sink.faults sink.room sink.counts_failures c.args.sink.now c.run_on.new.sink
    (lines_text (run_from no_orders c.args.script.now (state_of w)).lines) c.run_on.result)
    c.over.ensures holds.0

pub returns-clause-left : goal.returns-clause-left
returns-clause-left g c =
    let ran = c.run_on.ensures in
    let holds = ran.holds no_orders (go_by_none ran.told 0 ran.allowed) in
    IfOk-weaker c.run_on.result _ _
    (λ left is. subst (λ w. state_of left ≡ at_rest (run_from no_orders c.args.script.now (state_of w)).after) c.over.ensures is) holds.1

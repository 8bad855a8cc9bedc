use Rattle.std.proofs.Common.{subst, sym, refl}
use Rattle.ac_meaning.specs.Execution.{no_orders}
use Rattle.ac_meaning.specs.Meanings.{canonical}
use Rattle.ac_top.specs.declared.mode.Task.TheVariants.{Check}
use Rattle.ac_top.specs.Answers.{Says}
use Rattle.ac_top.specs.Asks.{unasked}
use Rattle.ac_top.specs.Status.{Writes}
use Rattle.ac_top.proofs.Beginning.{each_of_script}
use Rattle.ac_top.proofs.running.answer_start.Goals as goal

pub returns-in-Run-clause-writes : goal.returns-in-Run-clause-writes
returns-in-Run-clause-writes g c =
    let sink = g.K.Sink in
    let start = c.args.start.now in
    subst
    (λ task. Says task start.state start.script (sink.held c.args.sink.now) (sink.held c.ask_start.new.sink) (sink.room c.args.sink.now) c.ask_start.result)
    (sym c.in-Run.is) c.ask_start.ensures.writes

pub returns-in-Check-clause-writes : goal.returns-in-Check-clause-writes
returns-in-Check-clause-writes g c =
    let sink = g.K.Sink in
    let start = c.args.start.now in
    let held = sink.held c.args.sink.now in
    let now = sink.held c.write_canonical.new.sink in
    let room = sink.room c.args.sink.now in
    let b = each_of_script start.state start.script in
    subst (λ task. Says task start.state start.script held now room c.write_canonical.result) (sym c.in-Check.is)
    (record {
      orders = no_orders;
      asking = unasked;
      becomes = refl;
      beginning = b.0;
      begins = b.1;
      writes = subst (λ script. Writes (canonical script) held now room c.write_canonical.result) c.script.ensures.value c.write_canonical.ensures.writes;
    })

use Rattle.std.proofs.Common.{ap, subst, Err}
use Rattle.ac_meaning.specs.Execution.{no_orders}
use Rattle.ac_objects.specs.World.{state_of}
use Rattle.ac_top.specs.Asks.{asking_of}
use Rattle.ac_top.specs.Beginnings.{begins, stops_at}
use Rattle.ac_top.specs.Modes.{begun, ran_from}
use Rattle.ac_top.specs.Status.{Writes}
use Rattle.ac_top.specs.declared.status.Status.TheVariants.{NoMemory}
use Rattle.ac_top.proofs.Answered.{unwritten}
use Rattle.ac_top.proofs.Beginning.{each_of_script}
use Rattle.ac_top.proofs.running.run_start.Goals as goal

pub returns-in-Ok-clause-writes : goal.returns-in-Ok-clause-writes
returns-in-Ok-clause-writes g c =
    let sink = g.K.Sink in
    let ends = c.args.ends.now in
    let ran = c.run_objects.ensures.writes in
    record {
      orders = ran.0;
      beginning = begins;
      begins = c.in-Ok.ensures.begins;
      writes =
          subst
          (λ e. Writes (ran_from ran.0 ends.audit (asking_of ends.question) ends.save c.args.start.now.script e) (sink.held c.args.sink.now) (sink.held c.run_objects.new.sink) (sink.room c.args.sink.now) c.run_objects.result)
          c.in-Ok.ensures.started ran.1;
    }

pub returns-in-Err-Mismatch-clause-writes : goal.returns-in-Err-Mismatch-clause-writes
returns-in-Err-Mismatch-clause-writes g c = record {
  orders = no_orders;
  beginning = stops_at c.in-Err-Mismatch.line;
  begins = c.in-Err-Mismatch.ensures.mismatch c.in-Err-Mismatch.line (ap Err c.in-Err-Mismatch.field-0-is);
  writes = c.refuse_mismatch.ensures.writes;
}

pub returns-in-Err-NoMemory-clause-writes : goal.returns-in-Err-NoMemory-clause-writes
returns-in-Err-NoMemory-clause-writes g c =
    let sink = g.K.Sink in
    let ends = c.args.ends.now in
    let start = c.args.start.now in
    let b = each_of_script start.state start.script in
    record {
      orders = no_orders;
      beginning = b.0;
      begins = b.1;
      writes =
          unwritten (begun no_orders ends.audit (asking_of ends.question) ends.save b.0 start.state start.script) (sink.held c.args.sink.now) (sink.room c.args.sink.now) NoMemory
          (λ x. x) (λ e. cc e);
    }

use Rattle.std.proofs.Common.{ap, subst, Err}
use Rattle.ac_meaning.specs.Execution.{no_orders}
use Rattle.ac_top.specs.declared.status.Status.TheVariants.{NoMemory}
use Rattle.ac_top.specs.declared.mode.Task.TheVariants.{Run}
use Rattle.ac_top.specs.Asks.{Becomes, asking_of, refuses}
use Rattle.ac_top.specs.Modes.{meant_by}
use Rattle.ac_top.specs.Status.{Writes}
use Rattle.ac_top.proofs.Answered.{unwritten}
use Rattle.ac_top.proofs.Becoming.{each_becoming}
use Rattle.ac_top.proofs.Beginning.{each_of_script}
use Rattle.ac_top.proofs.ReadOutput.{read_output}
use Rattle.ac_top.proofs.running.ask_start.Goals as goal

pub returns-in-Ok-clause-writes : goal.returns-in-Ok-clause-writes
returns-in-Ok-clause-writes g c =
    let sink = g.K.Sink in
    let options = c.args.options.now in
    let start = c.args.start.now in
    let ran = c.run_start.ensures.writes in
    record {
      orders = ran.orders;
      asking = asking_of c.in-Ok.question;
      becomes = subst (λ s. Becomes options.ask s (asking_of c.in-Ok.question)) c.script.ensures.value c.in-Ok.ensures.taken;
      beginning = ran.beginning;
      begins = ran.begins;
      writes =
          subst (λ m. Writes m (sink.held c.args.sink.now) (sink.held c.run_start.new.sink) (sink.room c.args.sink.now) c.run_start.result)
          (read_output ran.orders options c.in-Ok.question ran.beginning start.state start.script) ran.writes;
    }

pub returns-in-Err-Refused-clause-writes : goal.returns-in-Err-Refused-clause-writes
returns-in-Err-Refused-clause-writes g c =
    let kind = c.in-Err-Refused.kind in
    let start = c.args.start.now in
    let b = each_of_script start.state start.script in
    record {
      orders = no_orders;
      asking = refuses kind;
      becomes =
          subst (λ s. Becomes c.args.options.now.ask s (refuses kind)) c.script.ensures.value
          (c.in-Err-Refused.ensures.refused kind (ap Err c.in-Err-Refused.field-0-is));
      beginning = b.0;
      begins = b.1;
      writes = c.refuse_question.ensures.writes;
    }

pub returns-in-Err-NoMemory-clause-writes : goal.returns-in-Err-NoMemory-clause-writes
returns-in-Err-NoMemory-clause-writes g c =
    let sink = g.K.Sink in
    let start = c.args.start.now in
    let a = each_becoming c.args.options.now.ask start.script in
    let b = each_of_script start.state start.script in
    record {
      orders = no_orders;
      asking = a.0;
      becomes = a.1;
      beginning = b.0;
      begins = b.1;
      writes =
          unwritten (meant_by no_orders (Run c.args.options.now) a.0 b.0 start.state start.script) (sink.held c.args.sink.now) (sink.room c.args.sink.now) NoMemory
          (λ x. x) (λ e. cc e);
    }

use Rattle.std.proofs.Common.{[], ap, subst, ◌∙◌}
use Rattle.ac_calls.specs.Answers.{lines_text}
use Rattle.ac_meaning.specs.Environment.{at_rest}
use Rattle.ac_meaning.specs.Execution.{Outcome, run_from}
use Rattle.ac_objects.specs.World.{state_of}
use Rattle.ac_host.specs.Writing.{Broke, Wrote}
use Rattle.ac_host.proofs.Scripts.{start_stands, start_tells, if_ok_exit, comes_from, writes_broke}
use Rattle.ac_host.proofs.host.Host.run_on.Goals as goal

pub run_statements-requires : goal.run_statements-requires
run_statements-requires g c = record {
  sound = c.requires.sound;
  ready = record { guards = []; env = state_of c.args.self.objects; stands = start_stands c.args.self.objects c.requires.start };
}

pub returns-in_err-run_statements : goal.returns-in_err-run_statements
returns-in_err-run_statements g c =
    let sink = g.K.Sink in
    let w = c.args.self.objects in
    let script = c.args.script.now in
    let exit = c.from_residual.ensures.1 in
    let end = c.in_err-run_statements.field-0.0 in
    start_tells w c.requires.start c.in_err-run_statements.ensures.runs
    (λ orders runs.
    let ran = runs [] (state_of w) (start_stands w c.requires.start) in
    let is = comes_from c.propagates.result orders script c.statements.result.now (state_of w) c.propagates.ensures c.statements.ensures in (
      writes_broke sink.held sink.faults sink.room sink.counts_failures c.args.sink.now c.run_statements.new.sink
          (lines_text (run_from orders script (state_of w)).lines) end c.from_residual.result exit
          (subst (λ (r : Outcome). Broke sink.held sink.faults sink.room sink.counts_failures c.args.sink.now c.run_statements.new.sink (lines_text r.lines) end)
          is ran.writes),
      if_ok_exit _ _ c.from_residual.result exit,
    ))

pub returns : goal.returns
returns g c =
    let sink = g.K.Sink in
    let w = c.args.self.objects in
    let script = c.args.script.now in
    start_tells w c.requires.start c.in_ok-run_statements.ensures.runs
    (λ orders runs.
    let ran = runs [] (state_of w) (start_stands w c.requires.start) in
    let is = comes_from c.propagates.result orders script c.statements.result.now (state_of w) c.propagates.ensures c.statements.ensures in (
      subst (λ (r : Outcome). Wrote sink.held sink.faults sink.room sink.counts_failures c.args.sink.now c.run_statements.new.sink (lines_text r.lines))
          is ran.writes,
      ran.after ∙ ap (λ (r : Outcome). at_rest r.after) is,
    ))

use Rattle.std.proofs.Common.{[], ap, subst, sym, ◌∙◌}
use Rattle.ac_meaning.specs.Environment.{nodes}
use Rattle.ac_meaning.specs.Execution.{Outcome, run_from, text_with}
use Rattle.ac_objects.specs.World.{state_of}
use Rattle.ac_host.specs.declared.end.HostEnd.TheVariants.{NoMemory}
use Rattle.ac_host.specs.Start.{IsAtStart}
use Rattle.ac_host.specs.Writing.{Broke, Wrote}
use Rattle.ac_host.proofs.Scripts.{tells_more, none_told, if_ok_exit, script_comes, script_text, nodes_under, writes_broke}
use Rattle.ac_host.proofs.Telling.{broke_nothing, broke_behind_all}
use Rattle.ac_host.proofs.host.Host.run_by.Goals as goal

pub returns-in_err-objects : goal.returns-in_err-objects
returns-in_err-objects g c =
    let sink = g.K.Sink in
    let exit = c.from_residual.ensures.1 in
    none_told (λ orders. (
      writes_broke sink.held sink.faults sink.room sink.counts_failures c.args.sink.now c.args.sink.now (text_with orders c.args.script.now) NoMemory
          c.from_residual.result exit
          (broke_nothing sink.held sink.faults sink.room sink.counts_failures c.args.sink.now (text_with orders c.args.script.now)),
      if_ok_exit _ _ c.from_residual.result exit,
    ))

pub run_on-requires : goal.run_on-requires
run_on-requires g c = record {
  sound = c.requires;
  start = subst (λ w. IsAtStart (state_of w)) (sym c.over.ensures) c.in_ok-objects.ensures.start;
}

pub returns-in_err-left : goal.returns-in_err-left
returns-in_err-left g c =
    let sink = g.K.Sink in
    let script = c.args.script.now in
    let exit = c.from_residual-in_err-left.ensures.1 in
    let end = c.in_err-left.field-0.0 in
    tells_more c.in_err-left.ensures
    (λ orders ran.
    let is = script_comes orders script (state_of c.over.result.objects) (ap state_of c.over.ensures ∙ c.in_ok-objects.ensures.declared) in (
      writes_broke sink.held sink.faults sink.room sink.counts_failures c.args.sink.now c.run_on.new.sink (text_with orders script) end
          c.from_residual-in_err-left.result exit
          (subst (λ t. Broke sink.held sink.faults sink.room sink.counts_failures c.args.sink.now c.run_on.new.sink t end)
          (script_text orders script _ is) ran.0),
      if_ok_exit _ _ c.from_residual-in_err-left.result exit,
    ))

pub returns-in_err-live_nodes : goal.returns-in_err-live_nodes
returns-in_err-live_nodes g c =
    let sink = g.K.Sink in
    let script = c.args.script.now in
    let exit = c.from_residual-in_err-live_nodes.ensures.1 in
    tells_more c.in_ok-left.ensures
    (λ orders ran.
    let is = script_comes orders script (state_of c.over.result.objects) (ap state_of c.over.ensures ∙ c.in_ok-objects.ensures.declared) in (
      writes_broke sink.held sink.faults sink.room sink.counts_failures c.args.sink.now c.run_on.new.sink (text_with orders script) NoMemory
          c.from_residual-in_err-live_nodes.result exit
          (broke_behind_all sink.held sink.faults sink.room sink.counts_failures c.args.sink.now c.run_on.new.sink (text_with orders script)
          (subst (Wrote sink.held sink.faults sink.room sink.counts_failures c.args.sink.now c.run_on.new.sink) (script_text orders script _ is) ran.0)),
      if_ok_exit _ _ c.from_residual-in_err-live_nodes.result exit,
    ))

pub returns : goal.returns
returns g c =
    let sink = g.K.Sink in
    let script = c.args.script.now in
    tells_more c.in_ok-left.ensures
    (λ orders ran.
    let is = script_comes orders script (state_of c.over.result.objects) (ap state_of c.over.ensures ∙ c.in_ok-objects.ensures.declared) in (
      subst (Wrote sink.held sink.faults sink.room sink.counts_failures c.args.sink.now c.run_on.new.sink) (script_text orders script _ is) ran.0,
      c.in_ok-live_nodes.ensures
          ∙ (ap nodes ran.1 ∙ (nodes_under [] (run_from orders script (state_of c.over.result.objects)).after ∙ ap (λ (r : Outcome). nodes r.after) is)),
    ))

use Rattle.std.proofs.Common.{◌≡◌, ap, length, slice_get, sym, subst, ◌∙◌, None}
use Rattle.std.proofs.lemmas.Bool.{ltb-false}
use Rattle.std.proofs.lemmas.Option.{slice_get_past}
use Rattle.ac_calls.specs.Answers.{lines_text}
use Rattle.ac_meaning.specs.TaskBlocks.{step_lines}
use Rattle.ac_host.specs.TaskLines.{shown}
use Rattle.ac_host.specs.Writing.{Wrote}
use Rattle.ac_host.proofs.Telling.{wrote_nothing}
use Rattle.ac_host.proofs.task_lines.write_step.Goals as goal

pub returns-in-None : goal.returns-in-None
returns-in-None g c =
    let sink = g.K.Sink in
    let steps = c.steps.result.now in
    let none : slice_get c.args.task.now.code.steps c.args.place ≡ None =
    ap (λ l. slice_get l c.args.place) (sym c.steps.ensures)
    ∙ slice_get_past steps c.args.place (ltb-false c.args.place (length steps) (sym c.in-None.ensures.lookup.0)) in
    subst (λ o. Wrote sink.held sink.faults sink.room sink.counts_failures c.args.sink.now c.args.sink.now
    (lines_text (step_lines c.args.task.now.name (shown c.args.answer) o))) (sym none)
    (wrote_nothing sink.held sink.faults sink.room sink.counts_failures c.args.sink.now)

use Rattle.std.proofs.Common.{◌≡◌, length, slice_get, sym, subst, None}
use Rattle.std.proofs.lemmas.Bool.{ltb-false}
use Rattle.std.proofs.lemmas.Option.{slice_get_past}
use Rattle.ac_calls.specs.Answers.{lines_text}
use Rattle.ac_meaning.specs.TaskBlocks.{lines_at, reply_answer}
use Rattle.ac_host.specs.Writing.{Wrote}
use Rattle.ac_host.proofs.Telling.{wrote_nothing}
use Rattle.ac_host.proofs.task_lines.write_entry.Goals as goal

pub returns-in-None : goal.returns-in-None
returns-in-None g c =
    let sink = g.K.Sink in
    let none : slice_get c.args.tasks.now c.args.entry.task ≡ None =
    slice_get_past c.args.tasks.now c.args.entry.task (ltb-false c.args.entry.task (length c.args.tasks.now) (sym c.in-None.ensures.lookup.0)) in
    subst (λ o. Wrote sink.held sink.faults sink.room sink.counts_failures c.args.sink.now c.args.sink.now
    (lines_text (lines_at o c.args.entry.place (reply_answer c.args.entry.reply)))) (sym none)
    (wrote_nothing sink.held sink.faults sink.room sink.counts_failures c.args.sink.now)

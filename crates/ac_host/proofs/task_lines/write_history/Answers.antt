use Rattle.std.proofs.Common.{◌+◌, drop, get_or, refl, None}
use Rattle.ac_meaning.specs.TaskBlocks.{history_lines}
use Rattle.ac_host.proofs.LinesOfTasks.{told, entry_lines, history_next}
use Rattle.ac_host.proofs.OneLine.{leaves_broken}
use Rattle.ac_host.proofs.Telling.{so_far_more, so_far_broke}
use Rattle.ac_host.proofs.task_lines.write_history.Goals as goal

pub returns-in_err-write_entry : goal.returns-in_err-write_entry
returns-in_err-write_entry g c =
    let sink = g.K.Sink in
    let tasks = c.args.tasks.now in
    let history = c.args.history.now in
    let i = c.loop-entry.entry-index in
    leaves_broken sink.held sink.faults sink.room sink.counts_failures c.from_residual.result c.from_residual.ensures.1
    (so_far_broke sink.held sink.faults sink.room sink.counts_failures c.args.sink.now c.loop-entry.sink c.write_entry.new.sink
    (told (history_lines tasks (drop i history))) (told (history_lines tasks history)) (told (entry_lines tasks (get_or history i _)))
    (λ _ _. told (history_lines tasks (drop (i + 1) history))) c.in_err-write_entry.field-0.0
    (history_next tasks history i _ c.loop-entry-test.true) c.loop-entry.invariant c.in_err-write_entry.ensures)

pub loop-entry-preserved : goal.loop-entry-preserved
loop-entry-preserved g c =
    let sink = g.K.Sink in
    let tasks = c.args.tasks.now in
    let history = c.args.history.now in
    let i = c.loop-entry.entry-index in
    so_far_more sink.held sink.faults sink.room sink.counts_failures c.args.sink.now c.loop-entry.sink c.write_entry.new.sink
    (told (history_lines tasks (drop i history))) (told (history_lines tasks history)) (told (entry_lines tasks (get_or history i _)))
    (λ _ _. told (history_lines tasks (drop (i + 1) history))) None
    (history_next tasks history i _ c.loop-entry-test.true) refl c.loop-entry.invariant c.in_ok-write_entry.ensures

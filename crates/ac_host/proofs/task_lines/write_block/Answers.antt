use Rattle.std.proofs.Common.{subst}
use Rattle.ac_history.specs.Blocks.{present}
use Rattle.ac_calls.specs.Answers.{lines_text}
use Rattle.ac_meaning.specs.TaskBlocks.{history_lines, stalled_lines}
use Rattle.ac_host.specs.Writing.{Wrote}
use Rattle.ac_host.proofs.LinesOfTasks.{writes_then}
use Rattle.ac_host.proofs.task_lines.write_block.Goals as goal

pub returns : goal.returns
returns g c =
    let sink = g.K.Sink in
    let tasks = c.args.tasks.now in
    let b = c.args.book.now in
    writes_then sink.held sink.faults sink.room sink.counts_failures c.args.sink.now c.write_history.new.sink c.write_stalled.new.sink
    (history_lines tasks b.history) (stalled_lines tasks (present b).tasks) c.write_stalled.result
    (subst (λ h. Wrote sink.held sink.faults sink.room sink.counts_failures c.args.sink.now c.write_history.new.sink (lines_text (history_lines tasks h)))
    c.history.ensures c.in_ok-write_history.ensures)
    c.write_stalled.ensures

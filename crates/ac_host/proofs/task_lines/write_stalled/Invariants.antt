use Rattle.std.proofs.Common.{drop}
use Rattle.ac_history.specs.Blocks.{present}
use Rattle.ac_meaning.specs.TaskBlocks.{stalled_lines}
use Rattle.ac_host.specs.Writing.{WroteSoFar}
use Rattle.ac_host.proofs.LinesOfTasks.{told}
use Rattle.ac_host.proofs.task_lines.write_stalled.Given as goal

abbrev pub invariant-loop-task : goal.invariant-loop-task
invariant-loop-task g l =
    let sink = g.K.Sink in
    let states = (present l.book).tasks in
    WroteSoFar sink.held sink.faults sink.room sink.counts_failures l.fn.sink l.sink (told (stalled_lines (drop l.task l.tasks) (drop l.task states)))
    (told (stalled_lines l.tasks states))

use Rattle.std.proofs.Common.{drop}
use Rattle.ac_meaning.specs.TaskBlocks.{history_lines}
use Rattle.ac_host.specs.Writing.{WroteSoFar}
use Rattle.ac_host.proofs.LinesOfTasks.{told}
use Rattle.ac_host.proofs.task_lines.write_history.Given as goal

abbrev pub invariant-loop-entry : goal.invariant-loop-entry
invariant-loop-entry g l =
    let sink = g.K.Sink in
    WroteSoFar sink.held sink.faults sink.room sink.counts_failures l.fn.sink l.sink (told (history_lines l.tasks (drop l.entry-index l.history)))
    (told (history_lines l.tasks l.history))

use Rattle.std.proofs.Common.{◌≡◌, ◌++◌, drop}
use Rattle.ac_rules.specs.ResolvedStatements.{resolved_tasks_of}
use Rattle.ac_meaning.specs.TaskBlocks.{tasks_from}
use Rattle.ac_host.proofs.task_code.tasks_of.Given as goal

abbrev pub invariant-loop-task : goal.invariant-loop-task
invariant-loop-task l =
    l.made.items ++ tasks_from (resolved_tasks_of (drop l.task-index l.task-items)) l.places l.first ≡ tasks_from l.tasks l.places l.fn.first

use Rattle.std.proofs.Common.{◌≡◌, drop}
use Rattle.ac_rules.specs.ResolvedStatements.{resolved_tasks_of}
use Rattle.ac_meaning.specs.TaskBlocks.{places_shared, queue_places}
use Rattle.ac_host.proofs.places.queue_places.Given as goal

abbrev pub invariant-loop-task : goal.invariant-loop-task
invariant-loop-task l = places_shared (resolved_tasks_of (drop l.task-index l.task-items)) l.places.items ≡ queue_places l.tasks

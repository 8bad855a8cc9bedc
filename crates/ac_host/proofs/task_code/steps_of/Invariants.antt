use Rattle.std.proofs.Common.{◌≡◌, ◌++◌, drop}
use Rattle.ac_rules.specs.ResolvedStatements.{resolved_of}
use Rattle.ac_meaning.specs.TaskBlocks.{steps_of}
use Rattle.ac_host.proofs.task_code.steps_of.Given as goal

abbrev pub invariant-loop-step : goal.invariant-loop-step
invariant-loop-step l = l.made.items ++ steps_of l.places l.first (resolved_of (drop l.step-index l.step-items)) ≡ steps_of l.places l.first l.steps

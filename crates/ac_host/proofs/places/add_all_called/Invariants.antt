use Rattle.std.proofs.Common.{◌≡◌, drop}
use Rattle.ac_rules.specs.ResolvedStatements.{resolved_of}
use Rattle.ac_meaning.specs.TaskBlocks.{places_called}
use Rattle.ac_host.proofs.places.add_all_called.Given as goal

abbrev pub invariant-loop-step : goal.invariant-loop-step
invariant-loop-step l = places_called (resolved_of (drop l.step-index l.step-items)) l.places.items ≡ places_called l.steps l.initial.places.items

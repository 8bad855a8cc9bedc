use Rattle.std.proofs.Common.{◌≡◌, ◌≤◌, take}
use Rattle.std.specs.List.{sum_by}
use Rattle.ac_book.specs.Running.{added_by}
use Rattle.ac_book.proofs.prepare.enqueues.Given as goal

abbrev pub invariant-loop-step : goal.invariant-loop-step
invariant-loop-step l = (l.count ≡ sum_by added_by (take l.step-index l.steps)) × (l.count ≤ l.step-index)

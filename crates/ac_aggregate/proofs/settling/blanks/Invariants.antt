use Rattle.std.proofs.Common.{◌≡◌, ◌++◌, drop}
use Rattle.ac_aggregate.specs.Answers.{bounds_view}
use Rattle.ac_aggregate.specs.Settled.{names_of}
use Rattle.ac_aggregate.proofs.settling.blanks.Given as goal

abbrev pub invariant-loop-name : goal.invariant-loop-name
invariant-loop-name l = names_of (bounds_view l.made.items) ++ drop l.name-index l.generators ≡ l.generators

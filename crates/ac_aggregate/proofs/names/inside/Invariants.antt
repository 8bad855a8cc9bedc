use Rattle.std.proofs.Common.{◌≡◌, ◌++◌, ◌∷◌, drop}
use Rattle.ac_aggregate.proofs.names.inside.Given as goal

abbrev pub invariant-loop-generator : goal.invariant-loop-generator
invariant-loop-generator l = l.made.items ++ drop l.generator-index l.generators ≡ l.own ∷ l.generators

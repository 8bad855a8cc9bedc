use Rattle.std.proofs.Common.{◌≡◌, ◌++◌, ◌∷◌, drop}
use Rattle.ac_aggregate.specs.Generators.{generator}
use Rattle.ac_aggregate.specs.Typed.{typed_view}
use Rattle.ac_aggregate.proofs.sorting.inside.Given as goal

abbrev pub invariant-loop-generator : goal.invariant-loop-generator
invariant-loop-generator l = typed_view l.made.items ++ typed_view (drop l.generator-index l.outer) ≡ generator l.own l.fn.kind ∷ typed_view l.outer

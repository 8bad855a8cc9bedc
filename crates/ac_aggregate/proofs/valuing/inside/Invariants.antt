use Rattle.std.proofs.Common.{◌≡◌, ◌++◌, ◌∷◌, drop}
use Rattle.ac_aggregate.specs.Answers.{val_view, bounds_view}
use Rattle.ac_aggregate.specs.Generators.{generator}
use Rattle.ac_aggregate.proofs.valuing.inside.Given as goal

abbrev pub invariant-loop-generator : goal.invariant-loop-generator
invariant-loop-generator l =
    bounds_view l.made.items ++ bounds_view (drop l.generator-index l.outer) ≡ generator l.fn.own (val_view l.fn.value) ∷ bounds_view l.outer

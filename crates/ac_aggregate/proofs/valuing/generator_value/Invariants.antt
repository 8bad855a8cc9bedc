use Rattle.std.proofs.Common.{◌≡◌, drop}
use Rattle.ac_aggregate.specs.Answers.{bounds_view}
use Rattle.ac_aggregate.specs.Generators.{innermost}
use Rattle.ac_aggregate.proofs.valuing.generator_value.Given as goal

abbrev pub invariant-loop-generator : goal.invariant-loop-generator
invariant-loop-generator l = innermost (bounds_view (drop l.generator-index l.generators)) l.word ≡ innermost (bounds_view l.generators) l.word

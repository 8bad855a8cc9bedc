use Rattle.std.proofs.Common.{◌≡◌, drop}
use Rattle.ac_aggregate.specs.Generators.{innermost}
use Rattle.ac_aggregate.specs.Typed.{typed_view}
use Rattle.ac_aggregate.proofs.sorting.generator_kind.Given as goal

abbrev pub invariant-loop-generator : goal.invariant-loop-generator
invariant-loop-generator l = innermost (typed_view (drop l.generator-index l.generators)) l.word ≡ innermost (typed_view l.generators) l.word

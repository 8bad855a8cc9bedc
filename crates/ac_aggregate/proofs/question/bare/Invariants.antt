use Rattle.std.proofs.Common.{◌≡◌, ◌++◌}
use Rattle.ac_syntax.specs.Tokens.{tokens}
use Rattle.ac_aggregate.proofs.question.bare.Given as goal

abbrev pub invariant-loop-one : goal.invariant-loop-one
invariant-loop-one l = l.made.items ++ tokens l.one-iterator.rest.items ≡ tokens l.fn.placed.items

use Rattle.std.proofs.Common.{◌≡◌}
use Rattle.ac_tree.specs.Copying.{raised_by}
use Rattle.ac_tree.proofs.copying.raised.Given as goal

abbrev pub invariant-loop : goal.invariant-loop
invariant-loop g l = l.place ≡ raised_by l.fn.links l.counter l.fn.node

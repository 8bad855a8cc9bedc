use Rattle.std.proofs.Common.{◌∷◌, length, reverse}
use Rattle.ac_chain.specs.Put.{IsFirst}
use Rattle.ac_chain.proofs.Puts.{Putting}
use Rattle.ac_chain.proofs.put.put_each.Given as goal

abbrev pub invariant-loop-value : goal.invariant-loop-value
invariant-loop-value g l = Putting l.fn.chain l.place (l.fn.first ∷ reverse l.fn.others.items) l.others.items l.chain × IsFirst l.fn.chain.next_serial l.chain l.name

abbrev pub decreases-loop-value : goal.decreases-loop-value
decreases-loop-value g l = length l.others.items

use Rattle.std.proofs.Common.{◌∷◌, ◌-◌, reverse, replicate}
use Rattle.ac_chain.specs.Put.{IsFirst}
use Rattle.ac_chain.proofs.Puts.{Putting}
use Rattle.ac_chain.proofs.put.put_again.Given as goal

abbrev pub invariant-loop-i : goal.invariant-loop-i
invariant-loop-i g l = Putting l.fn.chain l.place (l.e ∷ reverse (replicate l.more l.e)) (replicate (l.more - l._i) l.e) l.chain × IsFirst l.fn.chain.next_serial l.chain l.name

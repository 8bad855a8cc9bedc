use Rattle.ac_chain.specs.Rows.{IsSound}
use Rattle.ac_chain.proofs.Orders.{Relinked}
use Rattle.ac_chain.proofs.chain.Chain.relink.Given as goal

abbrev pub invariant-loop-name : goal.invariant-loop-name
invariant-loop-name g l = record {
  relinked : Relinked l.order l.name-index l.fn.self l.self;
  sound : IsSound l.self;
}

use Rattle.std.proofs.Common.{◌≡◌, ◌-◌, length}
use Rattle.ac_pool.specs.NamedRows.{index_of}
use Rattle.ac_chain.specs.Rows.{IsSound}
use Rattle.ac_chain.proofs.Orders.{Turned}
use Rattle.ac_chain.proofs.chain.Chain.turn.Given as goal

abbrev pub invariant-loop-name : goal.invariant-loop-name
invariant-loop-name g l = record {
  turned : Turned l.head l.fn.self.rows l.self.rows;
  next : l.self.next_serial ≡ l.fn.self.next_serial;
  spare : l.self.spare ≡ l.fn.self.spare;
  sound : IsSound l.self;
}

abbrev pub decreases-loop-name : goal.decreases-loop-name
decreases-loop-name g l = length l.self.rows - index_of l.head l.self.rows

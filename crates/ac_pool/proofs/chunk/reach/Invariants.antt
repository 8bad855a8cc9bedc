use Rattle.std.proofs.Common.{◌≡◌, ◌≤◌, ◌⊎◌}
use Rattle.ac_pool.specs.Reached.{Reaches}
use Rattle.ac_pool.proofs.chunk.reach.Given as goal

abbrev pub invariant-loop-at : goal.invariant-loop-at
invariant-loop-at g l = record {
  same : l.value ≡ l.fn.given;
  from : l.reached ≤ l.at;
  ends : (l.at ≤ l.index) ⊎ (l.at ≡ l.reached);
  reaches : Reaches l.initial.block.cells l.block.cells l.reached l.at;
}

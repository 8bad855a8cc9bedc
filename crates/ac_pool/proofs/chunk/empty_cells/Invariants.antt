use Rattle.ac_pool.specs.Reached.{IsEmptiedTo}
use Rattle.ac_pool.proofs.chunk.empty_cells.Given as goal

abbrev pub invariant-loop-index : goal.invariant-loop-index
invariant-loop-index g l = IsEmptiedTo l.initial.block.cells l.block.cells l.index

use Rattle.std.proofs.Common.{◌≡◌, map, take}
use Rattle.ac_base.specs.Rows.{names}
use Rattle.ac_chain.specs.Sorting.{row_at}
use Rattle.ac_chain.proofs.sort.names_of.Given as goal

abbrev pub invariant-loop-row : goal.invariant-loop-row
invariant-loop-row g l = l.made.items ≡ names (map row_at (take l.row-index l.rows))

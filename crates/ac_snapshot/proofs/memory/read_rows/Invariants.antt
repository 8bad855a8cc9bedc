use Rattle.std.proofs.Common.{◌≡◌, true, take}
use Rattle.std.specs.List.{list_all}
use Rattle.ac_snapshot.specs.Representable.{is_row_representable}
use Rattle.ac_snapshot.proofs.memory.read_rows.Given as goal

abbrev pub invariant-loop-row : goal.invariant-loop-row
invariant-loop-row l = list_all is_row_representable (take l.row-index l.rows) ≡ true

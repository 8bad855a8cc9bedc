use Rattle.std.proofs.Common.{◌≡◌, ◌-◌}
use Rattle.ac_base.specs.declared.limit.TheConstants.{GREATEST_LENGTH}
use Rattle.ac_snapshot.specs.Outcomes.{behind}
use Rattle.ac_snapshot.specs.RowReaders.{rows_by}
use Rattle.ac_snapshot.proofs.row_reader.rows_from.Given as goal

abbrev pub invariant-loop : goal.invariant-loop
invariant-loop l = rows_by GREATEST_LENGTH l.fn.def 2 l.fn.text ≡ behind l.rows.items (rows_by (GREATEST_LENGTH - l.counter) l.fn.def l.level l.left)

use Rattle.ac_model.proofs.RowLaws.{sorted_rows, sorted_ascends, sorted_stable}
use Rattle.ac_model.proofs.row_laws.sorted_lists.Goals as goal

pub returns-clause-same_rows : goal.returns-clause-same_rows
returns-clause-same_rows g c = sorted_rows

pub returns-clause-in_order : goal.returns-clause-in_order
returns-clause-in_order g c = sorted_ascends

pub returns-clause-stable : goal.returns-clause-stable
returns-clause-stable g c = sorted_stable

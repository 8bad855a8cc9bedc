use Rattle.ac_model.proofs.RowLaws.{merged_with_none, merged_rows}
use Rattle.ac_model.proofs.row_laws.merged_lists.Goals as goal

pub returns-clause-none_second : goal.returns-clause-none_second
returns-clause-none_second g c = merged_with_none

pub returns-clause-rows_of_both : goal.returns-clause-rows_of_both
returns-clause-rows_of_both g c = merged_rows

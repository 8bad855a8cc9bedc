use Rattle.ac_model.proofs.RowLaws.{fresh_names, fresh_values}
use Rattle.ac_model.proofs.row_laws.fresh_rows.Goals as goal

pub returns-clause-names_in_order : goal.returns-clause-names_in_order
returns-clause-names_in_order g c = fresh_names

pub returns-clause-over_values : goal.returns-clause-over_values
returns-clause-over_values g c = fresh_values

use Rattle.ac_snapshot.proofs.RowsBack.{form_stands, forms_are_rows, forms_are_values, rows_have_form}
use Rattle.ac_snapshot.proofs.law.rows_stand.Goals as goal

pub returns-clause-forms : goal.returns-clause-forms
returns-clause-forms c = form_stands

pub returns-clause-rows : goal.returns-clause-rows
returns-clause-rows c = rows_have_form

pub returns-clause-are_rows : goal.returns-clause-are_rows
returns-clause-are_rows c = forms_are_rows

pub returns-clause-are_values : goal.returns-clause-are_values
returns-clause-are_values c = forms_are_values

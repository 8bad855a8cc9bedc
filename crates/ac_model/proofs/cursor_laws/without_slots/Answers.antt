use Rattle.ac_model.proofs.Unslotted.{seen_marks, seen_tree_marks}
use Rattle.ac_model.proofs.cursor_laws.without_slots.Goals as goal

pub returns-clause-in_rows : goal.returns-clause-in_rows
returns-clause-in_rows g c = seen_marks

pub returns-clause-in_tree : goal.returns-clause-in_tree
returns-clause-in_tree g c = seen_tree_marks

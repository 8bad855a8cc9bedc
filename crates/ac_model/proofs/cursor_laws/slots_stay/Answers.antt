use Rattle.ac_model.proofs.Unslotted.{agreement_kept, tree_agreement_kept}
use Rattle.ac_model.proofs.cursor_laws.slots_stay.Goals as goal

pub returns-clause-in_rows : goal.returns-clause-in_rows
returns-clause-in_rows g c = agreement_kept

pub returns-clause-in_tree : goal.returns-clause-in_tree
returns-clause-in_tree g c = tree_agreement_kept

use Rattle.ac_model.proofs.OutlineLaws.{has_parent}
use Rattle.ac_model.proofs.row_laws.outlines.Goals as goal

pub returns : goal.returns
returns g c = has_parent

use Rattle.std.proofs.Common.{subst}
use Rattle.ac_model.specs.Objects.{IsValid, plain}
use Rattle.ac_tree_calls.proofs.tree_rows.row_object.TreeRowsRowObject.law.Goals as goal

pub returns : goal.returns
returns g c = subst (λ x. IsValid (plain x.object)) c.self.view_is c.law.ensures.as_object

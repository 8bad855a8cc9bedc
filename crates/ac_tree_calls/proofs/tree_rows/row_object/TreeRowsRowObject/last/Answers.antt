use Rattle.std.proofs.Common.{subst}
use Rattle.ac_model.specs.Calls.{Marks}
use Rattle.ac_model.specs.Objects.{plain}
use Rattle.ac_model.specs.Sequences.{last_call}
use Rattle.ac_tree_calls.proofs.NodeLooks.{in_row, row_marks}
use Rattle.ac_tree_calls.proofs.tree_rows.row_object.TreeRowsRowObject.last.Goals as goal

pub returns : goal.returns
returns g c =
    let o = (g.C.TreeLike.seen c.self.inside.tree).object in
    let valid = c.law.ensures.as_object in
    subst (λ x. Marks x.object c.last.result (last_call (plain x.object))) c.self.view_is
    (row_marks o valid c.last.result _ (in_row o valid _) c.last.ensures)

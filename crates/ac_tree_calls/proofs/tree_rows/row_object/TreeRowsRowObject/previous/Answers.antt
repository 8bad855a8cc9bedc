use Rattle.std.proofs.Common.{if◌then◌else◌, subst}
use Rattle.ac_model.specs.Calls.{Marks}
use Rattle.ac_model.specs.Forms.{Looks, seen_by}
use Rattle.ac_model.specs.Objects.{plain}
use Rattle.ac_model.specs.Letters.{no_mark, is_no_mark, place_at}
use Rattle.ac_model.specs.Sequences.{mark_before, previous_call}
use Rattle.ac_tree_calls.proofs.NodeLooks.{previous_row, step_same}
use Rattle.ac_tree_calls.proofs.tree_rows.row_object.TreeRowsRowObject.previous.Goals as goal

pub returns : goal.returns
returns g c =
    let o = (g.C.TreeLike.seen c.self.inside.tree).object in
    let valid = c.law.ensures.as_object in
    subst (λ x. Looks (Marks x.object) (λ p. previous_call p (seen_by x c.args.c)) x c.previous.result) c.self.view_is
    (step_same o valid (λ m. if is_no_mark m then no_mark else mark_before (plain o) (place_at (plain o).rows m)) c.args.c c.previous.result
    (λ m. previous_row o valid (is_no_mark m) (place_at (plain o).rows m)) c.previous.ensures)

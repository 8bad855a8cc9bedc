use Rattle.std.proofs.Common.{◌+◌, if◌then◌else◌, subst}
use Rattle.ac_model.specs.Calls.{Marks}
use Rattle.ac_model.specs.Forms.{Looks, seen_by}
use Rattle.ac_model.specs.Objects.{plain}
use Rattle.ac_model.specs.Letters.{no_mark, mark_in, is_no_mark, place_at}
use Rattle.ac_model.specs.Sequences.{next_call}
use Rattle.ac_tree_calls.proofs.NodeLooks.{next_row, step_same}
use Rattle.ac_tree_calls.proofs.tree_rows.row_object.TreeRowsRowObject.next.Goals as goal

pub returns : goal.returns
returns g c =
    let o = (g.C.TreeLike.seen c.self.inside.tree).object in
    let valid = c.law.ensures.as_object in
    subst (λ x. Looks (Marks x.object) (λ p. next_call p (seen_by x c.args.c)) x c.next.result) c.self.view_is
    (step_same o valid (λ m. if is_no_mark m then no_mark else mark_in (plain o) (place_at (plain o).rows m + 1)) c.args.c c.next.result
    (λ m. next_row o valid (is_no_mark m) (place_at (plain o).rows m + 1)) c.next.ensures)

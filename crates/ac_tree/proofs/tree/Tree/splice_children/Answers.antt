use Rattle.std.proofs.Common.{sym}
use Rattle.ac_model.proofs.Reasons.{passed}
use Rattle.ac_tree.proofs.tree.Tree.splice_children.Goals as goal

pub move_below-requires : goal.move_below-requires
move_below-requires g c = sym (passed _ _ c.in_ok-allowed.ensures c.refuses_splice_children.ensures)

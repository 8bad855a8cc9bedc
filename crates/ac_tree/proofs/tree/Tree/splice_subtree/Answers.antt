use Rattle.std.proofs.Common.{sym}
use Rattle.ac_model.proofs.Reasons.{passed}
use Rattle.ac_tree.proofs.tree.Tree.splice_subtree.Goals as goal

pub relocate-requires : goal.relocate-requires
relocate-requires g c = sym (passed _ _ c.in_ok-allowed.ensures c.refuses_splice.ensures)

use Rattle.ac_model.specs.Objects.{plain}
use Rattle.ac_tree_calls.proofs.OwnNodes.{node_look, spot_own}
use Rattle.ac_tree_calls.proofs.tree_calls.own_cursors.first_child.Goals as goal

pub returns : goal.returns
returns g c = let o = (g.C.TreeLike.seen c.args.tree.now).object in node_look o _ _ (spot_own (plain o) _) c.first_child.ensures

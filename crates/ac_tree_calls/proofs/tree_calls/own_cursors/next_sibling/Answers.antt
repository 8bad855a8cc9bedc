use Rattle.ac_model.specs.Objects.{plain}
use Rattle.ac_tree_calls.proofs.OwnNodes.{node_look, spot_or_none}
use Rattle.ac_tree_calls.proofs.tree_calls.own_cursors.next_sibling.Goals as goal

pub returns : goal.returns
returns g c = let o = (g.C.TreeLike.seen c.args.tree.now).object in node_look o _ _ (spot_or_none (plain o) _ _) c.next_sibling.ensures

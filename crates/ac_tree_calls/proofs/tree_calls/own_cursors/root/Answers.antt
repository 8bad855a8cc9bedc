use Rattle.std.proofs.Common.{refl}
use Rattle.ac_model.specs.Objects.{plain}
use Rattle.ac_model.specs.Trees.{root_call}
use Rattle.ac_tree_calls.proofs.OwnNodes.{node_cursor}
use Rattle.ac_tree_calls.proofs.tree_calls.own_cursors.root.Goals as goal

pub returns : goal.returns
returns g c = let o = (g.C.TreeLike.seen c.args.tree.now).object in node_cursor o c.root.result (root_call (plain o)) refl c.root.ensures

use Rattle.ac_snapshot.proofs.FillingTrees.{trees_filled}
use Rattle.ac_snapshot.proofs.fill_tree_law.trees_fill.Goals as goal

pub returns : goal.returns
returns c = trees_filled

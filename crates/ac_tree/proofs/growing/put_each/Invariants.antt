use Rattle.std.proofs.Common.{◌∷◌, length, reverse}
use Rattle.ac_model.specs.Rows.{node}
use Rattle.ac_tree.specs.Inserting.{Hole, depth_at, nodes_at}
use Rattle.ac_tree.proofs.Putting.{Growing}
use Rattle.ac_tree.proofs.growing.put_each.Given as goal

abbrev pub invariant-loop-value : goal.invariant-loop-value
invariant-loop-value g l = (h : Hole l.fn.links l.parent l.before) → Growing l.fn.links l.parent l.before h (node (depth_at h) l.fn.first ∷ reverse (nodes_at (depth_at h) l.fn.others.items)) (nodes_at (depth_at h) l.others.items) l.links l.name

abbrev pub decreases-loop-value : goal.decreases-loop-value
decreases-loop-value g l = length l.others.items

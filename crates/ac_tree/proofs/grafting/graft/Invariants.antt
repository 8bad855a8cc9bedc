use Rattle.std.proofs.Common.{◌≡◌, length}
use Rattle.ac_tree.specs.Inserting.{Hole, depth_at}
use Rattle.ac_tree.proofs.Grafts.{Grafting}
use Rattle.ac_tree.proofs.grafting.graft.Given as goal

abbrev pub invariant-loop-item : goal.invariant-loop-item
invariant-loop-item g l = (h : Hole l.fn.links l.fn.parent l.fn.before) → depth_at h ≡ l.fn.first → Grafting l.fn.links l.fn.parent l.fn.before h l.fn.items.items l.links l.node l.depth l.made l.items.items

abbrev pub decreases-loop-item : goal.decreases-loop-item
decreases-loop-item g l = length l.items.items

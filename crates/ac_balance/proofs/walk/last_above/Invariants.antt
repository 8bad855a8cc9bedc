use Rattle.std.proofs.Common.{List, Some}
use Rattle.ac_balance.specs.Trees.{Tree, Step, before}
use Rattle.ac_balance.specs.Walking.{Placed, last_name}
use Rattle.ac_balance.proofs.Rising.{left_to}
use Rattle.ac_balance.proofs.Walks.{Rises}
use Rattle.ac_balance.proofs.walk.last_above.Given as goal

abbrev pub invariant-loop-above : goal.invariant-loop-above
invariant-loop-above g l = (steps : List (Step _)) (t : Tree _) → Placed l.nodes l.fn.name steps t → Rises l.nodes before last_name (last_name (before steps)) l.below

abbrev pub decreases-loop-above : goal.decreases-loop-above
decreases-loop-above g l = left_to l.nodes (Some l.below)

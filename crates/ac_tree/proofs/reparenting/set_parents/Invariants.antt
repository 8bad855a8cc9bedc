use Rattle.std.proofs.Common.{◌≡◌, ◌-◌, length, List, None}
use Rattle.ac_chain.specs.Rows.{place_of}
use Rattle.ac_tree.specs.Forests.{Forest, Step, plugged, parent_in, prev_in}
use Rattle.ac_tree.specs.TreeFields.{StandsFor}
use Rattle.ac_tree.specs.TreeRows.{rows_of}
use Rattle.ac_tree.proofs.ReparentedLinks.{ReparentsOn}
use Rattle.ac_tree.proofs.reparenting.set_parents.Given as goal

abbrev pub invariant-loop-place : goal.invariant-loop-place
invariant-loop-place g l = (steps : List (Step _)) (below : Forest _) → StandsFor l.fn.links (plugged steps below) → parent_in steps ≡ l.fn.from → prev_in steps ≡ None → ReparentsOn l.fn.links l.parent below l.links l.place

abbrev pub decreases-loop-place : goal.decreases-loop-place
decreases-loop-place g l = length (rows_of l.fn.links).rows - place_of l.place (rows_of l.fn.links).rows

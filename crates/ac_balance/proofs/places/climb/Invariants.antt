use Rattle.std.proofs.Common.{◌≡◌, List, Option}
use Rattle.ac_balance.specs.Trees.{tall}
use Rattle.ac_base.specs.declared.name.Name.{Name}
use Rattle.ac_base.specs.Rows.{Row}
use Rattle.ac_balance.specs.TreeFields.{high}
use Rattle.ac_balance.specs.Climbing.{IsClimbing, Climbing, Relinks}
use Rattle.ac_balance.proofs.Rising.{left_to}
use Rattle.ac_balance.proofs.places.climb.Given as goal

abbrev pub invariant-loop-place : goal.invariant-loop-place
invariant-loop-place g l = record {
  is : IsClimbing l.nodes l.place;
  top : l.part.top ≡ l.place.top;
  measured : l.part.height ≡ high l.nodes l.part.top;
  kept : (base : Option Name) (rows : List (Row Name _)) (k : Climbing l.fn.nodes l.fn.from base rows) → (up : Climbing l.nodes l.place base rows) × (tall up.steps up.was ≡ tall k.steps k.was) × Relinks rows l.fn.nodes l.nodes;
}

abbrev pub decreases-loop-place : goal.decreases-loop-place
decreases-loop-place g l = left_to l.nodes l.place.parent

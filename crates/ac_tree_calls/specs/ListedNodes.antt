-- What stands behind a node in a tree's listing, where the walk goes on at this cursor and depth.
use Rattle.std.specs.Prelude.{ℕ, List, ◌-◌, replicate}
use Rattle.ac_base.specs.declared.cursor.Cursor.{Cursor}
use Rattle.ac_base.specs.declared.cursor.Cursor.TheVariants.{NoElement, At}
use Rattle.ac_calls.specs.Listings.{between_nodes}

abbrev pub follows : (depth : ℕ) → Cursor → (next : ℕ) → List ℕ
follows depth NoElement next = replicate (depth - 2) 93
follows depth (At object name) next = between_nodes depth next

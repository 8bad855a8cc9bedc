-- What a block ends as, once a `&mut` to a value in it has ended.
use Rattle.std.specs.Prelude.{ℕ, List, slice_set, Option, Some}
use Rattle.std.specs.Borrow.{Fml, RattleType, MutBor, Lends}
use Rattle.ac_pool.specs.declared.block.Block.{Block}
use Rattle.ac_pool.specs.contracts.block.Block.{the_row}
use Rattle.ac_pool.specs.Places.{serial_at_place}

abbrev pub with_cells : {X : Type 0} → Block X → List (Option (ℕ × Option X)) → Block X
with_cells c cells = record { first = c.first; cells = cells }

abbrev pub lends_place_value : (R : RattleType) → MutBor (Block R.Denot) → ℕ → MutBor R.Denot → Fml
lends_place_value R c i r = Lends (the_row R) R c r (λ w. with_cells c.now (slice_set c.now.cells i (Some (serial_at_place c.now.cells i, Some w))))

-- What a chunk ends as, once a `&mut` to a value of it has ended.
use Rattle.std.specs.Prelude.{ℕ, List, slice_set, Option, Some}
use Rattle.std.specs.Borrow.{Fml, RattleType, MutBor, Lends}
use Rattle.ac_pool.specs.contracts.chunk.Chunk.{the_row}
use Rattle.ac_pool.specs.Cell.{serial_at}

abbrev pub lends_cell_value : (R : RattleType) → MutBor (List (Option (ℕ × R.Denot))) → ℕ → MutBor R.Denot → Fml
lends_cell_value R c i r = Lends (the_row R) R c r (λ w. slice_set c.now i (Some (serial_at c.now i, w)))

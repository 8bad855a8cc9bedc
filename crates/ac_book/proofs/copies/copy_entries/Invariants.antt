use Rattle.std.proofs.Common.{◌≡◌, take, vec_len}
use Rattle.std.specs.Vec.{vec_capacity}
use Rattle.ac_book.proofs.copies.copy_entries.Given as goal

abbrev pub invariant-loop-entry : goal.invariant-loop-entry
invariant-loop-entry l = (l.made.items ≡ take l.entry-index l.entries) × (vec_len l.made ≡ l.entry-index) × (vec_capacity l.made ≡ l.room)

-- What a sequence is after its rows changed and none of them is new.
use Rattle.std.proofs.Common.{◌≡◌, ℕ, ◌+◌, ◌<◌, List, length, Option, IsTrue, arith}
use Rattle.ac_base.specs.declared.limit.Limit.{Limit}
use Rattle.ac_base.specs.declared.limit.Limit.TheVariants.{Unbounded, Bounded}
use Rattle.ac_base.specs.declared.name.Name.{Name}
use Rattle.ac_base.specs.Guards.{GuardCounts}
use Rattle.ac_chain.specs.Rows.{Chained, IsSound}
use Rattle.ac_pool.specs.NamedRows.{HasName}
use Rattle.ac_base.specs.Rows.{Row, names}
use Rattle.ac_model.specs.Objects.{plain, plains, with_rows}
use Rattle.ac_model.specs.Letters.{is_among}
use Rattle.ac_model.specs.Calls.{IsAfter}
use Rattle.ac_chain.specs.Sequence.{object_of, IsSequence}
use Rattle.ac_chain.proofs.Marks.{has_among}
use Rattle.ac_chain.proofs.Grows.{all_from}

module _ {X : Type 0} where
  pub rows_after : (g : GuardCounts) (l : Limit) (capacity : Option ℕ) (k now : Chained X) (rows : List (Row ℕ X)) → now.next_serial ≡ k.next_serial → plains now.rows ≡ rows
      → ((a : Name) → HasName a now.rows → HasName a k.rows) → IsAfter (object_of g l capacity k) (object_of g l capacity now) (with_rows (plain (object_of g l capacity k)) rows)
  rows_after g l capacity k now rows next are had = record {
    plainly = λ i. record { number = g.number; limit = l; capacity = capacity; next = next i; rows = are i; cursor_guards = g.cursor_guards; element_guards = g.element_guards };
    slots = all_from (λ name. name.serial < k.next_serial → IsTrue (is_among (names k.rows) name)) now.rows (λ a t lt. has_among a k.rows (had a t));
  }

  -- a sequence keeps its slots where as many rows stand in as many slots
  pub sequence_same : (l : Limit) (k now : Chained X) → IsSequence l k → length now.rows ≡ length k.rows → now.spare ≡ k.spare → IsSound now → IsSequence l now
  sequence_same Unbounded k now s rows spare sound = let most = s.within_greatest in record { sound = sound; within_greatest = omega arith; is_limit = tt; has_slots = tt }
  sequence_same (Bounded most) k now s rows spare sound =
      let greatest = s.within_greatest in let sum = s.has_slots in let total : length now.rows + now.spare ≡ most = omega arith in
      record { sound = sound; within_greatest = omega arith; is_limit = s.is_limit; has_slots = total }

-- What the fields of a sequence, a list or a vector, are seen as, and what holds of them.
use Rattle.std.specs.Prelude.{◌≡◌, ◌+◌, ◌≤◌, ℕ, length, Option, IfSome, Result, Ok, Err}
use Rattle.ac_base.specs.declared.limit.Limit.{Limit}
use Rattle.ac_base.specs.declared.limit.TheConstants.{GREATEST_LENGTH}
use Rattle.ac_base.specs.declared.fault.NoMemory.{NoMemory}
use Rattle.ac_base.specs.declared.name.Name.{Name}
use Rattle.ac_base.specs.Guards.{GuardCounts}
use Rattle.ac_base.specs.Limits.{IsLimit}
use Rattle.ac_chain.specs.Rows.{Chained, IsSound}
use Rattle.ac_model.specs.Objects.{Object, capacity_after}
use Rattle.ac_model.specs.Containers.{HasSlots, object_with}

module _ {T : Type 0} where
  -- the object of a sequence with these rows, and with this Capacity, where it has one
  abbrev pub object_of : GuardCounts → Limit → Option ℕ → Chained T → Object Name T
  object_of guards limit capacity c = object_with guards.number limit capacity c.next_serial c.rows guards.cursor_guards guards.element_guards

  -- a sequence that has a Capacity has as many slots
  abbrev pub HasCapacity : Option ℕ → Chained T → Type 0
  HasCapacity capacity c = IfSome capacity (λ n. n ≤ length c.rows + c.spare)

  -- what holds of every sequence
  pub record IsSequence (limit : Limit) (c : Chained T) : Type 0 where
    pub sound : IsSound c
    pub within_greatest : length c.rows ≤ GREATEST_LENGTH
    pub is_limit : IsLimit limit
    pub has_slots : HasSlots limit (length c.rows) c.spare

-- the Capacity after a call that leaves so many rows, or wants memory
abbrev pub Widens : {A : Type 0} → Result A NoMemory → Limit → Option ℕ → ℕ → Option ℕ → Type 0
Widens (Ok x) limit capacity length wider = capacity_after limit capacity length ≡ wider
Widens (Err e) limit capacity length wider = capacity ≡ wider

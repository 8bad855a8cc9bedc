-- What many rows at once leave of an index.
use Rattle.std.specs.Prelude.{◌≡◌, ◌≤◌, ℕ, Bool, false, max, nat_le, List, IfSome, IsTrue, Option, Some, None}
use Rattle.std.specs.List.{list_all}
use Rattle.ac_base.specs.declared.limit.Limit.{Limit}
use Rattle.ac_base.specs.Growth.{pow8}
use Rattle.ac_base.specs.Rows.{Row}
use Rattle.ac_model.specs.Common.{asks_for_memory}
use Rattle.ac_model.specs.Rows.{row_by}
use Rattle.ac_model.specs.Objects.{capacity_after, times}
use Rattle.ac_model.specs.Keyed.{Order}
use Rattle.ac_setwork.specs.Indexed.{Indexed, HasSlots, plain_rows, slots, slots_after}

-- so many rows are within the Capacity, or where there is none, no more than there are
abbrev pub holds : Option ℕ → ℕ → ℕ → Bool
holds None length need = nat_le need length
holds (Some capacity) length need = nat_le need capacity

module _ {V : Type 0} where
  -- a serial stands once
  abbrev pub NamesDiffer : Indexed V → Type 0
  NamesDiffer s = (name : ℕ) → times name (plain_rows s) ≤ 1

  -- there are slots for so many rows in all, and the Capacity follows
  pub record Widens (limit : Limit) (need : ℕ) (old new : Indexed V) : Type 0 where
    pub rows : new.rows ≡ old.rows
    pub next : new.next ≡ old.next
    pub capacity : new.capacity ≡ capacity_after limit old.capacity need
    pub enough : need ≤ slots new
    pub has_slots : HasSlots limit new.capacity (slots new)
    pub most : slots new ≤ max (slots old) (pow8 need)
    pub now_slots : slots new ≡ slots_after (slots old) need

  -- where there is a Capacity, so many rows are more than it has room for
  abbrev pub AsksForMemory : Limit → ℕ → Indexed V → Type 0
  AsksForMemory limit need s = IfSome s.capacity (λ _. IsTrue (asks_for_memory limit s.capacity need))

  -- the row is there, and equal
  abbrev pub is_equal_row : (V → V → Bool) → V → Option (Row ℕ V) → Bool
  is_equal_row same v None = false
  is_equal_row same v (Some r) = same v r.value

  -- each row has an equivalent one among the others that is equal
  abbrev pub are_matched : Order V → (V → V → Bool) → List V → List (Row ℕ V) → Bool
  are_matched order same vs others = list_all (λ v. is_equal_row same v (row_by (λ w. order.alike w v) others)) vs

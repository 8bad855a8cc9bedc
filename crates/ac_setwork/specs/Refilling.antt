-- What becomes of an index whose rows give way to others.
use Rattle.std.specs.Prelude.{◌≡◌, ◌+◌, ◌^◌, ◌<◌, ◌≤◌, ℕ, true, false, max, List, filter, length, IfSome}
use Rattle.ac_base.specs.Growth.{pow8}
use Rattle.ac_base.specs.Limits.{is_past}
use Rattle.ac_base.specs.declared.limit.Limit.{Limit}
use Rattle.ac_base.specs.declared.limit.TheConstants.{GREATEST_LENGTH}
use Rattle.ac_model.specs.Keyed.{Order, is_in_order}
use Rattle.ac_model.specs.Objects.{CapacityFits, capacity_after}
use Rattle.ac_model.specs.Rows.{fresh}
use Rattle.ac_setwork.specs.Indexed.{Indexed, HasSlots, plain_rows, slots}

module _ {V : Type 0} where
  -- values that a map or a set may have in this order, of which no two are equivalent
  pub record AreKeyed (order : Order V) (vs : List V) : Type 0 where
    pub keys_differ : (v : V) → length (filter (λ w. order.alike w v) vs) ≤ 1
    pub in_order : is_in_order order vs ≡ true

  -- so many rows may come in place of those that are there
  pub record MayTake (limit : Limit) (need : ℕ) (s : Indexed V) : Type 0 where
    pub few : need ≤ GREATEST_LENGTH
    pub within : is_past limit need ≡ false
    pub unspent : s.next + need < 2 ^ 64
    pub capacity_fits : IfSome s.capacity (CapacityFits limit (length s.rows))
    pub has_slots : HasSlots limit s.capacity (slots s)

  -- an index without rows took the values, under new names
  pub record IsFilled (vs : List V) (old new : Indexed V) : Type 0 where
    pub rows : plain_rows new ≡ fresh old.next vs
    pub next : new.next ≡ old.next + length vs
    pub spare : new.spare + length vs ≡ old.spare
    pub capacity : new.capacity ≡ old.capacity

  -- it took them in place of the rows that it had
  pub record IsRefilled (limit : Limit) (vs : List V) (old new : Indexed V) : Type 0 where
    pub rows : plain_rows new ≡ fresh old.next vs
    pub next : new.next ≡ old.next + length vs
    pub capacity : new.capacity ≡ capacity_after limit old.capacity (length vs)
    pub has_slots : HasSlots limit new.capacity (slots new)
    pub most : slots new ≤ max (slots old) (pow8 (length vs))

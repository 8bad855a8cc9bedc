-- What is seen of a set by set algebra, and what becomes of it.
use Rattle.std.specs.Prelude.{◌≡◌, ◌+◌, ◌-◌, ◌≤◌, ℕ, Bool, true, false, not, List, [], ◌∷◌, filter, length}
use Rattle.ac_base.specs.FirstReason.{first_reason}
use Rattle.ac_base.specs.Limits.{is_past, numbers_end}
use Rattle.ac_base.specs.declared.limit.TheConstants.{GREATEST_LENGTH}
use Rattle.ac_model.specs.Calls.{Call, call, Done, IsAfter, takes_some}
use Rattle.ac_model.specs.Capacities.{widened}
use Rattle.ac_model.specs.Containers.{Container, slots_of}
use Rattle.ac_model.specs.Keyed.{Order, added, has}
use Rattle.ac_model.specs.Letters.{room}
use Rattle.ac_model.specs.Objects.{Object, capacity_after, contents, length_of, plain, with_rows}
use Rattle.ac_setwork.specs.Indexed.{Indexed, slots_after}

-- it is so, or it isn't, as is asked for
abbrev pub is_as : Bool → Bool → Bool
is_as true found = found
is_as false found = not found

module _ {V : Type 0} where
  -- the value, where the test is passed
  abbrev pub those : Bool → V → List V
  those true v = v ∷ []
  those false v = []

  -- the rows, as those of an index
  abbrev pub indexed : Container V → Indexed V
  indexed c = record { rows = c.object.rows; next = c.object.next; capacity = c.object.capacity; spare = c.spare }

  -- the length once so many elements are gone and so many more came
  abbrev pub need_of : {N : Type 0} → Object N V → ℕ → ℕ → ℕ
  need_of o gone more = (length_of o - gone) + more

  -- room for so many more, once so many are gone
  abbrev pub room_call : ℕ → ℕ → Object ℕ V → Call (Object ℕ V) Done
  room_call gone more o = call takes_some (first_reason (room o (need_of o gone more) more)) (widened o (need_of o gone more)) tt

  -- the slots are those after the need of so many more, once so many are gone
  abbrev pub HasRoomFor : ℕ → ℕ → Container V → Container V → Type 0
  HasRoomFor gone more old new = slots_of new ≡ slots_after (slots_of old) (need_of old.object gone more)

  -- an element has an equivalent in the other set, or has none, as is asked for
  abbrev pub is_wanted : Order V → Object ℕ V → Bool → V → Bool
  is_wanted order other present v = is_as present (has order (contents other) v)

  -- the elements that are wanted stay
  pub record IsSifted (wanted : V → Bool) (old new : Container V) : Type 0 where
    pub after : IsAfter old.object new.object (with_rows (plain old.object) (filter (λ r. wanted r.value) (plain old.object).rows))
    pub slots : slots_of new ≡ slots_of old

  -- the object with these values added, whose Capacity has room for them
  abbrev pub with_all : Order V → Object ℕ V → List V → Object ℕ V
  with_all order o vs = record o { rows = added order o.rows o.next vs; next = o.next + length vs }

  -- these values can be added without memory: there is room for them, and no two of them and the rows are equivalent
  pub record TakesAll (order : Order V) (vs : List V) (c : Container V) : Type 0 where
    pub few : length_of c.object + length vs ≤ GREATEST_LENGTH
    pub within : is_past c.object.limit (length_of c.object + length vs) ≡ false
    pub unspent : c.object.next + length vs ≤ numbers_end
    pub capacity : capacity_after c.object.limit c.object.capacity (length_of c.object + length vs) ≡ c.object.capacity
    pub spare : length vs ≤ c.spare
    pub keys_differ : (v : V) → length (filter (λ r. order.alike r.value v) (plain c.object).rows) + length (filter (λ w. order.alike w v) vs) ≤ 1

  -- the values are added
  pub record HasAll (order : Order V) (vs : List V) (old new : Container V) : Type 0 where
    pub after : IsAfter old.object new.object (with_all order (plain old.object) vs)
    pub slots : slots_of new ≡ slots_of old

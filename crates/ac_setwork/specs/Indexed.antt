-- What is seen of an index: rows with names, the serial of the next name, the Capacity where there is one, and the spare slots; and what its calls leave.
use Rattle.std.specs.Prelude.{◌≡◌, ◌<◌, ◌+◌, ◌≤◌, ⊤, ℕ, Bool, true, max, nat_le, List, [], find, length, All, IsTrue, Option, Some, None, option_map, slice_get, if◌then◌else◌}
use Rattle.ac_base.specs.declared.limit.Limit.{Limit}
use Rattle.ac_base.specs.declared.limit.Limit.TheVariants.{Unbounded, Bounded}
use Rattle.ac_base.specs.declared.name.Name.{Name}
use Rattle.ac_base.specs.Growth.{pow8}
use Rattle.ac_base.specs.Rows.{Row, names}
use Rattle.ac_model.specs.Rows.{value_at, place_of}
use Rattle.ac_model.specs.Containers.{first_spare}
use Rattle.ac_model.specs.Objects.{plains, capacity_after, first_capacity}
use Rattle.ac_model.specs.Letters.{is_among, is_below}

pub record Indexed (V : Type 0) : Type 0 where
  pub rows : List (Row Name V)
  pub next : ℕ
  -- of a hashed container alone
  pub capacity : Option ℕ
  -- how many rows more take no memory
  pub spare : ℕ

-- a bounded object has the slots of all that it may hold, and one with a Capacity those of the Capacity
abbrev pub HasSlots : Limit → Option ℕ → ℕ → Type 0
HasSlots Unbounded None slots = ⊤
HasSlots Unbounded (Some capacity) slots = capacity ≤ slots
HasSlots (Bounded most) capacity slots = slots ≡ most

-- the slots after a need of so many: those that there were, where they are enough, else the least 8 * 2 ^ k that is enough
abbrev pub slots_after : ℕ → ℕ → ℕ
slots_after slots need = if nat_le need slots then slots else pow8 need

module _ {V : Type 0} where
  -- the rows as the definitions of the calls see them
  abbrev pub plain_rows : Indexed V → List (Row ℕ V)
  plain_rows s = plains s.rows

  -- how many slots there are, with and without a row
  abbrev pub slots : Indexed V → ℕ
  slots s = length s.rows + s.spare

  abbrev pub is_there : Indexed V → Name → Bool
  is_there s name = is_among (names s.rows) name

  -- the name at the place, and the one after a row's
  abbrev pub name_at : Indexed V → ℕ → Option Name
  name_at s place = option_map (λ (r : Row Name V). r.name) (slice_get s.rows place)

  abbrev pub name_after : Indexed V → Name → Option Name
  name_after s name = name_at s (place_of (plain_rows s) name.serial + 1)

  -- the name of the row whose value passes the test
  abbrev pub found_in : (V → Bool) → List (Row Name V) → Option Name
  found_in test rows = option_map (λ (r : Row Name V). r.name) (find (λ (r : Row Name V). test r.value) rows)

  abbrev pub found : (V → Bool) → Indexed V → Option Name
  found test s = found_in test s.rows

  -- the value under a name
  abbrev pub value_of : Indexed V → Name → Option V
  value_of s name = value_at (plain_rows s) name.serial

  -- no rows yet
  pub record IsEmpty (has_capacity : Bool) (limit : Limit) (s : Indexed V) : Type 0 where
    pub rows : s.rows ≡ []
    pub next : s.next ≡ 1
    pub capacity : s.capacity ≡ first_capacity has_capacity limit
    pub spare : s.spare ≡ first_spare limit

  -- the rows are these now, each name that stays keeps its slot, and the next serial and the spare slots are these
  pub record Becomes (old new : Indexed V) (rows_after : List (Row ℕ V)) (serial room : ℕ) : Type 0 where
    pub plainly : plain_rows new ≡ rows_after
    pub same_slots : All (λ name. name.serial < old.next → IsTrue (is_there old name)) (names new.rows)
    pub next : new.next ≡ serial
    pub spare : new.spare ≡ room
    pub capacity : new.capacity ≡ old.capacity

  -- there is room for so many rows more, and the Capacity follows
  pub record MakesRoom (limit : Limit) (n : ℕ) (old new : Indexed V) : Type 0 where
    pub rows : new.rows ≡ old.rows
    pub next : new.next ≡ old.next
    pub capacity : new.capacity ≡ capacity_after limit old.capacity (length old.rows + n)
    pub enough : n ≤ new.spare
    pub has_slots : HasSlots limit new.capacity (slots new)
    pub most : slots new ≤ max (slots old) (pow8 (length old.rows + n))
    pub now_slots : slots new ≡ slots_after (slots old) (length old.rows + n)

  -- one row more takes no memory
  abbrev pub takes_one : Limit → Indexed V → Bool
  takes_one Unbounded s = is_below (length s.rows) s.capacity
  takes_one (Bounded most) s = true

-- An object of a kind with names: its rows and its numbers, what a valid one is, and the Capacity.
use Rattle.std.specs.Prelude.{◌≡◌, ◌==◌, ◌+◌, ◌≤◌, ℕ, Bool, true, false, nat_le, List, [], ◌∷◌, length, map, Option, Some, None, IfSome, if◌then◌else◌}
use Rattle.ac_base.specs.declared.limit.Limit.{Limit}
use Rattle.ac_base.specs.declared.limit.Limit.TheVariants.{Unbounded, Bounded}
use Rattle.ac_base.specs.declared.name.Name.{Name}
use Rattle.ac_base.specs.Growth.{pow8}
use Rattle.ac_base.specs.Limits.{is_past, numbers_end}
use Rattle.ac_base.specs.declared.limit.TheConstants.{GREATEST_LENGTH}
use Rattle.ac_base.specs.Rows.{Row, row, values}

-- N: the names, plain or with slots; V: what a row holds
pub record Object (N V : Type 0) : Type 0 where
  pub number : ℕ
  pub limit : Limit
  -- of a vector and of a hashed container alone
  pub capacity : Option ℕ
  -- the serial of the next new name
  pub next : ℕ
  pub rows : List (Row N V)
  pub cursor_guards : ℕ
  pub element_guards : ℕ

-- the row without its slot
abbrev pub plain_row : {V : Type 0} → Row Name V → Row ℕ V
plain_row r = row r.name.serial r.value

-- the rows without their slots
abbrev pub plains : {V : Type 0} → List (Row Name V) → List (Row ℕ V)
plains rows = map plain_row rows

-- the object without the slots of its names
abbrev pub plain : {V : Type 0} → Object Name V → Object ℕ V
plain o = record {
  number = o.number;
  limit = o.limit;
  capacity = o.capacity;
  next = o.next;
  rows = map plain_row o.rows;
  cursor_guards = o.cursor_guards;
  element_guards = o.element_guards;
}

abbrev pub contents : {N V : Type 0} → Object N V → List V
contents o = values o.rows

abbrev pub length_of : {N V : Type 0} → Object N V → ℕ
length_of o = length o.rows

-- the Capacity after a need (A.18.2, A.18.5, A.18.8): a bounded object's stays
abbrev pub capacity_after : Limit → Option ℕ → ℕ → Option ℕ
capacity_after (Bounded most) capacity need = capacity
capacity_after Unbounded None need = None
capacity_after Unbounded (Some capacity) need = Some (if nat_le need capacity then capacity else pow8 need)

-- the object with other rows, none of them new
abbrev pub with_rows : {V : Type 0} → Object ℕ V → List (Row ℕ V) → Object ℕ V
with_rows o rows = record o { rows = rows }

-- the object with other rows, so many of them new: the next name rises, and the Capacity follows
abbrev pub grown : {V : Type 0} → Object ℕ V → List (Row ℕ V) → ℕ → Object ℕ V
grown o rows more = record o { rows = rows; next = o.next + more; capacity = capacity_after o.limit o.capacity (length rows) }

-- with these rows where the test is passed, none of them new, and grown to the others where it isn't
abbrev pub grown_unless : {V : Type 0} → Bool → Object ℕ V → List (Row ℕ V) → List (Row ℕ V) → ℕ → Object ℕ V
grown_unless test o rows longer more = record o {
  rows = if test then rows else longer;
  next = if test then o.next else o.next + more;
  capacity = if test then o.capacity else capacity_after o.limit o.capacity (length longer);
}

-- in how many rows the name stands
abbrev pub times : {V : Type 0} → ℕ → List (Row ℕ V) → ℕ
times name [] = 0
times name (r ∷ rows) = (if r.name == name then 1 else 0) + times name rows

-- the Capacity of a bounded object is its limit, and an unbounded one's is no less than its length
abbrev pub CapacityFits : Limit → ℕ → ℕ → Type 0
CapacityFits Unbounded length capacity = length ≤ capacity
CapacityFits (Bounded most) length capacity = capacity ≡ most

-- what holds of an object of every kind
pub record IsValid {V : Type 0} (o : Object ℕ V) : Type 0 where
  pub names_differ : (name : ℕ) → times name o.rows ≤ 1
  pub names_below_next : (name : ℕ) → o.next ≤ name → times name o.rows ≡ 0
  pub names_from_one : times 0 o.rows ≡ 0
  pub next_from_one : 1 ≤ o.next
  pub next_in_range : o.next ≤ numbers_end
  pub within_limit : is_past o.limit (length o.rows) ≡ false
  pub within_greatest : length o.rows ≤ GREATEST_LENGTH
  pub capacity_fits : IfSome o.capacity (λ capacity. CapacityFits o.limit (length o.rows) capacity)

-- an empty object: a bounded one has its limit as its Capacity, an unbounded one 0, where it has one
abbrev pub first_capacity : Bool → Limit → Option ℕ
first_capacity false limit = None
first_capacity true Unbounded = Some 0
first_capacity true (Bounded most) = Some most

abbrev pub empty_object : {N V : Type 0} → Bool → ℕ → Limit → Object N V
empty_object has_capacity number limit = record {
  number = number;
  limit = limit;
  capacity = first_capacity has_capacity limit;
  next = 1;
  rows = [];
  cursor_guards = 0;
  element_guards = 0;
}

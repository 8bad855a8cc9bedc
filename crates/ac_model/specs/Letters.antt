-- What the arguments of a call bring: where a cursor stands, the reasons that a cursor, a count or a need of room gives, and what guards forbid.
use Rattle.std.specs.Prelude.{◌==◌, ◌+◌, ◌-◌, ◌^◌, ℕ, ℤ, pos, negsuc, Bool, true, false, not, ◌&&◌, nat_lt, nat_le, List, [], ◌∷◌, length, Option, Some, None, slice_get, if◌then◌else◌}
use Rattle.std.specs.List.{list_any}
use Rattle.ac_base.specs.declared.reason.Reason.{Reason}
use Rattle.ac_base.specs.declared.reason.Reason.TheVariants.{NoElement, ForeignCursor, DeadCursor, IndexRange, LengthRange, CapacityFull, NamesSpent}
use Rattle.ac_base.specs.declared.limit.Limit.{Limit}
use Rattle.ac_base.specs.declared.limit.Limit.TheVariants.{Unbounded, Bounded}
use Rattle.ac_base.specs.declared.name.Name.{Name}
use Rattle.ac_base.specs.declared.cursor.Cursor.{Cursor}
use Rattle.ac_base.specs.declared.cursor.Cursor.TheVariants as cursor
use Rattle.ac_base.specs.declared.guard.Class.TheVariants as class
use Rattle.ac_base.specs.Tampering.{forbids}
use Rattle.ac_base.specs.Rows.{Row}
use Rattle.ac_model.specs.Rows.{is_named, place_of}
use Rattle.ac_base.specs.Limits.{is_past, numbers_end}
use Rattle.ac_base.specs.declared.limit.TheConstants.{GREATEST_LENGTH}
use Rattle.ac_model.specs.Objects.{Object}

-- a cursor without its slot: none, at what an object has under a name, or at nothing that the object has, whatever its name
pub data Mark : Type 0 where
  no_mark : Mark
  mark_at : (object name : ℕ) → Mark
  stale_mark : (object : ℕ) → Mark

-- the name, with its slot, is among these
abbrev pub is_same_name : Name → Name → Bool
is_same_name a b = (a.slot == b.slot) && (a.serial == b.serial)

abbrev pub is_among : List Name → Name → Bool
is_among live name = list_any (is_same_name name) live

-- what a library cursor means to the object with this number and these names: one of its own number whose name, with its slot, isn't among them is stale
abbrev pub mark_of : ℕ → List Name → Cursor → Mark
mark_of number live cursor.NoElement = no_mark
mark_of number live (cursor.At object name) =
    if (object == number) && not (is_among live name) then stale_mark object else mark_at object name.serial

-- the reason, where the test is passed
abbrev pub reason_if : Bool → Reason → Option Reason
reason_if test reason = if test then Some reason else None

-- a cursor with another object's number is foreign, and one with the object's own is dead where nothing is there under its name
abbrev pub judged_in : ℕ → ℕ → Bool → Option Reason
judged_in number object is_there =
    if object == number then reason_if (not is_there) DeadCursor else Some ForeignCursor

-- a cursor that must designate an element (letter C, and a cursor variable that is read as C)
abbrev pub needs : {V : Type 0} → Object ℕ V → Mark → Option Reason
needs o no_mark = Some NoElement
needs o (mark_at object name) = judged_in o.number object (is_named o.rows name)
needs o (stale_mark object) = judged_in o.number object false

-- a cursor that may be No_Element (letter B)
abbrev pub may : {V : Type 0} → Object ℕ V → Mark → Option Reason
may o no_mark = None
may o (mark_at object name) = judged_in o.number object (is_named o.rows name)
may o (stale_mark object) = judged_in o.number object false

-- the cursor designates an element of the object
abbrev pub designates : {V : Type 0} → Object ℕ V → Mark → Bool
designates o no_mark = false
designates o (mark_at object name) = (object == o.number) && is_named o.rows name
designates o (stale_mark object) = false

-- the cursor's name, and 0, which no row has, where it has none
abbrev pub name_of : Mark → ℕ
name_of no_mark = 0
name_of (mark_at object name) = name
name_of (stale_mark object) = 0

-- the place of a cursor's row, past the end for No_Element
abbrev pub place_at : {V : Type 0} → List (Row ℕ V) → Mark → ℕ
place_at rows mark = place_of rows (name_of mark)

abbrev pub is_no_mark : Mark → Bool
is_no_mark no_mark = true
is_no_mark (mark_at object name) = false
is_no_mark (stale_mark object) = false

-- the cursor of a row that is found, and No_Element where none is
abbrev pub mark_for : {V : Type 0} → ℕ → Option (Row ℕ V) → Mark
mark_for number None = no_mark
mark_for number (Some r) = mark_at number r.name

-- the cursor at a place, and No_Element past the end
abbrev pub mark_in : {V : Type 0} → Object ℕ V → ℕ → Mark
mark_in o place = mark_for o.number (slice_get o.rows place)

-- the check of a call that adds, removes or moves elements (class c)
abbrev pub tampers_cursors : {V : Type 0} → Object ℕ V → Option Reason
tampers_cursors o = forbids class.Cursors o.cursor_guards o.element_guards

-- the check of a call that puts another value in an element's place (class e)
abbrev pub tampers_elements : {V : Type 0} → Object ℕ V → Option Reason
tampers_elements o = forbids class.Elements o.cursor_guards o.element_guards

-- a count, which must be in 0 .. 1,000,000
abbrev pub count_of : ℤ → ℕ
count_of (pos n) = n
count_of (negsuc n) = 0

abbrev pub in_range : ℤ → Option Reason
in_range (pos n) = reason_if (nat_lt GREATEST_LENGTH n) LengthRange
in_range (negsuc n) = Some LengthRange

-- an index, counted from 1, which must be in 1 .. last
abbrev pub is_index : ℤ → ℕ → Bool
is_index (pos n) last = nat_lt 0 n && nat_le n last
is_index (negsuc n) last = false

abbrev pub index_in : ℤ → ℕ → Option Reason
index_in index last = reason_if (not (is_index index last)) IndexRange

-- the place of an index
abbrev pub place_of_index : ℤ → ℕ
place_of_index index = count_of index - 1

-- the values of arguments that are left out: a count is 1, a cursor where a search starts none, and an index there 1, or the greatest for a search backwards
abbrev pub count_left_out : ℤ
count_left_out = pos 1

abbrev pub start_left_out : Mark
start_left_out = no_mark

abbrev pub index_left_out : ℤ
index_left_out = pos 1

abbrev pub last_index_left_out : ℤ
last_index_left_out = pos (2 ^ 63 - 1)

-- a new length, and so many new names, under a limit and from the next name on
abbrev pub room_in : Limit → ℕ → ℕ → ℕ → List (Option Reason)
room_in limit next length more =
    reason_if (nat_lt GREATEST_LENGTH length) LengthRange
    ∷ reason_if (is_past limit length) CapacityFull
    ∷ reason_if (nat_lt numbers_end (next + more)) NamesSpent
    ∷ []

abbrev pub room : {V : Type 0} → Object ℕ V → ℕ → ℕ → List (Option Reason)
room o length more = room_in o.limit o.next length more

-- one more element
abbrev pub room_for_one : {V : Type 0} → Object ℕ V → List (Option Reason)
room_for_one o = room o (length o.rows + 1) 1

-- one more element needs no memory: a bounded object has it from the start, and so has one whose length is below its Capacity
abbrev pub is_below : ℕ → Option ℕ → Bool
is_below length None = false
is_below length (Some capacity) = nat_lt length capacity

abbrev pub has_room : {V : Type 0} → Object ℕ V → Bool
has_room o = elim o.limit [ Unbounded ↦ is_below (length o.rows) o.capacity | Bounded most ↦ true ]

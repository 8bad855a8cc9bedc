-- The calls of vectors alone (A.18.2): indexes from 1, the Capacity, and elements that keep their cursors where values move.
use Rattle.std.specs.Prelude.{◌==◌, ◌+◌, ◌-◌, ℕ, ℤ, pos, Bool, min, nat_le, List, [], ◌∷◌, take, drop, reverse, replicate, position, Option, Some, None, slice_get, if◌then◌else◌}
use Rattle.ac_base.specs.declared.reason.Reason.{Reason}
use Rattle.ac_base.specs.declared.reason.Reason.TheVariants.{IndexRange}
use Rattle.ac_base.specs.FirstReason.{first_reason}
use Rattle.ac_base.specs.Rows.{values}
use Rattle.ac_model.specs.Rows.{fresh, cut, put, over, sorted, with_value, with_exchanged_values}
use Rattle.ac_model.specs.Objects.{Object, contents, length_of, with_rows, grown_unless}
use Rattle.ac_model.specs.Letters.{Mark, no_mark, may, place_at, is_no_mark, mark_in, tampers_cursors, tampers_elements, count_of, in_range, is_index, index_in, place_of_index, room, reason_if, name_of}
use Rattle.ac_model.specs.Calls.{Call, call, Look, look, Done, takes_none, takes_some}
use Rattle.ac_model.specs.Sequences.{with_new, with_copies, room_for_copies, copies_take_memory, first_new}

-- Reverse_Elements (A.18.2): the values change places, and the cursors stay
abbrev pub reverse_elements_call : {T : Type 0} → Object ℕ T → Call (Object ℕ T) Done
reverse_elements_call o =
    call takes_none (first_reason (tampers_elements o ∷ [])) (with_rows o (over o.rows (reverse (contents o)))) tt

-- Sort (A.18.2)
abbrev pub sort_call : {T : Type 0} → (T → T → Bool) → Object ℕ T → Call (Object ℕ T) Done
sort_call less o =
    call takes_some (first_reason (tampers_cursors o ∷ [])) (with_rows o (over o.rows (values (sorted less o.rows)))) tt

-- Set_Length (A.18.2): the blank element is 0, or the empty text
abbrev pub set_length_call : {T : Type 0} → Object ℕ T → T → ℤ → Call (Object ℕ T) Done
set_length_call o blank count =
    call takes_some
    (first_reason (tampers_cursors o ∷ in_range count ∷ room o (count_of count) (count_of count - length_of o)))
    (grown_unless (nat_le (count_of count) (length_of o)) o
    (take (count_of count) o.rows)
    (put o.rows (length_of o) (fresh o.next (replicate (count_of count - length_of o) blank)))
    (count_of count - length_of o))
    tt

-- To_Cursor (A.18.2)
abbrev pub to_cursor_call : {V : Type 0} → Object ℕ V → ℤ → Mark
to_cursor_call o index = if is_index index (length_of o) then mark_in o (place_of_index index) else no_mark

-- To_Index (A.18.2): 0, which is No_Index, for No_Element
abbrev pub to_index_call : {V : Type 0} → Object ℕ V → Mark → Look ℤ
to_index_call o c =
    look (first_reason (may o c ∷ [])) (pos (if is_no_mark c then 0 else place_at o.rows c + 1))

-- First_Index (A.18.2)
abbrev pub first_index_call : {V : Type 0} → Object ℕ V → ℤ
first_index_call o = pos 1

-- Last_Index (A.18.2)
abbrev pub last_index_call : {V : Type 0} → Object ℕ V → ℤ
last_index_call o = pos (length_of o)

-- Element by an index (A.18.2)
abbrev pub element_index_call : {T : Type 0} → Object ℕ T → ℤ → Look (Option T)
element_index_call o index =
    look (first_reason (index_in index (length_of o) ∷ [])) (slice_get (contents o) (place_of_index index))

-- the name at an index
abbrev pub name_in : {V : Type 0} → Object ℕ V → ℤ → ℕ
name_in o index = name_of (mark_in o (place_of_index index))

-- Replace_Element by an index (A.18.2)
abbrev pub replace_index_call : {T : Type 0} → Object ℕ T → ℤ → T → Call (Object ℕ T) Done
replace_index_call o index element =
    call takes_none
    (first_reason (tampers_elements o ∷ index_in index (length_of o) ∷ []))
    (with_rows o (with_value o.rows (name_in o index) element))
    tt

-- Swap by indexes (A.18.2)
abbrev pub swap_index_call : {T : Type 0} → Object ℕ T → ℤ → ℤ → Call (Object ℕ T) Done
swap_index_call o first second =
    call takes_none
    (first_reason (tampers_elements o ∷ index_in first (length_of o) ∷ index_in second (length_of o) ∷ []))
    (with_rows o (with_exchanged_values o.rows (name_in o first) (name_in o second)))
    tt

-- Insert by an index (A.18.2)
abbrev pub insert_index_call : {T : Type 0} → Object ℕ T → ℤ → T → ℤ → Call (Object ℕ T) Done
insert_index_call o index element count =
    call (copies_take_memory o count)
    (first_reason (tampers_cursors o ∷ index_in index (length_of o + 1) ∷ room_for_copies o count))
    (with_copies o (place_of_index index) element count)
    tt

-- room for copies of a source's elements
abbrev pub room_for_source : {T : Type 0} → Object ℕ T → Object ℕ T → List (Option Reason)
room_for_source target source = room target (length_of target + length_of source) (length_of source)

-- the target with copies of the source's elements, as they stood at entry, from the place on
abbrev pub with_copies_of : {T : Type 0} → Object ℕ T → ℕ → Object ℕ T → Object ℕ T
with_copies_of target place source = with_new target place (contents source) (length_of source)

-- The calls below copy a source. Where it is the vector itself, they mean the same with the vector as the source.

-- Insert_Vector by an index (A.18.2)
abbrev pub insert_vector_index_call : {T : Type 0} → Object ℕ T → ℤ → Object ℕ T → Call (Object ℕ T) Done
insert_vector_index_call target index source =
    call takes_some
    (first_reason (tampers_cursors target ∷ index_in index (length_of target + 1) ∷ room_for_source target source))
    (with_copies_of target (place_of_index index) source)
    tt

-- Insert_Vector (A.18.2)
abbrev pub insert_vector_call : {T : Type 0} → Object ℕ T → Mark → Object ℕ T → Call (Object ℕ T) Done
insert_vector_call target before source =
    call takes_some
    (first_reason (tampers_cursors target ∷ may target before ∷ room_for_source target source))
    (with_copies_of target (place_at target.rows before) source)
    tt

-- Insert_Vector with a position (A.18.2): the variable is set to the first new element
abbrev pub insert_vector_pos_call : {T : Type 0} → Object ℕ T → Mark → Object ℕ T → Call (Object ℕ T) Mark
insert_vector_pos_call target before source =
    call takes_some
    (first_reason (tampers_cursors target ∷ may target before ∷ room_for_source target source))
    (with_copies_of target (place_at target.rows before) source)
    (first_new target before (length_of source))

-- Append_Vector (A.18.2)
abbrev pub append_vector_call : {T : Type 0} → Object ℕ T → Object ℕ T → Call (Object ℕ T) Done
append_vector_call target source =
    call takes_some
    (first_reason (tampers_cursors target ∷ room_for_source target source))
    (with_copies_of target (length_of target) source)
    tt

-- Prepend_Vector (A.18.2)
abbrev pub prepend_vector_call : {T : Type 0} → Object ℕ T → Object ℕ T → Call (Object ℕ T) Done
prepend_vector_call target source =
    call takes_some
    (first_reason (tampers_cursors target ∷ room_for_source target source))
    (with_copies_of target 0 source)
    tt

-- Delete by an index (A.18.2)
abbrev pub delete_index_call : {T : Type 0} → Object ℕ T → ℤ → ℤ → Call (Object ℕ T) Done
delete_index_call o index count =
    call takes_none
    (first_reason (tampers_cursors o ∷ index_in index (length_of o + 1) ∷ in_range count ∷ []))
    (with_rows o (cut o.rows (place_of_index index) (count_of count)))
    tt

-- an index below 1 is refused, and one past the last isn't
abbrev pub index_from_one : ℤ → Option Reason
index_from_one index = reason_if (count_of index == 0) IndexRange

-- the index of what stands so many places after this one, and 0 where nothing was found
abbrev pub index_after : ℕ → Option ℕ → ℤ
index_after place None = pos 0
index_after place (Some steps) = pos (place + steps + 1)

-- Find_Index (A.18.2)
abbrev pub find_index_call : {T : Type 0} → (T → T → Bool) → Object ℕ T → T → ℤ → Look ℤ
find_index_call same o element index =
    look (first_reason (index_from_one index ∷ []))
    (index_after (place_of_index index) (position (λ v. same v element) (drop (place_of_index index) (contents o))))

-- the index of what stands so many places before the end of the first `last` elements, and 0 where nothing was found
abbrev pub index_before : ℕ → Option ℕ → ℤ
index_before last None = pos 0
index_before last (Some steps) = pos (last - steps)

-- Reverse_Find_Index (A.18.2): from the index back, or from the last
abbrev pub reverse_find_index_call : {T : Type 0} → (T → T → Bool) → Object ℕ T → T → ℤ → Look ℤ
reverse_find_index_call same o element index =
    look (first_reason (index_from_one index ∷ []))
    (let last = min (count_of index) (length_of o) in
    index_before last (position (λ v. same v element) (reverse (take last (contents o)))))

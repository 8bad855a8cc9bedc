-- The calls that vectors (A.18.2) and doubly linked lists (A.18.3) have in common: rows in an order that the program makes.
use Rattle.std.specs.Prelude.{◌==◌, ◌+◌, ◌-◌, ℕ, zero, suc, ℤ, Bool, true, false, not, ◌&&◌, List, [], ◌∷◌, take, drop, reverse, replicate, find, Option, slice_get, if◌then◌else◌}
use Rattle.std.specs.List.{list_any}
use Rattle.ac_base.specs.declared.reason.Reason.{Reason}
use Rattle.ac_base.specs.declared.reason.Reason.TheVariants.{Empty, SameContainer}
use Rattle.ac_base.specs.FirstReason.{first_reason}
use Rattle.ac_model.specs.Rows.{fresh, cut, put, value_at, with_value, with_exchanged_values, is_ascending, merged}
use Rattle.ac_model.specs.Objects.{Object, contents, length_of, with_rows, grown}
use Rattle.ac_model.specs.Letters.{Mark, no_mark, mark_at, needs, may, name_of, place_at, is_no_mark, mark_for, mark_in, tampers_cursors, tampers_elements, count_of, in_range, room, reason_if, has_room}
use Rattle.ac_model.specs.Common.{is_empty_call}
use Rattle.ac_model.specs.Calls.{Call, call, Look, look, Both, both, Done, takes_none, takes_some}

-- the values are pairwise equal
abbrev pub are_equal : {T : Type 0} → (T → T → Bool) → List T → List T → Bool
are_equal same [] [] = true
are_equal same [] (w ∷ ws) = false
are_equal same (v ∷ vs) [] = false
are_equal same (v ∷ vs) (w ∷ ws) = same v w && are_equal same vs ws

-- "=" (A.18.2, A.18.3)
abbrev pub equal_call : {T : Type 0} → (T → T → Bool) → Object ℕ T → Object ℕ T → Bool
equal_call same left right = are_equal same (contents left) (contents right)

-- Element (A.18.2, A.18.3)
abbrev pub element_call : {T : Type 0} → Object ℕ T → Mark → Look (Option T)
element_call o c = look (first_reason (needs o c ∷ [])) (value_at o.rows (name_of c))

-- Replace_Element (A.18.2, A.18.3)
abbrev pub replace_element_call : {T : Type 0} → Object ℕ T → Mark → T → Call (Object ℕ T) Done
replace_element_call o c element =
    call takes_none (first_reason (tampers_elements o ∷ needs o c ∷ [])) (with_rows o (with_value o.rows (name_of c) element)) tt

-- a write through a name that a view or a loop gives for the element: no tampering
abbrev pub write_call : {T : Type 0} → Object ℕ T → Mark → T → Call (Object ℕ T) Done
write_call o c element =
    call takes_none (first_reason (needs o c ∷ [])) (with_rows o (with_value o.rows (name_of c) element)) tt

-- the object with these values, so many, as new elements from the place on
abbrev pub with_new : {T : Type 0} → Object ℕ T → ℕ → List T → ℕ → Object ℕ T
with_new o place vs more = grown o (put o.rows place (fresh o.next vs)) more

-- the object with so many copies of the element from the place on
abbrev pub with_copies : {T : Type 0} → Object ℕ T → ℕ → T → ℤ → Object ℕ T
with_copies o place element count = with_new o place (replicate (count_of count) element) (count_of count)

-- a count of new elements
abbrev pub room_for_copies : {T : Type 0} → Object ℕ T → ℤ → List (Option Reason)
room_for_copies o count = in_range count ∷ room o (length_of o + count_of count) (count_of count)

-- an element that is handed in needs no memory where there is room for one
abbrev pub copies_take_memory : {T : Type 0} → Object ℕ T → ℤ → Bool
copies_take_memory o count = not ((count_of count == 1) && has_room o)

-- Append (A.18.2, A.18.3)
abbrev pub append_call : {T : Type 0} → Object ℕ T → T → ℤ → Call (Object ℕ T) Done
append_call o element count =
    call (copies_take_memory o count)
    (first_reason (tampers_cursors o ∷ room_for_copies o count))
    (with_copies o (length_of o) element count)
    tt

-- Prepend (A.18.2, A.18.3)
abbrev pub prepend_call : {T : Type 0} → Object ℕ T → T → ℤ → Call (Object ℕ T) Done
prepend_call o element count =
    call (copies_take_memory o count)
    (first_reason (tampers_cursors o ∷ room_for_copies o count))
    (with_copies o 0 element count)
    tt

-- Insert (A.18.2, A.18.3): before the cursor, where No_Element is the end
abbrev pub insert_call : {T : Type 0} → Object ℕ T → Mark → T → ℤ → Call (Object ℕ T) Done
insert_call o before element count =
    call (copies_take_memory o count)
    (first_reason (tampers_cursors o ∷ may o before ∷ room_for_copies o count))
    (with_copies o (place_at o.rows before) element count)
    tt

-- the first of so many new elements, or the cursor itself where there is none
abbrev pub first_new : {T : Type 0} → Object ℕ T → Mark → ℕ → Mark
first_new o before zero = before
first_new o before (suc count) = mark_at o.number o.next

-- Insert with a position (A.18.2, A.18.3): the same, and the variable is set to the first new element
abbrev pub insert_pos_call : {T : Type 0} → Object ℕ T → Mark → T → ℤ → Call (Object ℕ T) Mark
insert_pos_call o before element count =
    call (copies_take_memory o count)
    (first_reason (tampers_cursors o ∷ may o before ∷ room_for_copies o count))
    (with_copies o (place_at o.rows before) element count)
    (first_new o before (count_of count))

-- Delete (A.18.2, A.18.3): the variable is set to No_Element
abbrev pub delete_call : {T : Type 0} → Object ℕ T → Mark → ℤ → Call (Object ℕ T) Mark
delete_call o position count =
    call takes_none
    (first_reason (tampers_cursors o ∷ needs o position ∷ in_range count ∷ []))
    (with_rows o (cut o.rows (place_at o.rows position) (count_of count)))
    no_mark

-- Delete_First (A.18.2, A.18.3)
abbrev pub delete_first_call : {T : Type 0} → Object ℕ T → ℤ → Call (Object ℕ T) Done
delete_first_call o count =
    call takes_none
    (first_reason (tampers_cursors o ∷ in_range count ∷ []))
    (with_rows o (cut o.rows 0 (count_of count)))
    tt

-- Delete_Last (A.18.2, A.18.3)
abbrev pub delete_last_call : {T : Type 0} → Object ℕ T → ℤ → Call (Object ℕ T) Done
delete_last_call o count =
    call takes_none
    (first_reason (tampers_cursors o ∷ in_range count ∷ []))
    (with_rows o (cut o.rows (length_of o - count_of count) (count_of count)))
    tt

-- First (A.18.2, A.18.3)
abbrev pub first_call : {V : Type 0} → Object ℕ V → Mark
first_call o = mark_in o 0

-- Last (A.18.2, A.18.3)
abbrev pub last_call : {V : Type 0} → Object ℕ V → Mark
last_call o = mark_in o (length_of o - 1)

-- First_Element (A.18.2, A.18.3)
abbrev pub first_element_call : {V : Type 0} → Object ℕ V → Look (Option V)
first_element_call o =
    look (first_reason (reason_if (is_empty_call o) Empty ∷ [])) (slice_get (contents o) 0)

-- Last_Element (A.18.2, A.18.3)
abbrev pub last_element_call : {V : Type 0} → Object ℕ V → Look (Option V)
last_element_call o =
    look (first_reason (reason_if (is_empty_call o) Empty ∷ [])) (slice_get (contents o) (length_of o - 1))

-- Next (A.18.2, A.18.3)
abbrev pub next_call : {V : Type 0} → Object ℕ V → Mark → Look Mark
next_call o c =
    look (first_reason (may o c ∷ [])) (if is_no_mark c then no_mark else mark_in o (place_at o.rows c + 1))

-- the cursor at the place before, and No_Element before the first
abbrev pub mark_before : {V : Type 0} → Object ℕ V → ℕ → Mark
mark_before o zero = no_mark
mark_before o (suc place) = mark_in o place

-- Previous (A.18.2, A.18.3)
abbrev pub previous_call : {V : Type 0} → Object ℕ V → Mark → Look Mark
previous_call o c =
    look (first_reason (may o c ∷ [])) (if is_no_mark c then no_mark else mark_before o (place_at o.rows c))

-- Find (A.18.2, A.18.3): from the cursor on, or from the first where it is No_Element
abbrev pub find_call : {T : Type 0} → (T → T → Bool) → Object ℕ T → T → Mark → Look Mark
find_call same o element from =
    look (first_reason (may o from ∷ []))
    (mark_for o.number (find (λ r. same r.value element) (drop (if is_no_mark from then 0 else place_at o.rows from) o.rows)))

-- Reverse_Find (A.18.2, A.18.3): backwards from the cursor on, or from the last where it is No_Element
abbrev pub reverse_find_call : {T : Type 0} → (T → T → Bool) → Object ℕ T → T → Mark → Look Mark
reverse_find_call same o element from =
    look (first_reason (may o from ∷ []))
    (mark_for o.number (find (λ r. same r.value element) (reverse (take (place_at o.rows from + 1) o.rows))))

-- Contains (A.18.2, A.18.3)
abbrev pub contains_call : {T : Type 0} → (T → T → Bool) → Object ℕ T → T → Bool
contains_call same o element = list_any (λ v. same v element) (contents o)

-- Swap (A.18.2, A.18.3): the values, while the cursors stay
abbrev pub swap_call : {T : Type 0} → Object ℕ T → Mark → Mark → Call (Object ℕ T) Done
swap_call o first second =
    call takes_none
    (first_reason (tampers_elements o ∷ needs o first ∷ needs o second ∷ []))
    (with_rows o (with_exchanged_values o.rows (name_of first) (name_of second)))
    tt

-- Is_Sorted (A.18.2, A.18.3)
abbrev pub is_sorted_call : {T : Type 0} → (T → T → Bool) → Object ℕ T → Bool
is_sorted_call less o = is_ascending less (contents o)

-- Merge (A.18.2, A.18.3): an empty source changes nothing, since it needs no room and no name
abbrev pub merge_call : {T : Type 0} → (T → T → Bool) → Object ℕ T → Object ℕ T → Call (Both (Object ℕ T)) Done
merge_call less target source =
    call takes_some
    (first_reason (tampers_cursors target ∷ tampers_cursors source ∷ room target (length_of target + length_of source) (length_of source)))
    (both
    (grown target (merged less target.rows (fresh target.next (contents source))) (length_of source))
    (with_rows source []))
    tt

-- of an object with itself
abbrev pub merge_self_call : {T : Type 0} → Object ℕ T → Call (Object ℕ T) Done
merge_self_call o =
    call takes_none (first_reason (tampers_cursors o ∷ reason_if (not (is_empty_call o)) SameContainer ∷ [])) o tt

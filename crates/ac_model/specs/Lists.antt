-- The calls of doubly linked lists alone (A.18.3): elements move with their cursors.
use Rattle.std.specs.Prelude.{◌==◌, ◌+◌, ℕ, Bool, List, [], ◌∷◌, reverse, Option, Some, None, if◌then◌else◌}
use Rattle.ac_base.specs.FirstReason.{first_reason}
use Rattle.ac_base.specs.Rows.{Row}
use Rattle.ac_model.specs.Rows.{fresh, cut, put, named, value_at, with_exchanged_rows, sorted}
use Rattle.ac_model.specs.Objects.{Object, contents, length_of, with_rows, grown}
use Rattle.ac_model.specs.Letters.{Mark, mark_at, needs, may, name_of, place_at, tampers_cursors, room, room_for_one}
use Rattle.ac_model.specs.Calls.{Call, call, Both, both, Done, takes_none, takes_some}

-- Reverse_Elements (A.18.3)
abbrev pub reverse_elements_call : {T : Type 0} → Object ℕ T → Call (Object ℕ T) Done
reverse_elements_call o =
    call takes_none (first_reason (tampers_cursors o ∷ [])) (with_rows o (reverse o.rows)) tt

-- Sort (A.18.3)
abbrev pub sort_call : {T : Type 0} → (T → T → Bool) → Object ℕ T → Call (Object ℕ T) Done
sort_call less o =
    call takes_some (first_reason (tampers_cursors o ∷ [])) (with_rows o (sorted less o.rows)) tt

-- Swap_Links (A.18.3)
abbrev pub swap_links_call : {T : Type 0} → Object ℕ T → Mark → Mark → Call (Object ℕ T) Done
swap_links_call o first second =
    call takes_none
    (first_reason (tampers_cursors o ∷ needs o first ∷ needs o second ∷ []))
    (with_rows o (with_exchanged_rows o.rows (name_of first) (name_of second)))
    tt

-- Splice (A.18.3): all of another list
abbrev pub splice_call : {T : Type 0} → Object ℕ T → Mark → Object ℕ T → Call (Both (Object ℕ T)) Done
splice_call target before source =
    call takes_some
    (first_reason (tampers_cursors target ∷ tampers_cursors source ∷ may target before
    ∷ room target (length_of target + length_of source) (length_of source)))
    (both
    (grown target (put target.rows (place_at target.rows before) (fresh target.next (contents source))) (length_of source))
    (with_rows source []))
    tt

-- of a list into itself
abbrev pub splice_self_call : {T : Type 0} → Object ℕ T → Mark → Call (Object ℕ T) Done
splice_self_call o before = call takes_none (first_reason (tampers_cursors o ∷ may o before ∷ [])) o tt

-- one value, if there is one
abbrev pub one_value : {T : Type 0} → Option T → List T
one_value None = []
one_value (Some value) = value ∷ []

-- Splice (A.18.3): one element of another list, to which the variable is set
abbrev pub splice_one_call : {T : Type 0} → Object ℕ T → Mark → Object ℕ T → Mark → Call (Both (Object ℕ T)) Mark
splice_one_call target before source position =
    call takes_some
    (first_reason (tampers_cursors target ∷ tampers_cursors source ∷ may target before ∷ needs source position ∷ room_for_one target))
    (both
    (grown target (put target.rows (place_at target.rows before) (fresh target.next (one_value (value_at source.rows (name_of position))))) 1)
    (with_rows source (cut source.rows (place_at source.rows position) 1)))
    (mark_at target.number target.next)

-- one row, if there is one
abbrev pub one_row : {V : Type 0} → Option (Row ℕ V) → List (Row ℕ V)
one_row None = []
one_row (Some r) = r ∷ []

-- the rows with one of them before another, or at the end: before itself, it stays
abbrev pub moved_before : {V : Type 0} → List (Row ℕ V) → Mark → Mark → List (Row ℕ V)
moved_before rows before position =
    if name_of before == name_of position then rows
    else
    let left = cut rows (place_at rows position) 1 in
    put left (place_at left before) (one_row (named rows (name_of position)))

-- Splice (A.18.3): within the list, where the element keeps its name
abbrev pub splice_within_call : {T : Type 0} → Object ℕ T → Mark → Mark → Call (Object ℕ T) Done
splice_within_call o before position =
    call takes_none
    (first_reason (tampers_cursors o ∷ may o before ∷ needs o position ∷ []))
    (with_rows o (moved_before o.rows before position))
    tt

-- one element of the list itself, where the variable keeps its value
abbrev pub splice_one_self_call : {T : Type 0} → Object ℕ T → Mark → Mark → Call (Object ℕ T) Mark
splice_one_self_call o before position =
    call takes_none
    (first_reason (tampers_cursors o ∷ may o before ∷ needs o position ∷ []))
    (with_rows o (moved_before o.rows before position))
    position

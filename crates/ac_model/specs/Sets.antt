-- The calls of hashed and ordered sets (A.18.7, A.18.8, A.18.9). Every change of a set tampers with cursors. An element's order and equivalence are those of its key, equality is its own.
use Rattle.std.specs.Prelude.{◌==◌, ◌+◌, ℕ, Bool, not, ◌&&◌, List, [], length, filter, Option, None}
use Rattle.std.specs.List.{list_any, list_all}
use Rattle.ac_base.specs.declared.reason.Reason.{Reason}
use Rattle.ac_base.specs.FirstReason.{first_reason}
use Rattle.ac_base.specs.Rows.{Row}
use Rattle.ac_model.specs.Objects.{Object, contents, length_of, with_rows, grown}
use Rattle.ac_model.specs.Letters.{Mark, tampers_cursors, room}
use Rattle.ac_model.specs.Calls.{Call, call, after_check, Done, takes_none, takes_some}
use Rattle.ac_model.specs.Keyed as keyed
use Rattle.ac_model.specs.Keyed.{Order, has, added}

-- Insert, Insert with a position, Include, Replace_Element are those of `Keyed`, at the element.

-- Replace (A.18.7)
abbrev pub replace_call : {T : Type 0} → Order T → Object ℕ T → T → Call (Object ℕ T) Done
replace_call order o element = keyed.replace_call (tampers_cursors o) order o element

-- Exclude, Delete by an item, Find, Contains (A.18.7)
abbrev pub exclude_call : {T : Type 0} → Order T → Object ℕ T → T → Call (Object ℕ T) Done
exclude_call order o element = keyed.exclude_call (λ v. order.alike v element) o

abbrev pub delete_item_call : {T : Type 0} → Order T → Object ℕ T → T → Call (Object ℕ T) Done
delete_item_call order o element = keyed.delete_match_call (λ v. order.alike v element) o

abbrev pub find_call : {T : Type 0} → Order T → Object ℕ T → T → Mark
find_call order o element = keyed.find_call (λ v. order.alike v element) o

abbrev pub contains_call : {T : Type 0} → Order T → Object ℕ T → T → Bool
contains_call order o element = keyed.contains_call (λ v. order.alike v element) o

-- "=" (A.18.7): as many, and each equals one of the other
abbrev pub equal_call : {T : Type 0} → (T → T → Bool) → Object ℕ T → Object ℕ T → Bool
equal_call same left right =
    (length_of left == length_of right) && list_all (λ v. list_any (same v) (contents right)) (contents left)

-- the source's elements that have no equivalent in the target, in the source's order
abbrev pub additions : {T : Type 0} → Order T → Object ℕ T → Object ℕ T → List T
additions order target source = filter (λ v. not (has order (contents target) v)) (contents source)

-- the target's rows that have an equivalent in the source, and those that have none
abbrev pub common_rows : {T : Type 0} → Order T → Object ℕ T → Object ℕ T → List (Row ℕ T)
common_rows order target source = filter (λ r. has order (contents source) r.value) target.rows

abbrev pub own_rows : {T : Type 0} → Order T → Object ℕ T → Object ℕ T → List (Row ℕ T)
own_rows order target source = filter (λ r. not (has order (contents source) r.value)) target.rows

-- the room that a set needs whose rows are those that stay and so many more
abbrev pub room_after : {T : Type 0} → Object ℕ T → List (Row ℕ T) → List T → List (Option Reason)
room_after target kept more = room target (length kept + length more) (length more)

-- Union, without the check of tampering
abbrev pub unchecked_union : {T : Type 0} → Order T → Object ℕ T → Object ℕ T → Call (Object ℕ T) Done
unchecked_union order target source =
    let more = additions order target source in
    call takes_some
    (first_reason (room_after target target.rows more))
    (grown target (added order target.rows target.next more) (length more))
    tt

-- Union (A.18.7)
abbrev pub union_call : {T : Type 0} → Order T → Object ℕ T → Object ℕ T → Call (Object ℕ T) Done
union_call order target source = after_check (tampers_cursors target) (unchecked_union order target source)

-- a set without a change
abbrev pub unchanged : {T : Type 0} → Object ℕ T → Call (Object ℕ T) Done
unchanged o = call takes_none None o tt

-- Union and Intersection of a set with itself
abbrev pub union_self_call : {T : Type 0} → Object ℕ T → Call (Object ℕ T) Done
union_self_call o = after_check (tampers_cursors o) (unchanged o)

abbrev pub intersection_self_call : {T : Type 0} → Object ℕ T → Call (Object ℕ T) Done
intersection_self_call o = after_check (tampers_cursors o) (unchanged o)

-- Intersection, without the check and with it (A.18.7)
abbrev pub unchecked_intersection : {T : Type 0} → Order T → Object ℕ T → Object ℕ T → Call (Object ℕ T) Done
unchecked_intersection order target source = call takes_none None (with_rows target (common_rows order target source)) tt

abbrev pub intersection_call : {T : Type 0} → Order T → Object ℕ T → Object ℕ T → Call (Object ℕ T) Done
intersection_call order target source = after_check (tampers_cursors target) (unchecked_intersection order target source)

-- Difference, without the check and with it (A.18.7)
abbrev pub unchecked_difference : {T : Type 0} → Order T → Object ℕ T → Object ℕ T → Call (Object ℕ T) Done
unchecked_difference order target source = call takes_none None (with_rows target (own_rows order target source)) tt

abbrev pub difference_call : {T : Type 0} → Order T → Object ℕ T → Object ℕ T → Call (Object ℕ T) Done
difference_call order target source = after_check (tampers_cursors target) (unchecked_difference order target source)

-- a set without its elements
abbrev pub emptied : {T : Type 0} → Object ℕ T → Call (Object ℕ T) Done
emptied o = call takes_none None (with_rows o []) tt

-- Difference and Symmetric_Difference of a set with itself
abbrev pub difference_self_call : {T : Type 0} → Object ℕ T → Call (Object ℕ T) Done
difference_self_call o = after_check (tampers_cursors o) (emptied o)

abbrev pub symmetric_difference_self_call : {T : Type 0} → Object ℕ T → Call (Object ℕ T) Done
symmetric_difference_self_call o = after_check (tampers_cursors o) (emptied o)

-- Symmetric_Difference, without the check: the need is the length after removals and additions
abbrev pub unchecked_symmetric_difference : {T : Type 0} → Order T → Object ℕ T → Object ℕ T → Call (Object ℕ T) Done
unchecked_symmetric_difference order target source =
    let kept = own_rows order target source in
    let more = additions order target source in
    call takes_some
    (first_reason (room_after target kept more))
    (grown target (added order kept target.next more) (length more))
    tt

-- Symmetric_Difference (A.18.7)
abbrev pub symmetric_difference_call : {T : Type 0} → Order T → Object ℕ T → Object ℕ T → Call (Object ℕ T) Done
symmetric_difference_call order target source = after_check (tampers_cursors target) (unchecked_symmetric_difference order target source)

-- Overlap, Is_Subset, Equivalent_Sets (A.18.7)
abbrev pub overlap_call : {T : Type 0} → Order T → Object ℕ T → Object ℕ T → Bool
overlap_call order left right = list_any (λ v. has order (contents right) v) (contents left)

abbrev pub is_subset_call : {T : Type 0} → Order T → Object ℕ T → Object ℕ T → Bool
is_subset_call order left right = list_all (λ v. has order (contents right) v) (contents left)

abbrev pub equivalent_sets_call : {T : Type 0} → Order T → Object ℕ T → Object ℕ T → Bool
equivalent_sets_call order left right = (length_of left == length_of right) && is_subset_call order left right

-- Floor, Ceiling (A.18.9)
abbrev pub floor_call : {T : Type 0} → Order T → Object ℕ T → T → Mark
floor_call order o element = keyed.floor_call (λ v. order.less element v) o

abbrev pub ceiling_call : {T : Type 0} → Order T → Object ℕ T → T → Mark
ceiling_call order o element = keyed.ceiling_call (λ v. order.less v element) o

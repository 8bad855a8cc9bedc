-- The calls that vectors and lists have in common, and those of all kinds, keep a valid object valid.
use Rattle.std.proofs.Common.{◌≡◌, ◌+◌, ◌-◌, ℕ, ℤ, Bool, ◌∷◌, length, replicate, arith, Option, None, []}
use Rattle.std.proofs.lemmas.List.{length-replicate}
use Rattle.ac_base.specs.declared.reason.Reason.{Reason}
use Rattle.ac_base.specs.declared.reason.Reason.TheVariants.{CapacityFull}
use Rattle.ac_base.specs.FirstReason.{first_reason}
use Rattle.ac_model.specs.Rows.{cut, value_at, with_value, with_some_value, with_exchanged_values, merged, fresh}
use Rattle.ac_base.specs.Limits.{is_past}
use Rattle.ac_model.specs.Objects.{Object, IsValid, contents, with_rows, grown}
use Rattle.ac_model.specs.Letters.{reason_if, Mark, room, count_of, may, in_range, tampers_cursors, name_of, place_at}
use Rattle.ac_model.specs.Calls.{Keeps, KeepsBoth}
use Rattle.ac_model.specs.Common as common
use Rattle.ac_model.specs.Sequences as sequence
use Rattle.ac_model.specs.Sequences.{with_copies}
use Rattle.ac_model.proofs.Times.{times-cut, times-with_value, times-with_some_value, times-merged}
use Rattle.ac_model.proofs.Lengths.{length-fresh, length-cut, length-with_value, length-with_some_value, length-merged, length-values}
use Rattle.ac_model.proofs.Reasons.{in_range_none, none_first, none_others, after_two, after_three, room_none}
use Rattle.ac_model.proofs.Kept.{capacity-asked, kept, grew, new_kept}

pub cleared : {V : Type 0} (o : Object ℕ V) → IsValid o → IsValid (with_rows o [])
cleared o v = kept o [] v (λ name. omega arith) (omega arith)

pub clear_keeps : {V : Type 0} (o : Object ℕ V) → Keeps o (common.clear_call o)
clear_keeps o v none = cleared o v

pub assigned : {V : Type 0} (target source : Object ℕ V) → IsValid target → first_reason (room target (length source.rows) (length source.rows)) ≡ None → IsValid (grown target (fresh target.next (contents source)) (length source.rows))
assigned target source v none =
    let len : length (fresh target.next (contents source)) ≡ length source.rows = omega (arith, length-fresh target.next (contents source), length-values source.rows) in
    let fits = room_none target (length source.rows) (length source.rows) none in
    grew target (fresh target.next (contents source)) (contents source) (length source.rows) v (length-values source.rows) (rw len fits) (λ name. omega arith)

pub assign_keeps : {V : Type 0} (target source : Object ℕ V) → Keeps target (common.assign_call target source)
assign_keeps target source v none =
    assigned target source v (none_others (tampers_cursors target) (room target (length source.rows) (length source.rows)) none)

pub move_from_keeps : {V : Type 0} (target source : Object ℕ V) → KeepsBoth target source (common.move_from_call target source)
move_from_keeps target source v w none = (
  assigned target source v (after_two (tampers_cursors target) (tampers_cursors source) (room target (length source.rows) (length source.rows)) none),
  cleared source w,
)

pub with_value_kept : {T : Type 0} (o : Object ℕ T) (name : ℕ) (element : T) → IsValid o → IsValid (with_rows o (with_value o.rows name element))
with_value_kept o name element v =
    kept o (with_value o.rows name element) v (λ s. omega (arith, times-with_value s o.rows name element)) (omega (arith, length-with_value o.rows name element))

pub replace_element_keeps : {T : Type 0} (o : Object ℕ T) (c : Mark) (element : T) → Keeps o (sequence.replace_element_call o c element)
replace_element_keeps o c element v none = with_value_kept o (name_of c) element v

pub write_keeps : {T : Type 0} (o : Object ℕ T) (c : Mark) (element : T) → Keeps o (sequence.write_call o c element)
write_keeps o c element v none = with_value_kept o (name_of c) element v

pub copies_kept : {T : Type 0} (o : Object ℕ T) (place : ℕ) (element : T) (count : ℤ) → IsValid o → first_reason (room o (length o.rows + count_of count) (count_of count)) ≡ None → IsValid (with_copies o place element count)
copies_kept o place element count v none =
    new_kept o place (replicate (count_of count) element) (count_of count) v (length-replicate (count_of count) element) none

pub after_tampering : {T : Type 0} (o : Object ℕ T) (count : ℤ) → first_reason (tampers_cursors o ∷ sequence.room_for_copies o count) ≡ None → first_reason (room o (length o.rows + count_of count) (count_of count)) ≡ None
after_tampering o count none = after_two (tampers_cursors o) (in_range count) (room o (length o.rows + count_of count) (count_of count)) none

pub after_judging : {T : Type 0} (o : Object ℕ T) (judged : Option Reason) (count : ℤ) → first_reason (tampers_cursors o ∷ judged ∷ sequence.room_for_copies o count) ≡ None → first_reason (room o (length o.rows + count_of count) (count_of count)) ≡ None
after_judging o judged count none = after_three (tampers_cursors o) judged (in_range count) (room o (length o.rows + count_of count) (count_of count)) none

pub append_keeps : {T : Type 0} (o : Object ℕ T) (element : T) (count : ℤ) → Keeps o (sequence.append_call o element count)
append_keeps o element count v none = copies_kept o (length o.rows) element count v (after_tampering o count none)

pub prepend_keeps : {T : Type 0} (o : Object ℕ T) (element : T) (count : ℤ) → Keeps o (sequence.prepend_call o element count)
prepend_keeps o element count v none = copies_kept o 0 element count v (after_tampering o count none)

pub insert_keeps : {T : Type 0} (o : Object ℕ T) (before : Mark) (element : T) (count : ℤ) → Keeps o (sequence.insert_call o before element count)
insert_keeps o before element count v none = copies_kept o (place_at o.rows before) element count v (after_judging o (may o before) count none)

pub insert_pos_keeps : {T : Type 0} (o : Object ℕ T) (before : Mark) (element : T) (count : ℤ) → Keeps o (sequence.insert_pos_call o before element count)
insert_pos_keeps o before element count v none = copies_kept o (place_at o.rows before) element count v (after_judging o (may o before) count none)

pub cut_kept : {V : Type 0} (o : Object ℕ V) (place count : ℕ) → IsValid o → IsValid (with_rows o (cut o.rows place count))
cut_kept o place count v = kept o (cut o.rows place count) v (λ name. times-cut name o.rows place count) (length-cut o.rows place count)

pub delete_keeps : {T : Type 0} (o : Object ℕ T) (position : Mark) (count : ℤ) → Keeps o (sequence.delete_call o position count)
delete_keeps o position count v none = cut_kept o (place_at o.rows position) (count_of count) v

pub delete_first_keeps : {T : Type 0} (o : Object ℕ T) (count : ℤ) → Keeps o (sequence.delete_first_call o count)
delete_first_keeps o count v none = cut_kept o 0 (count_of count) v

pub delete_last_keeps : {T : Type 0} (o : Object ℕ T) (count : ℤ) → Keeps o (sequence.delete_last_call o count)
delete_last_keeps o count v none = cut_kept o (length o.rows - count_of count) (count_of count) v

pub exchanged_kept : {T : Type 0} (o : Object ℕ T) (first second : ℕ) → IsValid o → IsValid (with_rows o (with_exchanged_values o.rows first second))
exchanged_kept o first second v =
    kept o (with_exchanged_values o.rows first second) v
    (λ s. omega (arith, times-with_some_value s (with_some_value o.rows first (value_at o.rows second)) second (value_at o.rows first), times-with_some_value s o.rows first (value_at o.rows second)))
    (omega (arith, length-with_some_value (with_some_value o.rows first (value_at o.rows second)) second (value_at o.rows first), length-with_some_value o.rows first (value_at o.rows second)))

pub swap_keeps : {T : Type 0} (o : Object ℕ T) (first second : Mark) → Keeps o (sequence.swap_call o first second)
swap_keeps o first second v none = exchanged_kept o (name_of first) (name_of second) v

pub merge_keeps : {T : Type 0} (less : T → T → Bool) (target source : Object ℕ T) → KeepsBoth target source (sequence.merge_call less target source)
merge_keeps less target source v w none =
    let more = length source.rows in
    let rows = merged less target.rows (fresh target.next (contents source)) in
    let len : length rows ≡ length target.rows + more = omega (arith, length-merged less target.rows (fresh target.next (contents source)), length-fresh target.next (contents source), length-values source.rows) in
    let fits = room_none target (length target.rows + more) more (after_two (tampers_cursors target) (tampers_cursors source) (room target (length target.rows + more) more) none) in (
      grew target rows (contents source) more v (length-values source.rows) (rw len fits) (λ name. omega (arith, times-merged less name target.rows (fresh target.next (contents source)))),
      cleared source w,
    )

pub reserve_capacity_keeps : {V : Type 0} (o : Object ℕ V) (count : ℤ) → Keeps o (common.reserve_capacity_call o count)
reserve_capacity_keeps o count v none =
    let full = reason_if (is_past o.limit (count_of count)) CapacityFull in
    let asked = in_range_none count (none_first (in_range count) (full ∷ []) (none_others (tampers_cursors o) (in_range count ∷ full ∷ []) none)) in
    record {
      names_differ = v.names_differ;
      names_below_next = v.names_below_next;
      names_from_one = v.names_from_one;
      next_from_one = v.next_from_one;
      next_in_range = v.next_in_range;
      within_limit = v.within_limit;
      within_greatest = v.within_greatest;
      capacity_fits = capacity-asked o.limit o.capacity (length o.rows) (count_of count) asked v.capacity_fits;
    }

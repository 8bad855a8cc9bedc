-- The calls of vectors alone keep a valid object valid.
use Rattle.std.proofs.Common.{◌≡◌, ◌+◌, ◌-◌, ◌≤◌, ℕ, ℤ, Bool, true, false, List, length, take, reverse, replicate, refl, arith, None}
use Rattle.std.specs.Prelude.{nat_le}
use Rattle.std.proofs.lemmas.List.{length-take, length-replicate}
use Rattle.std.proofs.lemmas.Bool.Decides.{nat_tests}
use Rattle.ac_base.specs.FirstReason.{first_reason}
use Rattle.ac_base.specs.Rows.{values}
use Rattle.ac_model.specs.Rows.{over, put, sorted, fresh}
use Rattle.ac_model.specs.Objects.{Object, IsValid, contents, with_rows, grown_unless}
use Rattle.ac_model.specs.Letters.{Mark, room, may, in_range, index_in, count_of, tampers_cursors, place_at, place_of_index}
use Rattle.ac_model.specs.Calls.{Keeps}
use Rattle.ac_model.specs.Vectors as vector
use Rattle.ac_model.specs.Vectors.{name_in}
use Rattle.ac_model.proofs.Times.{times-over, times-take_less}
use Rattle.ac_model.proofs.Lengths.{length-over, length-values}
use Rattle.ac_model.proofs.Reasons.{none_others, after_two}
use Rattle.ac_model.proofs.Kept.{kept, new_kept}
use Rattle.ac_model.proofs.SequencesKept.{cut_kept, with_value_kept, exchanged_kept, copies_kept, after_judging}

over_kept : {T : Type 0} (o : Object ℕ T) (vs : List T) → IsValid o → IsValid (with_rows o (over o.rows vs))
over_kept o vs v = kept o (over o.rows vs) v (λ s. omega (arith, times-over s o.rows vs)) (omega (arith, length-over o.rows vs))

pub reverse_elements_keeps : {T : Type 0} (o : Object ℕ T) → Keeps o (vector.reverse_elements_call o)
reverse_elements_keeps o v none = over_kept o (reverse (contents o)) v

pub sort_keeps : {T : Type 0} (less : T → T → Bool) (o : Object ℕ T) → Keeps o (vector.sort_call less o)
sort_keeps less o v none = over_kept o (values (sorted less o.rows)) v

set_length_kept : {T : Type 0} (o : Object ℕ T) (blank : T) (n : ℕ) → IsValid o → first_reason (room o n (n - length o.rows)) ≡ None → (b : Bool) → nat_le n (length o.rows) ≡ b →
    IsValid (grown_unless b o (take n o.rows) (put o.rows (length o.rows) (fresh o.next (replicate (n - length o.rows) blank))) (n - length o.rows))
set_length_kept o blank n v none true e = kept o (take n o.rows) v (λ s. times-take_less s n o.rows) (omega (arith, length-take n o.rows))
set_length_kept o blank n v none false e =
    let longer : length o.rows ≤ n = grind (arith, nat_tests) in
    let len : length o.rows + (n - length o.rows) ≡ n = omega arith in
    new_kept o (length o.rows) (replicate (n - length o.rows) blank) (n - length o.rows) v (length-replicate (n - length o.rows) blank) (rw len none)

pub set_length_keeps : {T : Type 0} (o : Object ℕ T) (blank : T) (count : ℤ) → Keeps o (vector.set_length_call o blank count)
set_length_keeps o blank count v none =
    set_length_kept o blank (count_of count) v
    (after_two (tampers_cursors o) (in_range count) (room o (count_of count) (count_of count - length o.rows)) none)
    (nat_le (count_of count) (length o.rows)) refl

pub replace_index_keeps : {T : Type 0} (o : Object ℕ T) (index : ℤ) (element : T) → Keeps o (vector.replace_index_call o index element)
replace_index_keeps o index element v none = with_value_kept o (name_in o index) element v

pub swap_index_keeps : {T : Type 0} (o : Object ℕ T) (first second : ℤ) → Keeps o (vector.swap_index_call o first second)
swap_index_keeps o first second v none = exchanged_kept o (name_in o first) (name_in o second) v

pub insert_index_keeps : {T : Type 0} (o : Object ℕ T) (index : ℤ) (element : T) (count : ℤ) → Keeps o (vector.insert_index_call o index element count)
insert_index_keeps o index element count v none =
    copies_kept o (place_of_index index) element count v (after_judging o (index_in index (length o.rows + 1)) count none)

source_kept : {T : Type 0} (target : Object ℕ T) (place : ℕ) (source : Object ℕ T) → IsValid target → first_reason (vector.room_for_source target source) ≡ None → IsValid (vector.with_copies_of target place source)
source_kept target place source v none = new_kept target place (contents source) (length source.rows) v (length-values source.rows) none

pub insert_vector_index_keeps : {T : Type 0} (target : Object ℕ T) (index : ℤ) (source : Object ℕ T) → Keeps target (vector.insert_vector_index_call target index source)
insert_vector_index_keeps target index source v none =
    source_kept target (place_of_index index) source v (after_two (tampers_cursors target) (index_in index (length target.rows + 1)) (vector.room_for_source target source) none)

pub insert_vector_keeps : {T : Type 0} (target : Object ℕ T) (before : Mark) (source : Object ℕ T) → Keeps target (vector.insert_vector_call target before source)
insert_vector_keeps target before source v none =
    source_kept target (place_at target.rows before) source v (after_two (tampers_cursors target) (may target before) (vector.room_for_source target source) none)

pub insert_vector_pos_keeps : {T : Type 0} (target : Object ℕ T) (before : Mark) (source : Object ℕ T) → Keeps target (vector.insert_vector_pos_call target before source)
insert_vector_pos_keeps target before source v none =
    source_kept target (place_at target.rows before) source v (after_two (tampers_cursors target) (may target before) (vector.room_for_source target source) none)

pub append_vector_keeps : {T : Type 0} (target source : Object ℕ T) → Keeps target (vector.append_vector_call target source)
append_vector_keeps target source v none =
    source_kept target (length target.rows) source v (none_others (tampers_cursors target) (vector.room_for_source target source) none)

pub prepend_vector_keeps : {T : Type 0} (target source : Object ℕ T) → Keeps target (vector.prepend_vector_call target source)
prepend_vector_keeps target source v none =
    source_kept target 0 source v (none_others (tampers_cursors target) (vector.room_for_source target source) none)

pub delete_index_keeps : {T : Type 0} (o : Object ℕ T) (index count : ℤ) → Keeps o (vector.delete_index_call o index count)
delete_index_keeps o index count v none = cut_kept o (place_of_index index) (count_of count) v

-- The calls of lists alone keep a valid object valid.
use Rattle.std.proofs.Common.{◌≡◌, ◌==◌, ◌+◌, ◌≤◌, ℕ, Bool, true, List, [], ◌∷◌, length, reverse, arith, if◌then◌else◌}
use Rattle.std.proofs.lemmas.List.{length-reverse}
use Rattle.std.proofs.lemmas.Bool.Decides.{nat_tests}
use Rattle.ac_base.specs.Rows.{Row}
use Rattle.ac_model.specs.Rows.{is_named, value_at, with_exchanged_rows, sorted}
use Rattle.ac_model.specs.Objects.{Object, IsValid, times, contents, with_rows}
use Rattle.ac_model.specs.Letters.{Mark, room, room_for_one, needs, may, tampers_cursors, name_of, place_at}
use Rattle.ac_model.specs.Calls.{Keeps, KeepsBoth}
use Rattle.ac_model.specs.Lists as list
use Rattle.ac_model.specs.Lists.{moved_before, one_value}
use Rattle.ac_model.proofs.Times.{times-reverse, times-sorted}
use Rattle.ac_model.proofs.Lengths.{length-sorted, length-values}
use Rattle.ac_model.proofs.Moves.{found, times-named, times-moved, length-moved, times-exchanged_rows, length-exchanged_rows}
use Rattle.ac_model.proofs.Reasons.{none_first, none_others, after_three, needs_none}
use Rattle.ac_model.proofs.Kept.{kept, new_kept}
use Rattle.ac_model.proofs.SequencesKept.{cleared, cut_kept}

pub reverse_elements_keeps : {T : Type 0} (o : Object ℕ T) → Keeps o (list.reverse_elements_call o)
reverse_elements_keeps o v none = kept o (reverse o.rows) v (λ s. omega (arith, times-reverse s o.rows)) (omega (arith, length-reverse o.rows))

pub sort_keeps : {T : Type 0} (less : T → T → Bool) (o : Object ℕ T) → Keeps o (list.sort_call less o)
sort_keeps less o v none = kept o (sorted less o.rows) v (λ s. omega (arith, times-sorted less s o.rows)) (omega (arith, length-sorted less o.rows))

exchange_less : {T : Type 0} (o : Object ℕ T) (a b t : ℕ) → IsValid o → is_named o.rows a ≡ true → is_named o.rows b ≡ true →
    times (if t == a then b else if t == b then a else t) o.rows ≤ times t o.rows
exchange_less o a b t v h k =
    grind (arith, nat_tests, v.names_differ a, v.names_differ b, times-named a o.rows h, times-named b o.rows k)

pub swap_links_keeps : {T : Type 0} (o : Object ℕ T) (first second : Mark) → Keeps o (list.swap_links_call o first second)
swap_links_keeps o first second v none =
    let judged = none_others (tampers_cursors o) (needs o first ∷ needs o second ∷ []) none in
    let h = needs_none o first (none_first (needs o first) (needs o second ∷ []) judged) in
    let k = needs_none o second (none_first (needs o second) [] (none_others (needs o first) (needs o second ∷ []) judged)) in
    kept o (with_exchanged_rows o.rows (name_of first) (name_of second)) v
    (λ t. omega (arith, times-exchanged_rows t (name_of first) (name_of second) o.rows h k, exchange_less o (name_of first) (name_of second) t v h k))
    (omega (arith, length-exchanged_rows o.rows (name_of first) (name_of second)))

pub splice_keeps : {T : Type 0} (target : Object ℕ T) (before : Mark) (source : Object ℕ T) → KeepsBoth target source (list.splice_call target before source)
splice_keeps target before source v w none =
    let more = length source.rows in (
      new_kept target (place_at target.rows before) (contents source) more v (length-values source.rows)
          (after_three (tampers_cursors target) (tampers_cursors source) (may target before) (room target (length target.rows + more) more) none),
      cleared source w,
    )

one_value_there : {T : Type 0} (rows : List (Row ℕ T)) (name : ℕ) → is_named rows name ≡ true → length (one_value (value_at rows name)) ≡ 1
one_value_there rows name h = let r = found name rows h in rw r.1

pub splice_one_keeps : {T : Type 0} (target : Object ℕ T) (before : Mark) (source : Object ℕ T) (position : Mark) → KeepsBoth target source (list.splice_one_call target before source position)
splice_one_keeps target before source position v w none =
    let judged = after_three (tampers_cursors target) (tampers_cursors source) (may target before) (needs source position ∷ room_for_one target) none in
    let h = needs_none source position (none_first (needs source position) (room_for_one target) judged) in (
      new_kept target (place_at target.rows before) (one_value (value_at source.rows (name_of position))) 1 v (one_value_there source.rows (name_of position) h)
          (none_others (needs source position) (room_for_one target) judged),
      cut_kept source (place_at source.rows position) 1 w,
    )

moved_kept : {T : Type 0} (o : Object ℕ T) (before position : Mark) → IsValid o → IsValid (with_rows o (moved_before o.rows before position))
moved_kept o before position v =
    kept o (moved_before o.rows before position) v (λ t. omega (arith, times-moved t o.rows before position)) (omega (arith, length-moved o.rows before position))

pub splice_within_keeps : {T : Type 0} (o : Object ℕ T) (before position : Mark) → Keeps o (list.splice_within_call o before position)
splice_within_keeps o before position v none = moved_kept o before position v

pub splice_one_self_keeps : {T : Type 0} (o : Object ℕ T) (before position : Mark) → Keeps o (list.splice_one_self_call o before position)
splice_one_self_keeps o before position v none = moved_kept o before position v

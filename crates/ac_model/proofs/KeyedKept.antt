-- The calls of maps and sets keep the names and the numbers of a valid object valid.
use Rattle.std.proofs.Common.{◌≡◌, ◌==◌, ◌+◌, ◌≤◌, ℕ, Bool, cond, true, false, List, [], ◌∷◌, length, refl, arith, Option, Some, None, if◌then◌else◌}
use Rattle.std.specs.Prelude.{filter}
use Rattle.ac_base.specs.FirstReason.{first_reason}
use Rattle.ac_base.specs.Rows.{Row, row, values}
use Rattle.ac_model.specs.Rows.{fresh, cut, put, place_of, named, is_named}
use Rattle.ac_model.specs.Objects.{Object, IsValid, times, with_rows, grown}
use Rattle.ac_model.specs.Letters.{room, room_for_one}
use Rattle.ac_model.specs.Lists.{one_row}
use Rattle.ac_model.specs.Keyed.{place_in, Order, added, with_added, without, with_reordered}
use Rattle.ac_model.proofs.Times.{times-put}
use Rattle.ac_model.proofs.Moves.{found, length-put, times-cut_one, length-cut_one}
use Rattle.ac_model.proofs.Reasons.{room_none}
use Rattle.ac_model.proofs.Kept.{kept, grew}
use Rattle.ac_model.proofs.SequencesKept.{cut_kept}

pub times-added : {V : Type 0} (order : Order V) (s : ℕ) (vs : List V) (rows : List (Row ℕ V)) (next : ℕ) → times s (added order rows next vs) ≡ times s rows + times s (fresh next vs)
times-added order s [] rows next = omega arith
times-added order s (v ∷ vs) rows next =
    let place = place_in order (length rows) (values rows) v in
    omega (arith, times-added order s vs (put rows place (row next v ∷ [])) (next + 1), times-put s rows place (row next v ∷ []))

pub length-added : {V : Type 0} (order : Order V) (vs : List V) (rows : List (Row ℕ V)) (next : ℕ) → length (added order rows next vs) ≡ length rows + length vs
length-added order [] rows next = omega arith
length-added order (v ∷ vs) rows next =
    let place = place_in order (length rows) (values rows) v in
    omega (arith, length-added order vs (put rows place (row next v ∷ [])) (next + 1), length-put rows place (row next v ∷ []))

-- rows of the object, and values that are added to them
pub added_kept : {V : Type 0} (order : Order V) (o : Object ℕ V) (rows : List (Row ℕ V)) (vs : List V) → IsValid o → ((s : ℕ) → times s rows ≤ times s o.rows) →
    first_reason (room o (length rows + length vs) (length vs)) ≡ None → IsValid (grown o (added order rows o.next vs) (length vs))
added_kept order o rows vs v fewer none =
    let len : length (added order rows o.next vs) ≡ length rows + length vs = length-added order vs rows o.next in
    let fits = room_none o (length rows + length vs) (length vs) none in
    grew o (added order rows o.next vs) vs (length vs) v refl (rw len fits) (λ s. omega (arith, times-added order s vs rows o.next, fewer s))

pub one_added_kept : {V : Type 0} (order : Order V) (o : Object ℕ V) (v : V) → IsValid o → first_reason (room_for_one o) ≡ None → IsValid (with_added order o v)
one_added_kept order o v valid none = added_kept order o o.rows (v ∷ []) valid (λ s. omega arith) none

pub without_kept : {V : Type 0} (o : Object ℕ V) (r : Option (Row ℕ V)) → IsValid o → IsValid (with_rows o (without o.rows r))
without_kept o None v = kept o o.rows v (λ s. omega arith) (omega arith)
without_kept o (Some r) v = cut_kept o (place_of o.rows r.name) 1 v

-- a row that goes to its place under its name
times-reordered : {V : Type 0} (order : Order V) (s : ℕ) (rows : List (Row ℕ V)) (name : ℕ) (v : V) → is_named rows name ≡ true → times s (with_reordered order rows name v) ≡ times s rows
times-reordered order s rows name v h =
    let place = place_of rows name in
    let others = cut rows place 1 in
    let r = found name rows h in
    let there : times s (one_row (named rows name)) ≡ (if name == s then 1 else 0) = rw r.1 (rw r.2 (omega arith)) in
    omega (arith, there, times-cut_one s name rows, times-put s others (place_in order place (values others) v) (row name v ∷ []))

length-reordered : {V : Type 0} (order : Order V) (rows : List (Row ℕ V)) (name : ℕ) (v : V) → is_named rows name ≡ true → length (with_reordered order rows name v) ≡ length rows
length-reordered order rows name v h =
    let place = place_of rows name in
    let others = cut rows place 1 in
    let r = found name rows h in
    let there : length (one_row (named rows name)) ≡ 1 = rw r.1 in
    omega (arith, there, length-cut_one name rows, length-put others (place_in order place (values others) v) (row name v ∷ []))

pub reordered_kept : {V : Type 0} (order : Order V) (o : Object ℕ V) (name : ℕ) (w : V) → IsValid o → is_named o.rows name ≡ true → IsValid (with_rows o (with_reordered order o.rows name w))
reordered_kept order o name w v h =
    kept o (with_reordered order o.rows name w) v (λ s. omega (arith, times-reordered order s o.rows name w h)) (omega (arith, length-reordered order o.rows name w h))

filter_step : {V : Type 0} (s : ℕ) (r : Row ℕ V) (b : Bool) (some rows : List (Row ℕ V)) → times s some ≤ times s rows → times s (cond b (r ∷ some) some) ≤ times s (r ∷ rows)
filter_step s r true some rows h = omega arith
filter_step s r false some rows h = omega arith

pub times-filter : {V : Type 0} (test : Row ℕ V → Bool) (s : ℕ) (rows : List (Row ℕ V)) → times s (filter test rows) ≤ times s rows
times-filter test s [] = omega arith
times-filter test s (r ∷ rows) = filter_step s r (test r) (filter test rows) rows (times-filter test s rows)

length_step : {V : Type 0} (r : Row ℕ V) (b : Bool) (some rows : List (Row ℕ V)) → length some ≤ length rows → length (cond b (r ∷ some) some) ≤ length (r ∷ rows)
length_step r true some rows h = omega arith
length_step r false some rows h = omega arith

pub length-filter_le : {V : Type 0} (test : Row ℕ V → Bool) (rows : List (Row ℕ V)) → length (filter test rows) ≤ length rows
length-filter_le test [] = omega arith
length-filter_le test (r ∷ rows) = length_step r (test r) (filter test rows) rows (length-filter_le test rows)

pub filtered_kept : {V : Type 0} (o : Object ℕ V) (test : Row ℕ V → Bool) → IsValid o → IsValid (with_rows o (filter test o.rows))
filtered_kept o test v = kept o (filter test o.rows) v (λ s. times-filter test s o.rows) (length-filter_le test o.rows)

-- A call that isn't refused found room, so that it leaves no more rows than there may be: by what its rows are, and the checks before the room.
use Rattle.std.proofs.Common.{◌≡◌, ◌+◌, ◌-◌, ◌≤◌, ℕ, ℤ, Bool, false, List, [], ◌∷◌, ◌++◌, length, replicate, is_some, arith, Option, Some, None}
use Rattle.std.specs.Prelude.{nat_le}
use Rattle.std.proofs.lemmas.Bool.Decides.{nat_tests}
use Rattle.std.proofs.lemmas.List.{length-replicate}
use Rattle.ac_base.specs.declared.limit.TheConstants.{GREATEST_LENGTH}
use Rattle.ac_base.specs.declared.reason.Reason.{Reason}
use Rattle.ac_base.specs.declared.reason.Reason.TheVariants.{CapacityFull}
use Rattle.ac_base.specs.FirstReason.{first_reason}
use Rattle.ac_base.specs.Limits.{is_past}
use Rattle.ac_base.specs.Rows.{Row, values}
use Rattle.ac_model.specs.Common.{reserve_capacity_call}
use Rattle.ac_model.specs.Keyed.{Order, added, room_where_absent}
use Rattle.ac_model.specs.Letters.{count_of, in_range, reason_if, room, room_for_one, tampers_cursors}
use Rattle.ac_model.specs.Lists.{one_value}
use Rattle.ac_model.specs.Objects.{Object, contents}
use Rattle.ac_model.specs.Rows.{fresh, merged, put}
use Rattle.ac_model.specs.Sequences.{room_for_copies}
use Rattle.ac_model.specs.Trees.{room_for_rows}
use Rattle.ac_model.proofs.KeyedKept.{length-added}
use Rattle.ac_model.proofs.Lengths.{length-fresh, length-merged, length-values}
use Rattle.ac_model.proofs.Moves.{length-put}
use Rattle.ac_model.proofs.Reasons.{in_range_none, none_first, none_others, room_none}
use Rattle.ac_meaning.proofs.CallsStay.{HasRoomFor}

behind : (checks others : List (Option Reason)) → first_reason (checks ++ others) ≡ None → first_reason others ≡ None
behind [] others h = h
behind (c ∷ checks) others h = behind checks others (none_others c (checks ++ others) h)

room_behind : {V : Type 0} (checks : List (Option Reason)) (o : Object ℕ V) (n more : ℕ) → first_reason (checks ++ room o n more) ≡ None →
    n ≤ GREATEST_LENGTH
room_behind checks o n more h = (room_none o n more (behind checks (room o n more) h)).within_greatest

-- a Capacity that is asked for
pub reserve_fits : {V : Type 0} (o : Object ℕ V) (count : ℤ) → (reserve_capacity_call o count).reason ≡ None → count_of count ≤ GREATEST_LENGTH
reserve_fits o count none =
    let full = reason_if (is_past o.limit (count_of count)) CapacityFull in
    in_range_none count (none_first (in_range count) (full ∷ []) (none_others (tampers_cursors o) (in_range count ∷ full ∷ []) none))

-- New rows

put_fits : {V : Type 0} (o : Object ℕ V) (place : ℕ) (vs : List V) (more : ℕ) → length vs ≤ more → length o.rows + more ≤ GREATEST_LENGTH →
    length (put o.rows place (fresh o.next vs)) ≤ GREATEST_LENGTH
put_fits o place vs more counts fits = omega (arith, length-put o.rows place (fresh o.next vs), length-fresh o.next vs)

pub copies_fit : {V : Type 0} (checks : List (Option Reason)) (o : Object ℕ V) (place : ℕ) (v : V) (count : ℤ) →
    HasRoomFor (first_reason (checks ++ room_for_copies o count)) (put o.rows place (fresh o.next (replicate (count_of count) v)))
copies_fit checks o place v count none =
    let n = count_of count in
    let counts : length (replicate n v) ≤ n = omega (arith, length-replicate n v) in
    put_fits o place (replicate n v) n counts (room_behind (in_range count ∷ []) o (length o.rows + n) n (behind checks (room_for_copies o count) none))

-- of other rows' values
pub rows_fit : {V : Type 0} (checks : List (Option Reason)) (o : Object ℕ V) (place : ℕ) (rows : List (Row ℕ V)) →
    HasRoomFor (first_reason (checks ++ room_for_rows o rows)) (put o.rows place (fresh o.next (values rows)))
rows_fit checks o place rows none =
    let n = length rows in
    let counts : length (values rows) ≤ n = omega (arith, length-values rows) in
    put_fits o place (values rows) n counts (room_behind checks o (length o.rows + n) n none)

one_or_none : {V : Type 0} (v : Option V) → length (one_value v) ≤ 1
one_or_none None = omega arith
one_or_none (Some v) = omega arith

pub one_fits : {V : Type 0} (checks : List (Option Reason)) (o : Object ℕ V) (place : ℕ) (v : Option V) →
    HasRoomFor (first_reason (checks ++ room_for_one o)) (put o.rows place (fresh o.next (one_value v)))
one_fits checks o place v none = put_fits o place (one_value v) 1 (one_or_none v) (room_behind checks o (length o.rows + 1) 1 none)

-- up to a length that isn't the object's, nor below it
pub length_fits : {V : Type 0} (checks : List (Option Reason)) (o : Object ℕ V) (v : V) (n : ℕ) → nat_le n (length o.rows) ≡ false →
    HasRoomFor (first_reason (checks ++ room o n (n - length o.rows)))
    (put o.rows (length o.rows) (fresh o.next (replicate (n - length o.rows) v)))
length_fits checks o v n test none =
    let more = n - length o.rows in
    let fits : n ≤ GREATEST_LENGTH = room_behind checks o n more none in
    let longer : length o.rows ≤ n = grind (arith, nat_tests) in
    let counts : length (replicate more v) ≤ more = omega (arith, length-replicate more v) in
    put_fits o (length o.rows) (replicate more v) more counts (omega arith)

-- Rows of two objects

pub assigned_fits : {V : Type 0} (checks : List (Option Reason)) (o s : Object ℕ V) →
    HasRoomFor (first_reason (checks ++ room o (length s.rows) (length s.rows))) (fresh o.next (contents s))
assigned_fits checks o s none =
    let fits : length s.rows ≤ GREATEST_LENGTH = room_behind checks o (length s.rows) (length s.rows) none in
    omega (arith, length-fresh o.next (contents s), length-values s.rows)

pub merged_fits : {V : Type 0} (checks : List (Option Reason)) (less : V → V → Bool) (o s : Object ℕ V) →
    HasRoomFor (first_reason (checks ++ room_for_rows o s.rows)) (merged less o.rows (fresh o.next (contents s)))
merged_fits checks less o s none =
    let n = length s.rows in
    let fits : length o.rows + n ≤ GREATEST_LENGTH = room_behind checks o (length o.rows + n) n none in
    omega (arith, length-merged less o.rows (fresh o.next (contents s)), length-fresh o.next (contents s), length-values s.rows)

-- Values at their places

pub added_fits : {V : Type 0} (checks : List (Option Reason)) (order : Order V) (o : Object ℕ V) (rows : List (Row ℕ V)) (vs : List V) →
    HasRoomFor (first_reason (checks ++ room o (length rows + length vs) (length vs))) (added order rows o.next vs)
added_fits checks order o rows vs none =
    let fits : length rows + length vs ≤ GREATEST_LENGTH = room_behind checks o (length rows + length vs) (length vs) none in
    omega (arith, length-added order vs rows o.next)

pub absent_fits : {V : Type 0} (order : Order V) (o : Object ℕ V) (v : V) (present : Option (Row ℕ V)) → is_some present ≡ false →
    HasRoomFor (first_reason (tampers_cursors o ∷ room_where_absent o present)) (added order o.rows o.next (v ∷ []))
absent_fits order o v None t none = added_fits (tampers_cursors o ∷ []) order o o.rows (v ∷ []) none
absent_fits order o v (Some r) t none = absurd (cc)

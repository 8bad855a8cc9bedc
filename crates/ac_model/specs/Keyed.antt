-- The calls that maps (A.18.4) and sets (A.18.7) have in common: rows whose keys are pairwise not equivalent, in order of arrival or ascending. A set's row holds its element, which is its own key; a keyed set's element has a key.
--
-- A look-up takes the test of a row's value that the key or item passes.
use Rattle.std.specs.Prelude.{◌≡◌, ◌==◌, ◌+◌, ◌≤◌, ℕ, Bool, true, false, not, ◌&&◌, List, [], ◌∷◌, length, reverse, filter, find, Option, Some, None, is_some, if◌then◌else◌}
use Rattle.std.specs.List.{list_any, prefix_len}
use Rattle.std.specs.Cmp.{IsEquivalence}
use Rattle.ac_base.specs.declared.reason.Reason.{Reason}
use Rattle.ac_base.specs.declared.reason.Reason.TheVariants.{KeyPresent, KeyAbsent, Duplicate}
use Rattle.ac_base.specs.FirstReason.{first_reason}
use Rattle.ac_base.specs.Rows.{Row, row, values}
use Rattle.ac_base.specs.Order.{are_level, IsWeakOrder}
use Rattle.ac_model.specs.Rows.{cut, put, place_of, with_value, row_by}
use Rattle.ac_model.specs.Objects.{Object, IsValid, contents, with_rows, grown, grown_unless}
use Rattle.ac_model.specs.Letters.{Mark, no_mark, mark_at, needs, name_of, mark_for, tampers_cursors, room_for_one, reason_if, has_room}
use Rattle.ac_model.specs.Calls.{Call, call, Done, takes_none}

-- how keys are told apart and ordered: which are equivalent, which is less, and whether rows stand ascending by their keys or in order of arrival, where no key is less than another
pub record Order (V : Type 0) : Type 0 where
  pub alike : V → V → Bool
  pub less : V → V → Bool
  pub ascends : Bool

-- in order of arrival (A.18.5, A.18.8)
abbrev pub by_arrival : {V : Type 0} → (V → V → Bool) → Order V
by_arrival alike = record { alike = alike; less = λ v w. false; ascends = false }

-- ascending (A.18.6, A.18.9): keys are equivalent of which neither is less
abbrev pub ascending : {V : Type 0} → (V → V → Bool) → Order V
ascending less = record { alike = are_level less; less = less; ascends = true }

-- of values, by their keys
abbrev pub on_key : {K V : Type 0} → (V → K) → Order K → Order V
on_key key keys = record { alike = λ v w. keys.alike (key v) (key w); less = λ v w. keys.less (key v) (key w); ascends = keys.ascends }

-- each value is less than the next
abbrev pub is_strictly_ascending : {V : Type 0} → (V → V → Bool) → List V → Bool
is_strictly_ascending less [] = true
is_strictly_ascending less (v ∷ []) = true
is_strictly_ascending less (v ∷ w ∷ vs) = less v w && is_strictly_ascending less (w ∷ vs)

-- the place of a value among others, where `from` is the end, or the place that a row had
abbrev pub place_in : {V : Type 0} → Order V → ℕ → List V → V → ℕ
place_in order from others v = if order.ascends then prefix_len (λ w. order.less w v) others else from

-- the values stand in the order
abbrev pub is_in_order : {V : Type 0} → Order V → List V → Bool
is_in_order order vs = if order.ascends then is_strictly_ascending order.less vs else true

-- what holds of a map or a set: no value is equivalent to two rows' values
pub record IsValidKeyed {V : Type 0} (order : Order V) (o : Object ℕ V) : Type 0 where
  pub as_object : IsValid o
  pub keys_differ : (v : V) → length (filter (λ r. order.alike r.value v) o.rows) ≤ 1
  pub in_order : is_in_order order (contents o) ≡ true

-- a value with an equivalent key
abbrev pub has : {V : Type 0} → Order V → List V → V → Bool
has order vs v = list_any (λ w. order.alike w v) vs

-- the row with an equivalent key, if there is one
abbrev pub row_like : {V : Type 0} → Order V → Object ℕ V → V → Option (Row ℕ V)
row_like order o v = row_by (λ w. order.alike w v) o.rows

-- the values added in turn, each as a row with the next name, at its place
abbrev pub added : {V : Type 0} → Order V → List (Row ℕ V) → ℕ → List V → List (Row ℕ V)
added order rows next [] = rows
added order rows next (v ∷ vs) = added order (put rows (place_in order (length rows) (values rows) v) (row next v ∷ [])) (next + 1) vs

-- the object with one value more
abbrev pub with_added : {V : Type 0} → Order V → Object ℕ V → V → Object ℕ V
with_added order o v = grown o (added order o.rows o.next (v ∷ [])) 1

-- the rows without one
abbrev pub without : {V : Type 0} → List (Row ℕ V) → Option (Row ℕ V) → List (Row ℕ V)
without rows None = rows
without rows (Some r) = cut rows (place_of rows r.name) 1

-- a row that is there keeps its name and its place, with the new key and element
abbrev pub replaced_rows : {V : Type 0} → List (Row ℕ V) → Option (Row ℕ V) → V → List (Row ℕ V)
replaced_rows rows None v = rows
replaced_rows rows (Some r) v = with_value rows r.name v

abbrev pub with_replaced : {V : Type 0} → Object ℕ V → Option (Row ℕ V) → V → Object ℕ V
with_replaced o present v = with_rows o (replaced_rows o.rows present v)

-- the object with one value more where no row is found, and with these rows where one is
abbrev pub with_added_or : {V : Type 0} → Order V → Object ℕ V → Option (Row ℕ V) → V → List (Row ℕ V) → Object ℕ V
with_added_or order o present v rows = grown_unless (is_some present) o rows (added order o.rows o.next (v ∷ [])) 1

-- an insertion needs memory where it inserts and there is no room
abbrev pub insertion_takes_memory : {V : Type 0} → Object ℕ V → Option (Row ℕ V) → Bool
insertion_takes_memory o present = not (is_some present) && not (has_room o)

-- room and a name are needed only where something is inserted
abbrev pub room_where_absent : {V : Type 0} → Object ℕ V → Option (Row ℕ V) → List (Option Reason)
room_where_absent o None = room_for_one o
room_where_absent o (Some r) = []

-- Insert (A.18.4, A.18.7)
abbrev pub insert_call : {V : Type 0} → Order V → Object ℕ V → V → Call (Object ℕ V) Done
insert_call order o v =
    let present = row_like order o v in
    call (insertion_takes_memory o present)
    (first_reason (tampers_cursors o ∷ reason_if (is_some present) KeyPresent ∷ room_for_one o))
    (with_added order o v)
    tt

-- the position, and whether the value was inserted
pub record Inserted : Type 0 where
  pub position : Mark
  pub inserted : Bool

-- the name of a row that is found, and this one where none is
abbrev pub name_or : {V : Type 0} → Option (Row ℕ V) → ℕ → ℕ
name_or None name = name
name_or (Some r) name = r.name

abbrev pub inserted_or_found : {V : Type 0} → Object ℕ V → Option (Row ℕ V) → Inserted
inserted_or_found o present = record { position = mark_at o.number (name_or present o.next); inserted = not (is_some present) }

abbrev pub with_added_if_absent : {V : Type 0} → Order V → Object ℕ V → Option (Row ℕ V) → V → Object ℕ V
with_added_if_absent order o present v = with_added_or order o present v o.rows

-- Insert with a position (A.18.4, A.18.7): where an equivalent one is there, the position is that one, and nothing else changes
abbrev pub insert_pos_call : {V : Type 0} → Order V → Object ℕ V → V → Call (Object ℕ V) Inserted
insert_pos_call order o v =
    let present = row_like order o v in
    call (insertion_takes_memory o present)
    (first_reason (tampers_cursors o ∷ room_where_absent o present))
    (with_added_if_absent order o present v)
    (inserted_or_found o present)

abbrev pub with_added_or_replaced : {V : Type 0} → Order V → Object ℕ V → Option (Row ℕ V) → V → Object ℕ V
with_added_or_replaced order o present v = with_added_or order o present v (replaced_rows o.rows present v)

-- Include (A.18.4, A.18.7)
abbrev pub include_call : {V : Type 0} → Order V → Object ℕ V → V → Call (Object ℕ V) Done
include_call order o v =
    let present = row_like order o v in
    call (insertion_takes_memory o present)
    (first_reason (tampers_cursors o ∷ room_where_absent o present))
    (with_added_or_replaced order o present v)
    tt

-- Replace (A.18.4, A.18.7), after this check of tampering
abbrev pub replace_call : {V : Type 0} → Option Reason → Order V → Object ℕ V → V → Call (Object ℕ V) Done
replace_call tampering order o v =
    let present = row_like order o v in
    call takes_none
    (first_reason (tampering ∷ reason_if (not (is_some present)) KeyAbsent ∷ []))
    (with_replaced o present v)
    tt

-- Exclude (A.18.4, A.18.7)
abbrev pub exclude_call : {V : Type 0} → (V → Bool) → Object ℕ V → Call (Object ℕ V) Done
exclude_call matches o =
    call takes_none (first_reason (tampers_cursors o ∷ [])) (with_rows o (without o.rows (row_by matches o.rows))) tt

-- Delete by a key or an item (A.18.4, A.18.7)
abbrev pub delete_match_call : {V : Type 0} → (V → Bool) → Object ℕ V → Call (Object ℕ V) Done
delete_match_call matches o =
    call takes_none
    (first_reason (tampers_cursors o ∷ reason_if (not (is_some (row_by matches o.rows))) KeyAbsent ∷ []))
    (with_rows o (without o.rows (row_by matches o.rows)))
    tt

-- Delete (A.18.4, A.18.7): the variable is set to No_Element
abbrev pub delete_call : {V : Type 0} → Object ℕ V → Mark → Call (Object ℕ V) Mark
delete_call o position =
    call takes_none
    (first_reason (tampers_cursors o ∷ needs o position ∷ []))
    (with_rows o (cut o.rows (place_of o.rows (name_of position)) 1))
    no_mark

-- Find (A.18.4, A.18.7)
abbrev pub find_call : {V : Type 0} → (V → Bool) → Object ℕ V → Mark
find_call matches o = mark_for o.number (row_by matches o.rows)

-- Contains (A.18.4, A.18.7)
abbrev pub contains_call : {V : Type 0} → (V → Bool) → Object ℕ V → Bool
contains_call matches o = list_any matches (contents o)

-- another row than the named one has an equivalent key
abbrev pub another_is_like : {V : Type 0} → Order V → List (Row ℕ V) → ℕ → V → Bool
another_is_like order rows name v = list_any (λ r. not (r.name == name) && order.alike r.value v) rows

-- the row keeps its name: in order of arrival its place too, in ascending order it goes to the one that keeps the order
abbrev pub with_reordered : {V : Type 0} → Order V → List (Row ℕ V) → ℕ → V → List (Row ℕ V)
with_reordered order rows name v =
    let place = place_of rows name in
    let others = cut rows place 1 in
    put others (place_in order place (values others) v) (row name v ∷ [])

-- Replace_Element of a set (A.18.7)
abbrev pub replace_element_call : {V : Type 0} → Order V → Object ℕ V → Mark → V → Call (Object ℕ V) Done
replace_element_call order o c v =
    call takes_none
    (first_reason (tampers_cursors o ∷ needs o c ∷ reason_if (another_is_like order o.rows (name_of c) v) Duplicate ∷ []))
    (with_rows o (with_reordered order o.rows (name_of c) v))
    tt

-- Floor and Ceiling of ascending rows (A.18.6, A.18.9): the last that isn't greater, the first that isn't less
abbrev pub floor_call : {V : Type 0} → (V → Bool) → Object ℕ V → Mark
floor_call is_greater o = mark_for o.number (find (λ r. not (is_greater r.value)) (reverse o.rows))

abbrev pub ceiling_call : {V : Type 0} → (V → Bool) → Object ℕ V → Mark
ceiling_call is_less o = mark_for o.number (find (λ r. not (is_less r.value)) o.rows)

-- a call keeps a map or a set valid, with a source, too
abbrev pub KeepsKeyed : {V A : Type 0} → Order V → Object ℕ V → Call (Object ℕ V) A → Type 0
KeepsKeyed order o c = IsValidKeyed order o → c.reason ≡ None → IsValidKeyed order c.after

-- what holds in order of arrival by any equivalence, and in ascending order by any weak order
abbrev pub InEachOrder : {V : Type 0} → (Order V → Type 0) → Type 0
InEachOrder {V} P = ((alike : V → V → Bool) → IsEquivalence alike → P (by_arrival alike)) × ((less : V → V → Bool) → IsWeakOrder less → P (ascending less))

-- The calls of hashed and ordered maps (A.18.4, A.18.5, A.18.6). `keys` says how keys are told apart and ordered.
use Rattle.std.specs.Prelude.{◌==◌, ℕ, Bool, false, ◌&&◌, not, [], ◌∷◌, Option, Some, None, option_map, is_some}
use Rattle.std.specs.List.{list_all}
use Rattle.ac_base.specs.declared.reason.Reason.TheVariants.{KeyAbsent}
use Rattle.ac_base.specs.FirstReason.{first_reason}
use Rattle.ac_base.specs.Rows.{Row}
use Rattle.ac_model.specs.Rows.{Entry, entry, row_by, value_at, with_some_value}
use Rattle.ac_model.specs.Objects.{Object, contents, length_of, with_rows}
use Rattle.ac_model.specs.Letters.{Mark, needs, name_of, tampers_elements, reason_if}
use Rattle.ac_model.specs.Calls.{Call, call, Look, look, Done, takes_none}
use Rattle.ac_model.specs.Keyed as keyed
use Rattle.ac_model.specs.Keyed.{Order, Inserted, on_key}
use Rattle.ac_model.specs.Sequences as sequence

-- the order of a map's rows, by their keys
abbrev pub order_of : {K T : Type 0} → Order K → Order (Entry K T)
order_of keys = on_key (λ e. e.key) keys

abbrev pub key_of : {K T : Type 0} → Option (Entry K T) → Option K
key_of e = option_map (λ f. f.key) e

abbrev pub element_of : {K T : Type 0} → Option (Entry K T) → Option T
element_of e = option_map (λ f. f.element) e

-- a row that has the key
abbrev pub has_key : {K T : Type 0} → Order K → K → Entry K T → Bool
has_key keys key e = keys.alike e.key key

-- Key (A.18.4)
abbrev pub key_call : {K T : Type 0} → Object ℕ (Entry K T) → Mark → Look (Option K)
key_call o c = look (first_reason (needs o c ∷ [])) (key_of (value_at o.rows (name_of c)))

-- Element (A.18.4)
abbrev pub element_call : {K T : Type 0} → Object ℕ (Entry K T) → Mark → Look (Option T)
element_call o c = look (first_reason (needs o c ∷ [])) (element_of (value_at o.rows (name_of c)))

-- Element by a key (A.18.4)
abbrev pub element_key_call : {K T : Type 0} → Order K → Object ℕ (Entry K T) → K → Look (Option T)
element_key_call keys o key =
    let present = row_by (has_key keys key) o.rows in
    look (first_reason (reason_if (not (is_some present)) KeyAbsent ∷ [])) (element_of (option_map (λ r. r.value) present))

abbrev pub with_element : {K T : Type 0} → Option (Entry K T) → T → Option (Entry K T)
with_element e element = option_map (λ f. entry f.key element) e

abbrev pub element_replaced : {K T : Type 0} → Object ℕ (Entry K T) → Mark → T → Object ℕ (Entry K T)
element_replaced o c element =
    with_rows o (with_some_value o.rows (name_of c) (with_element (value_at o.rows (name_of c)) element))

-- Replace_Element (A.18.4)
abbrev pub replace_element_call : {K T : Type 0} → Object ℕ (Entry K T) → Mark → T → Call (Object ℕ (Entry K T)) Done
replace_element_call o c element =
    call takes_none (first_reason (tampers_elements o ∷ needs o c ∷ [])) (element_replaced o c element) tt

-- a write through a name that a view or a loop gives for the element: no tampering
abbrev pub write_call : {K T : Type 0} → Object ℕ (Entry K T) → Mark → T → Call (Object ℕ (Entry K T)) Done
write_call o c element = call takes_none (first_reason (needs o c ∷ [])) (element_replaced o c element) tt

-- Insert, Insert with a position, Include (A.18.4)
abbrev pub insert_call : {K T : Type 0} → Order K → Object ℕ (Entry K T) → K → T → Call (Object ℕ (Entry K T)) Done
insert_call keys o key element = keyed.insert_call (order_of keys) o (entry key element)

abbrev pub insert_pos_call : {K T : Type 0} → Order K → Object ℕ (Entry K T) → K → T → Call (Object ℕ (Entry K T)) Inserted
insert_pos_call keys o key element = keyed.insert_pos_call (order_of keys) o (entry key element)

abbrev pub include_call : {K T : Type 0} → Order K → Object ℕ (Entry K T) → K → T → Call (Object ℕ (Entry K T)) Done
include_call keys o key element = keyed.include_call (order_of keys) o (entry key element)

-- Replace (A.18.4): an element is changed, and its key with it
abbrev pub replace_call : {K T : Type 0} → Order K → Object ℕ (Entry K T) → K → T → Call (Object ℕ (Entry K T)) Done
replace_call keys o key element = keyed.replace_call (tampers_elements o) (order_of keys) o (entry key element)

-- Exclude, Delete by a key, Find, Contains (A.18.4)
abbrev pub exclude_call : {K T : Type 0} → Order K → Object ℕ (Entry K T) → K → Call (Object ℕ (Entry K T)) Done
exclude_call keys o key = keyed.exclude_call (has_key keys key) o

abbrev pub delete_key_call : {K T : Type 0} → Order K → Object ℕ (Entry K T) → K → Call (Object ℕ (Entry K T)) Done
delete_key_call keys o key = keyed.delete_match_call (has_key keys key) o

abbrev pub find_call : {K T : Type 0} → Order K → Object ℕ (Entry K T) → K → Mark
find_call keys o key = keyed.find_call (has_key keys key) o

abbrev pub contains_call : {K T : Type 0} → Order K → Object ℕ (Entry K T) → K → Bool
contains_call keys o key = keyed.contains_call (has_key keys key) o

abbrev pub is_equal_element : {K T : Type 0} → (T → T → Bool) → T → Option (Row ℕ (Entry K T)) → Bool
is_equal_element same element None = false
is_equal_element same element (Some r) = same element r.value.element

-- "=" (A.18.4): as many, and each key has an equivalent one there with an equal element
abbrev pub equal_call : {K T : Type 0} → Order K → (T → T → Bool) → Object ℕ (Entry K T) → Object ℕ (Entry K T) → Bool
equal_call keys same left right =
    (length_of left == length_of right)
    && list_all (λ e. is_equal_element same e.element (row_by (has_key keys e.key) right.rows)) (contents left)

-- First_Key, Last_Key, First_Element, Last_Element (A.18.6)
abbrev pub first_key_call : {K T : Type 0} → Object ℕ (Entry K T) → Look (Option K)
first_key_call o = let first = sequence.first_element_call o in look first.reason (key_of first.answer)

abbrev pub last_key_call : {K T : Type 0} → Object ℕ (Entry K T) → Look (Option K)
last_key_call o = let last = sequence.last_element_call o in look last.reason (key_of last.answer)

abbrev pub first_element_call : {K T : Type 0} → Object ℕ (Entry K T) → Look (Option T)
first_element_call o = let first = sequence.first_element_call o in look first.reason (element_of first.answer)

abbrev pub last_element_call : {K T : Type 0} → Object ℕ (Entry K T) → Look (Option T)
last_element_call o = let last = sequence.last_element_call o in look last.reason (element_of last.answer)

-- Floor, Ceiling (A.18.6)
abbrev pub floor_call : {K T : Type 0} → Order K → Object ℕ (Entry K T) → K → Mark
floor_call keys o key = keyed.floor_call (λ e. keys.less key e.key) o

abbrev pub ceiling_call : {K T : Type 0} → Order K → Object ℕ (Entry K T) → K → Mark
ceiling_call keys o key = keyed.ceiling_call (λ e. keys.less e.key key) o

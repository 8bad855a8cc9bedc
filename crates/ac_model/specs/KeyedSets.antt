-- The calls that sets with keys add (Generic_Keys, A.18.8 and A.18.9). `key` is an element's key, `keys` says how keys are told apart and ordered: so the set's order is `on_key key keys`.
use Rattle.std.specs.Prelude.{◌+◌, ◌-◌, ℕ, Bool, false, not, List, [], ◌∷◌, Option, Some, None, option_map, is_some, if◌then◌else◌}
use Rattle.ac_base.specs.declared.reason.Reason.TheVariants.{KeyAbsent, KeyChanged, Duplicate}
use Rattle.ac_base.specs.declared.reason.Reason.{Reason}
use Rattle.ac_base.specs.declared.guard.GuardKind.TheVariants as guard
use Rattle.ac_base.specs.Guards.{HeldGuard}
use Rattle.ac_base.specs.FirstReason.{first_reason}
use Rattle.ac_base.specs.Rows.{Row}
use Rattle.ac_model.specs.Rows.{row_by, value_at, with_value, cut, place_of}
use Rattle.ac_model.specs.Objects.{Object, with_rows}
use Rattle.ac_model.specs.Letters.{Mark, needs, name_of, tampers_cursors, reason_if}
use Rattle.ac_model.specs.Calls.{Call, call, Look, look, Done, takes_none, takes_some}
use Rattle.ac_model.specs.Keyed as keyed
use Rattle.ac_model.specs.Keyed.{Order, on_key, another_is_like, with_reordered, name_or}

-- an element that has the key
abbrev pub has_key : {K T : Type 0} → (T → K) → Order K → K → T → Bool
has_key key keys k v = keys.alike (key v) k

-- Key (A.18.8, A.18.9)
abbrev pub key_call : {K T : Type 0} → (T → K) → Object ℕ T → Mark → Look (Option K)
key_call key o c = look (first_reason (needs o c ∷ [])) (option_map key (value_at o.rows (name_of c)))

-- Element by a key (A.18.8, A.18.9)
abbrev pub key_element_call : {K T : Type 0} → (T → K) → Order K → Object ℕ T → K → Look (Option T)
key_element_call key keys o k =
    let present = row_by (has_key key keys k) o.rows in
    look (first_reason (reason_if (not (is_some present)) KeyAbsent ∷ [])) (option_map (λ r. r.value) present)

-- Find, Contains, Exclude and Delete by a key (A.18.8, A.18.9)
abbrev pub key_find_call : {K T : Type 0} → (T → K) → Order K → Object ℕ T → K → Mark
key_find_call key keys o k = keyed.find_call (has_key key keys k) o

abbrev pub key_contains_call : {K T : Type 0} → (T → K) → Order K → Object ℕ T → K → Bool
key_contains_call key keys o k = keyed.contains_call (has_key key keys k) o

abbrev pub key_exclude_call : {K T : Type 0} → (T → K) → Order K → Object ℕ T → K → Call (Object ℕ T) Done
key_exclude_call key keys o k = keyed.exclude_call (has_key key keys k) o

abbrev pub key_delete_call : {K T : Type 0} → (T → K) → Order K → Object ℕ T → K → Call (Object ℕ T) Done
key_delete_call key keys o k = keyed.delete_match_call (has_key key keys k) o

-- the name of a row that is found, and 0 where none is
abbrev pub name_found : {T : Type 0} → Option (Row ℕ T) → ℕ
name_found present = name_or present 0

abbrev pub reordered_rows : {T : Type 0} → Order T → List (Row ℕ T) → Option (Row ℕ T) → T → List (Row ℕ T)
reordered_rows order rows None element = rows
reordered_rows order rows (Some r) element = with_reordered order rows r.name element

abbrev pub reordered_where_found : {T : Type 0} → Order T → Object ℕ T → Option (Row ℕ T) → T → Object ℕ T
reordered_where_found order o present element = with_rows o (reordered_rows order o.rows present element)

-- Replace by a key (A.18.8, A.18.9): then as Replace_Element on the element that has it
abbrev pub key_replace_call : {K T : Type 0} → (T → K) → Order K → Object ℕ T → K → T → Call (Object ℕ T) Done
key_replace_call key keys o k element =
    let present = row_by (has_key key keys k) o.rows in
    call takes_none
    (first_reason (tampers_cursors o ∷ reason_if (not (is_some present)) KeyAbsent
    ∷ reason_if (another_is_like (on_key key keys) o.rows (name_found present) element) Duplicate ∷ []))
    (reordered_where_found (on_key key keys) o present element)
    tt

-- Floor and Ceiling of a key (A.18.9)
abbrev pub key_floor_call : {K T : Type 0} → (T → K) → Order K → Object ℕ T → K → Mark
key_floor_call key keys o k = keyed.floor_call (λ v. keys.less k (key v)) o

abbrev pub key_ceiling_call : {K T : Type 0} → (T → K) → Order K → Object ℕ T → K → Mark
key_ceiling_call key keys o k = keyed.ceiling_call (λ v. keys.less (key v) k) o

-- what the start of an update answers: the guard that is held, and a copy of the element
pub record Started (T : Type 0) : Type 0 where
  pub guard : HeldGuard
  pub copy : Option T

-- why it is refused, as the head of a view is that updates a key
abbrev pub update_key_reason : {T : Type 0} → Object ℕ T → Mark → Option Reason
update_key_reason o c = first_reason (tampers_cursors o ∷ needs o c ∷ [])

-- the start of Update_Element_Preserving_Key (A.18.8, A.18.9): a cursor guard is held, and the element is copied
abbrev pub start_update_key_call : {T : Type 0} → Object ℕ T → Mark → Call (Object ℕ T) (Started T)
start_update_key_call o c =
    call takes_some (update_key_reason o c)
    (record o { cursor_guards = o.cursor_guards + 1 })
    (record { guard = record { object = o.number; kind = guard.Cursors }; copy = value_at o.rows (name_of c) })

-- the key of the copy is that of the element
abbrev pub keeps_key : {K T : Type 0} → (T → K) → Order K → Option T → T → Bool
keeps_key key keys None copy = false
keeps_key key keys (Some element) copy = keys.alike (key element) (key copy)

-- its end, with the copy: the guard is released, and the element is the copy, or it goes where the key isn't the same. The object is afterwards as this says also where the end is refused
abbrev pub end_update_key_call : {K T : Type 0} → (T → K) → Order K → Object ℕ T → Mark → T → Call (Object ℕ T) Done
end_update_key_call key keys o c copy =
    let released = record o { cursor_guards = o.cursor_guards - 1 } in
    let keeps = keeps_key key keys (value_at o.rows (name_of c)) copy in
    call takes_none
    (first_reason (reason_if (not keeps) KeyChanged ∷ []))
    (with_rows released (if keeps then with_value o.rows (name_of c) copy else cut o.rows (place_of o.rows (name_of c)) 1))
    tt

-- The calls that vectors, lists, maps, sets and trees have in common.
use Rattle.std.specs.Prelude.{◌≡◌, ◌==◌, ◌+◌, ℕ, zero, suc, ℤ, pos, Bool, false, ◌&&◌, nat_lt, max, [], ◌∷◌, Option, Some, None, is_some, unwrap_or}
use Rattle.ac_base.specs.declared.limit.Limit.{Limit}
use Rattle.ac_base.specs.declared.limit.Limit.TheVariants.{Unbounded, Bounded}
use Rattle.ac_base.specs.declared.reason.Reason.{Reason}
use Rattle.ac_base.specs.declared.reason.Reason.TheVariants.{CapacityFull}
use Rattle.ac_base.specs.declared.guard.GuardKind.{GuardKind}
use Rattle.ac_base.specs.Guards.{GuardCounts, one_more, one_less, raised_kind}
use Rattle.ac_base.specs.FirstReason.{first_reason}
use Rattle.ac_model.specs.Rows.{fresh}
use Rattle.ac_base.specs.Limits.{is_past}
use Rattle.ac_model.specs.Objects.{Object, contents, length_of, with_rows, grown, capacity_after, empty_object}
use Rattle.ac_model.specs.Letters.{Mark, needs, designates, tampers_cursors, room, reason_if, in_range, count_of}
use Rattle.ac_model.specs.Calls.{Call, call, Both, both, Done, takes_none, takes_some}

-- Length (A.18.2, A.18.3, A.18.4, A.18.7)
abbrev pub length_call : {V : Type 0} → Object ℕ V → ℤ
length_call o = pos (length_of o)

-- Is_Empty (A.18.2, A.18.3, A.18.4, A.18.7, A.18.10)
abbrev pub is_empty_call : {V : Type 0} → Object ℕ V → Bool
is_empty_call o = length_of o == 0

-- Clear (A.18.2, A.18.3, A.18.4, A.18.7, A.18.10)
abbrev pub clear_call : {V : Type 0} → Object ℕ V → Call (Object ℕ V) Done
clear_call o = call takes_none (first_reason (tampers_cursors o ∷ [])) (with_rows o []) tt

-- Assign (A.18.2, A.18.3, A.18.4, A.18.7, A.18.10)
abbrev pub assign_call : {V : Type 0} → Object ℕ V → Object ℕ V → Call (Object ℕ V) Done
assign_call target source =
    call takes_some
    (first_reason (tampers_cursors target ∷ room target (length_of source) (length_of source)))
    (grown target (fresh target.next (contents source)) (length_of source))
    tt

-- Assign of an object to itself
abbrev pub assign_self_call : {V : Type 0} → Object ℕ V → Call (Object ℕ V) Done
assign_self_call o = call takes_none (first_reason (tampers_cursors o ∷ [])) o tt

-- Move (A.18.2, A.18.3, A.18.4, A.18.7, A.18.10)
abbrev pub move_from_call : {V : Type 0} → Object ℕ V → Object ℕ V → Call (Both (Object ℕ V)) Done
move_from_call target source =
    call takes_some
    (first_reason (tampers_cursors target ∷ tampers_cursors source ∷ room target (length_of source) (length_of source)))
    (both (grown target (fresh target.next (contents source)) (length_of source)) (with_rows source []))
    tt

-- Move of an object to itself
abbrev pub move_from_self_call : {V : Type 0} → Object ℕ V → Call (Object ℕ V) Done
move_from_self_call o = call takes_none (first_reason (tampers_cursors o ∷ [])) o tt

-- Has_Element (A.18.2, A.18.3, A.18.4, A.18.7, A.18.10): an answer for every cursor
abbrev pub has_element_call : {V : Type 0} → Object ℕ V → Mark → Bool
has_element_call o c = designates o c

-- Capacity (A.18.2, A.18.5, A.18.8)
abbrev pub capacity_call : {V : Type 0} → Object ℕ V → ℤ
capacity_call o = pos (unwrap_or o.capacity 0)

-- a capacity that is asked for: within the Capacity it takes no memory
abbrev pub asks_for_memory : Limit → Option ℕ → ℕ → Bool
asks_for_memory Unbounded (Some capacity) need = nat_lt capacity need
asks_for_memory Unbounded None need = false
asks_for_memory (Bounded most) capacity need = false

-- Reserve_Capacity (A.18.2, A.18.5, A.18.8)
abbrev pub reserve_capacity_call : {V : Type 0} → Object ℕ V → ℤ → Call (Object ℕ V) Done
reserve_capacity_call o count =
    call (asks_for_memory o.limit o.capacity (count_of count))
    (first_reason (tampers_cursors o ∷ in_range count ∷ reason_if (is_past o.limit (count_of count)) CapacityFull ∷ []))
    (record o { capacity = capacity_after o.limit o.capacity (count_of count) })
    tt

-- the object that an object's copy is: a bounded one's limit is the capacity that is asked for, or the length where that is 0
abbrev pub limit_of_copy : Limit → ℕ → ℕ → Limit
limit_of_copy Unbounded capacity length = Unbounded
limit_of_copy (Bounded most) zero length = Bounded length
limit_of_copy (Bounded most) (suc capacity) length = Bounded (suc capacity)

abbrev pub copied : {V : Type 0} → Object ℕ V → ℕ → ℕ → Object ℕ V
copied o number capacity =
    let start = empty_object (is_some o.capacity) number (limit_of_copy o.limit capacity (length_of o)) in
    record start {
      rows = fresh 1 (contents o);
      next = 1 + length_of o;
      capacity = capacity_after start.limit start.capacity (max capacity (length_of o));
    }

-- Copy (A.18.2, A.18.3, A.18.5, A.18.6, A.18.8, A.18.9, A.18.10): the new object has this number. A capacity that is asked for, and too small, is refused
abbrev pub copy_call : {V : Type 0} → Object ℕ V → ℕ → ℕ → Call (Object ℕ V) Done
copy_call o number capacity =
    call takes_some
    (first_reason (reason_if (nat_lt 0 capacity && nat_lt capacity (length_of o)) CapacityFull ∷ []))
    (copied o number capacity)
    tt

-- why the head of a view is refused (query, update, reference) of a kind whose every element has a row
abbrev pub view_reason : {V : Type 0} → Object ℕ V → Mark → Option Reason
view_reason o c = first_reason (needs o c ∷ [])

-- the object with other counts of guards
abbrev pub under_guards : {V : Type 0} → Object ℕ V → GuardCounts → Object ℕ V
under_guards o guards = record o { cursor_guards = guards.cursor_guards; element_guards = guards.element_guards }

abbrev pub guards_on : {V : Type 0} → Object ℕ V → GuardCounts
guards_on o = record { number = o.number; cursor_guards = o.cursor_guards; element_guards = o.element_guards }

-- the effect of a call doesn't depend on the counts of guards, and leaves them as they are; so it does of a call that changes two objects
abbrev pub GuardsApart : {V A : Type 0} → (Object ℕ V → Call (Object ℕ V) A) → Type 0
GuardsApart {V} f = (o : Object ℕ V) (guards : GuardCounts) →
    let held = f (under_guards o guards) in
    (held.after ≡ under_guards (f o).after guards) × (held.answer ≡ (f o).answer) × (held.memory ≡ (f o).memory)

abbrev pub GuardsApartOfBoth : {V A : Type 0} → (Object ℕ V → Object ℕ V → Call (Both (Object ℕ V)) A) → Type 0
GuardsApartOfBoth {V} f = (target source : Object ℕ V) (guards others : GuardCounts) →
    let held = f (under_guards target guards) (under_guards source others) in
    let free = f target source in
    (held.after ≡ both (under_guards free.after.target guards) (under_guards free.after.source others))
    × (held.answer ≡ free.answer) × (held.memory ≡ free.memory)

-- of a call that only reads its source, whose guards are of no account
abbrev pub GuardsApartFrom : {V A : Type 0} → (Object ℕ V → Object ℕ V → Call (Object ℕ V) A) → Type 0
GuardsApartFrom {V} f = (source : Object ℕ V) (others : GuardCounts) →
    GuardsApart (λ o. f o source) × ((o : Object ℕ V) → f o (under_guards source others) ≡ f o source)

-- a guard is held: a set has cursor guards alone
abbrev pub hold_call : {V : Type 0} → Bool → GuardKind → Object ℕ V → Object ℕ V
hold_call is_set kind o = under_guards o (one_more (raised_kind is_set kind) (guards_on o))

-- and released
abbrev pub release_call : {V : Type 0} → Bool → GuardKind → Object ℕ V → Object ℕ V
release_call is_set kind o = under_guards o (one_less (raised_kind is_set kind) (guards_on o))

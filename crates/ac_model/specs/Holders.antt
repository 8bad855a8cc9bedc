-- The calls of holders (A.18.18, A.18.32): nothing or one element. A bounded holder's limit is a size in bytes, and `size` says how large an element is.
use Rattle.std.specs.Prelude.{◌≡◌, ℕ, Bool, true, false, [], ◌∷◌, Option, Some, None, is_none}
use Rattle.ac_base.specs.declared.limit.Limit.{Limit}
use Rattle.ac_base.specs.declared.reason.Reason.{Reason}
use Rattle.ac_base.specs.declared.reason.Reason.TheVariants.{Empty, TooLarge}
use Rattle.ac_base.specs.declared.guard.Class.TheVariants as class
use Rattle.ac_base.specs.declared.guard.GuardKind.{GuardKind}
use Rattle.ac_base.specs.Guards.{GuardCounts, one_more, one_less}
use Rattle.ac_base.specs.Tampering.{forbids}
use Rattle.ac_base.specs.FirstReason.{first_reason}
use Rattle.ac_base.specs.Limits.{is_past}
use Rattle.ac_model.specs.Letters.{reason_if}
use Rattle.ac_model.specs.Calls.{Call, call, Look, look, Both, both, Done, takes_none, takes_some}

pub record Holder (T : Type 0) : Type 0 where
  pub number : ℕ
  pub limit : Limit
  pub element : Option T
  pub cursor_guards : ℕ
  pub element_guards : ℕ

abbrev pub empty_holder : {T : Type 0} → ℕ → Limit → Holder T
empty_holder number limit = record { number = number; limit = limit; element = None; cursor_guards = 0; element_guards = 0 }

-- the element is larger than the limit
abbrev pub is_too_large : {T : Type 0} → (T → ℕ) → Limit → Option T → Bool
is_too_large size limit None = false
is_too_large size limit (Some element) = is_past limit (size element)

-- an element is no larger than the limit
pub record IsValidHolder {T : Type 0} (size : T → ℕ) (h : Holder T) : Type 0 where
  pub within_limit : is_too_large size h.limit h.element ≡ false

abbrev pub tampers : {T : Type 0} → Holder T → Option Reason
tampers h = forbids class.Elements h.cursor_guards h.element_guards

-- the reason that a holder brings which is to get the element
abbrev pub fits : {T : Type 0} → (T → ℕ) → Holder T → Option T → Option Reason
fits size h element = reason_if (is_too_large size h.limit element) TooLarge

abbrev pub with_element : {T : Type 0} → Holder T → Option T → Holder T
with_element h element = record h { element = element }

-- Is_Empty (A.18.18)
abbrev pub is_empty_call : {T : Type 0} → Holder T → Bool
is_empty_call h = is_none h.element

-- why Element is refused, and the head of a view (query, update, reference)
abbrev pub view_reason : {T : Type 0} → Holder T → Option Reason
view_reason h = first_reason (reason_if (is_none h.element) Empty ∷ [])

-- Element (A.18.18)
abbrev pub element_call : {T : Type 0} → Holder T → Look (Option T)
element_call h = look (view_reason h) h.element

-- Replace_Element (A.18.18)
abbrev pub replace_element_call : {T : Type 0} → (T → ℕ) → Holder T → T → Call (Holder T) Done
replace_element_call size h element =
    call takes_none (first_reason (tampers h ∷ fits size h (Some element) ∷ [])) (with_element h (Some element)) tt

-- a write through a view's name: no tampering
abbrev pub write_call : {T : Type 0} → (T → ℕ) → Holder T → T → Call (Holder T) Done
write_call size h element =
    call takes_none
    (first_reason (reason_if (is_none h.element) Empty ∷ fits size h (Some element) ∷ []))
    (with_element h (Some element))
    tt

-- Clear (A.18.18)
abbrev pub clear_call : {T : Type 0} → Holder T → Call (Holder T) Done
clear_call h = call takes_none (first_reason (tampers h ∷ [])) (with_element h None) tt

-- Assign (A.18.18)
abbrev pub assign_call : {T : Type 0} → (T → ℕ) → Holder T → Holder T → Call (Holder T) Done
assign_call size target source =
    call takes_some
    (first_reason (tampers target ∷ fits size target source.element ∷ []))
    (with_element target source.element)
    tt

-- Move (A.18.18)
abbrev pub move_from_call : {T : Type 0} → (T → ℕ) → Holder T → Holder T → Call (Both (Holder T)) Done
move_from_call size target source =
    call takes_none
    (first_reason (tampers target ∷ tampers source ∷ fits size target source.element ∷ []))
    (both (with_element target source.element) (with_element source None))
    tt

-- Swap (A.18.18): each is to get the other's element
abbrev pub swap_call : {T : Type 0} → (T → ℕ) → Holder T → Holder T → Call (Both (Holder T)) Done
swap_call size target source =
    call takes_none
    (first_reason (tampers target ∷ tampers source ∷ fits size target source.element ∷ fits size source target.element ∷ []))
    (both (with_element target source.element) (with_element source target.element))
    tt

-- Assign, Move and Swap of a holder to itself
abbrev pub assign_self_call : {T : Type 0} → Holder T → Call (Holder T) Done
assign_self_call h = call takes_none (first_reason (tampers h ∷ [])) h tt

abbrev pub move_from_self_call : {T : Type 0} → Holder T → Call (Holder T) Done
move_from_self_call h = call takes_none (first_reason (tampers h ∷ [])) h tt

abbrev pub swap_self_call : {T : Type 0} → Holder T → Call (Holder T) Done
swap_self_call h = call takes_none (first_reason (tampers h ∷ [])) h tt

-- "=" (A.18.18)
abbrev pub are_equal : {T : Type 0} → (T → T → Bool) → Option T → Option T → Bool
are_equal same None None = true
are_equal same None (Some w) = false
are_equal same (Some v) None = false
are_equal same (Some v) (Some w) = same v w

abbrev pub equal_call : {T : Type 0} → (T → T → Bool) → Holder T → Holder T → Bool
equal_call same left right = are_equal same left.element right.element

-- the holder with other counts of guards
abbrev pub under_guards : {T : Type 0} → Holder T → GuardCounts → Holder T
under_guards h guards = record h { cursor_guards = guards.cursor_guards; element_guards = guards.element_guards }

abbrev pub guards_on : {T : Type 0} → Holder T → GuardCounts
guards_on h = record { number = h.number; cursor_guards = h.cursor_guards; element_guards = h.element_guards }

-- a guard is held, and released
abbrev pub hold_call : {T : Type 0} → GuardKind → Holder T → Holder T
hold_call kind h = under_guards h (one_more kind (guards_on h))

abbrev pub release_call : {T : Type 0} → GuardKind → Holder T → Holder T
release_call kind h = under_guards h (one_less kind (guards_on h))

-- a call keeps a holder valid
abbrev pub KeepsHolder : {T A : Type 0} → (T → ℕ) → Holder T → Call (Holder T) A → Type 0
KeepsHolder size h c = IsValidHolder size h → c.reason ≡ None → IsValidHolder size c.after

abbrev pub KeepsBothHolders : {T A : Type 0} → (T → ℕ) → Holder T → Holder T → Call (Both (Holder T)) A → Type 0
KeepsBothHolders size target source c = IsValidHolder size target → IsValidHolder size source → c.reason ≡ None → IsValidHolder size c.after.target × IsValidHolder size c.after.source

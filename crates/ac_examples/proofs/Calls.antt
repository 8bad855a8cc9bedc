-- What calls of a list come to: under a guard they are refused, and appended values stand in order.
use Rattle.std.proofs.Common.{◌≡◌, ◌<◌, ◌∷◌, [], ℕ, ℤ, pos, true, false, Option, Some, None, Result, Ok, Err, List, nat_lt, refl, ap, ◌∙◌, arith}
use Rattle.ac_base.specs.declared.fault.Fault.{Fault}
use Rattle.ac_base.specs.declared.fault.Fault.TheVariants as fault
use Rattle.ac_base.specs.declared.limit.Limit.TheVariants as limit
use Rattle.ac_base.specs.declared.name.Name.{Name}
use Rattle.ac_base.specs.declared.reason.Reason.{Reason}
use Rattle.ac_base.specs.declared.reason.Reason.TheVariants as reason
use Rattle.ac_base.specs.FirstReason.{first_reason, earlier, step_of}
use Rattle.ac_model.specs.Calls.{Call, Changing, Done, IsAfter, Same}
use Rattle.ac_model.specs.Objects.{Object, contents, empty_object, plain}
use Rattle.ac_model.specs.Sequences.{append_call, room_for_copies}

first_step : (r : Reason) → nat_lt (step_of r) 1 ≡ false
first_step reason.CursorTampering = refl
first_step reason.ElementTampering = refl
first_step reason.NoElement = refl
first_step reason.ForeignCursor = refl
first_step reason.DeadCursor = refl
first_step reason.IndexRange = refl
first_step reason.LengthRange = refl
first_step reason.KeyPresent = refl
first_step reason.KeyAbsent = refl
first_step reason.Empty = refl
first_step reason.CapacityFull = refl
first_step reason.KeyChanged = refl
first_step reason.RootNode = refl
first_step reason.BelowItself = refl
first_step reason.NotLeaf = refl
first_step reason.NotChild = refl
first_step reason.SameContainer = refl
first_step reason.Duplicate = refl
first_step reason.Overflow = refl
first_step reason.TooLarge = refl
first_step reason.NamesSpent = refl
first_step reason.RootSource = refl

tampering_first : (other : Option Reason) → earlier (Some reason.CursorTampering) other ≡ Some reason.CursorTampering
tampering_first None = refl
tampering_first (Some r) = rw (first_step r) refl

refused_for : {V : Type 0} (c : Call (Object ℕ V) Done) (old new : Object Name V) (r : Result Done Fault) →
    c.reason ≡ Some reason.CursorTampering → Changing Same c old new r → r ≡ Err (fault.Raised reason.CursorTampering)
refused_for c old new (Ok x) is h = cc
refused_for c old new (Err (fault.Raised r)) is h = cc
refused_for c old new (Err fault.NoMemory) is h = cc

guard_first : (o : Object ℕ ℤ) (e : ℤ) → 0 < o.cursor_guards → (append_call o e (pos 1)).reason ≡ Some reason.CursorTampering
guard_first o e held = let is : nat_lt 0 o.cursor_guards ≡ true = grind (arith) in rw is (tampering_first (first_reason (room_for_copies o (pos 1))))

-- an Append under a cursor guard
pub refused_under_guard : (old new : Object Name ℤ) (e : ℤ) (r : Result Done Fault) → 0 < old.cursor_guards →
    Changing Same (append_call (plain old) e (pos 1)) old new r → r ≡ Err (fault.Raised reason.CursorTampering)
refused_under_guard old new e r held h = refused_for (append_call (plain old) e (pos 1)) old new r (guard_first (plain old) e held) h

-- two values that were appended to an empty list
pub two_values : (number : ℕ) (start first second : Object Name ℤ) → start ≡ empty_object false number limit.Unbounded →
    IsAfter start first (append_call (plain start) (pos 5) (pos 1)).after →
    IsAfter first second (append_call (plain first) (pos 7) (pos 1)).after → contents (plain second) ≡ pos 5 ∷ pos 7 ∷ []
two_values number start first second made one two = ap contents two.plainly ∙ ap with_seven one.plainly ∙ ap (λ s. with_seven (append_call (plain s) (pos 5) (pos 1)).after) made
  where
    with_seven : Object ℕ ℤ → List ℤ
    with_seven o = contents (append_call o (pos 7) (pos 1)).after

pub no_guards : (number : ℕ) (start first second : Object Name ℤ) → start ≡ empty_object false number limit.Unbounded →
    IsAfter start first (append_call (plain start) (pos 5) (pos 1)).after →
    IsAfter first second (append_call (plain first) (pos 7) (pos 1)).after → second.cursor_guards ≡ 0
no_guards number start first second made one two = ap (λ o. o.cursor_guards) two.plainly ∙ ap (λ o. o.cursor_guards) one.plainly ∙ ap (λ o. o.cursor_guards) made

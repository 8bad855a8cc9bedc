-- The calls of sets with keys, as a table makes them.
use Rattle.std.specs.Prelude.{◌≡◌, ℕ, not, [], ◌∷◌, Some, Result, if◌then◌else◌}
use Rattle.ac_base.specs.declared.fault.Fault.{Fault}
use Rattle.ac_base.specs.declared.guard.GuardKind.TheVariants as guard
use Rattle.ac_base.specs.declared.reason.Reason.TheVariants.{KeyChanged}
use Rattle.ac_base.specs.FirstReason.{first_reason}
use Rattle.ac_base.specs.Guards.{HeldGuard}
use Rattle.ac_model.specs.Calls.{Call, call, ChangingAlways, Done, takes_none}
use Rattle.ac_model.specs.Containers.{Container}
use Rattle.ac_model.specs.Keyed.{Order}
use Rattle.ac_model.specs.KeyedSets.{Started, keeps_key}
use Rattle.ac_model.specs.Letters.{reason_if}
use Rattle.ac_model.specs.Objects.{Object, plain, with_rows}
use Rattle.ac_model.specs.Rows.{cut, place_of, value_at, with_value}

-- a cursor guard of the object with this number
abbrev pub cursor_guard_of : ℕ → HeldGuard
cursor_guard_of number = record { object = number; kind = guard.Cursors }

module _ {V : Type 0} where
  -- the guard and the copy are those that the start answers
  abbrev pub Starts : HeldGuard × V → Started V → Type 0
  Starts given started = (given.0 ≡ started.guard) × (started.copy ≡ Some given.1)

  -- the call does what it means to the container, also where it is refused
  abbrev pub DoesAlways : {X A : Type 0} → (X → A → Type 0) → (Object ℕ V → Call (Object ℕ V) A) → Container V → Container V → Result X Fault → Type 0
  DoesAlways Answers call old new result = ChangingAlways Answers (call (plain old.object)) old.object new.object result

  -- the end of an update, once its guard is released: the row under the name is the copy, or it goes where the keys aren't equivalent
  abbrev pub settle_call : {K : Type 0} → (V → K) → Order K → ℕ → V → Object ℕ V → Call (Object ℕ V) Done
  settle_call key keys name copy o =
      let keeps = keeps_key key keys (value_at o.rows name) copy in
      call takes_none
      (first_reason (reason_if (not keeps) KeyChanged ∷ []))
      (with_rows o (if keeps then with_value o.rows name copy else cut o.rows (place_of o.rows name) 1))
      tt

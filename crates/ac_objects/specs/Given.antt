-- What is read of the objects in scope, and the cursors that an object gives.
use Rattle.std.specs.Prelude.{◌≡◌, ◌++◌, ◌∷◌, ⊤, ℕ, Bool, List, slice_get, Option, Some, None}
use Rattle.std.specs.Borrow.{Bor}
use Rattle.ac_base.specs.declared.cursor.Cursor.{Cursor}
use Rattle.ac_base.specs.declared.cursor.Cursor.TheVariants.{NoElement, At}
use Rattle.ac_base.specs.declared.name.Name.{Name}
use Rattle.ac_base.specs.declared.value.Value.{Value}
use Rattle.ac_rules.specs.declared.resolved.ResolvedArg.{ResolvedArg}
use Rattle.ac_rules.specs.declared.resolved.ResolvedArg.TheVariants as arg
use Rattle.ac_model.specs.Letters.{mark_at}
use Rattle.ac_model.specs.Cursors.{plain_mark}
use Rattle.ac_model.specs.Objects as model
use Rattle.ac_calls.specs.Holdings.{number_of}
use Rattle.ac_objects.specs.declared.object.Object.{Object}
use Rattle.ac_meaning.specs.Environment as meant
use Rattle.ac_meaning.specs.Environment.{State, bound_at, object_at}
use Rattle.ac_meaning.specs.Execution.{in_order}
use Rattle.ac_meaning.specs.Walks.{first_mark}
use Rattle.ac_objects.specs.declared.bound.Bound.{Bound}
use Rattle.ac_objects.specs.declared.bound.Bound.TheVariants as bound
use Rattle.ac_calls.specs.Arguments.{SlotAgrees}
use Rattle.ac_objects.specs.World.{World, held_of, state_of, ObjectAgrees}

-- the object that a name holds, if it holds one
abbrev pub HoldsObject : Bound → Option (Bor Object) → Type 0
HoldsObject (bound.Object o) None = ⊥
HoldsObject (bound.Object o) (Some p) = p.now ≡ o
HoldsObject _ None = ⊤
HoldsObject _ (Some p) = ⊥

-- the value that a variable holds; another name holds none
abbrev pub HoldsValue : Bound → Option (Bor Value) → Type 0
HoldsValue (bound.Value v) None = ⊥
HoldsValue (bound.Value v) (Some w) = w.now ≡ v
HoldsValue _ None = ⊤
HoldsValue _ (Some w) = ⊥

-- the same of a name in scope
abbrev pub IsVariable : meant.Bound → Option (Bor Value) → Type 0
IsVariable (meant.binds_value v) None = ⊥
IsVariable (meant.binds_value v) (Some w) = w.now ≡ v
IsVariable _ None = ⊤
IsVariable _ (Some w) = ⊥

-- the value of a literal, or of the variable that an argument names; another argument has none at hand
abbrev pub IsAtHand : State → ResolvedArg → Option (Bor Value) → Type 0
IsAtHand e (arg.Lit v) w = IsVariable (meant.binds_value v) w
IsAtHand e arg.NoElement None = ⊤
IsAtHand e arg.NoElement (Some w) = ⊥
IsAtHand e (arg.At place) w = IsVariable (bound_at e place) w

-- the cursor that a variable holds; another name holds none
abbrev pub HoldsCursor : Bound → Cursor → Type 0
HoldsCursor (bound.Cursor held) c = c ≡ held
HoldsCursor _ c = c ≡ NoElement

-- the object at the place, if one stands there
abbrev pub Finds : World → ℕ → Option (Bor Object) → Type 0
Finds w place None = object_at (state_of w) place ≡ None
Finds w place (Some o) = slice_get w.bounds place ≡ Some (bound.Object o.now)

-- No_Element, or one with this number
abbrev pub HasNumber : ℕ → Cursor → Type 0
HasNumber number NoElement = ⊤
HasNumber number (At object name) = object ≡ number

-- of an object with rows
pub record GivenBy {V : Type 0} (o : model.Object Name V) (c : Cursor) : Type 0 where
  pub number : HasNumber o.number c
  pub agrees : SlotAgrees o c

-- of an object of any kind
pub record IsGiven (o : Object) (c : Cursor) : Type 0 where
  pub number : HasNumber (number_of (held_of o)) c
  pub agrees : ObjectAgrees o c

-- behind a cursor of the object with this number and these names a loop goes on here
abbrev pub StepsOn : (backward : Bool) → (number : ℕ) → List ℕ → (at next : Cursor) → Type 0
StepsOn backward number names at next = (before : List ℕ) (name : ℕ) (after : List ℕ) → in_order backward names ≡ before ++ name ∷ after →
    plain_mark at ≡ mark_at number name → plain_mark next ≡ first_mark number after

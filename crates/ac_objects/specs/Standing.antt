-- What is asked of an environment, and what is told of it whatever a call comes to.
use Rattle.std.specs.Prelude.{◌≡◌, ◌<◌, ◌+◌, ◌⊎◌, ℕ, Bool, List, map, Option, Some, None}
use Rattle.ac_base.specs.Guards.{GuardCounts}
use Rattle.ac_base.specs.declared.value.Value.{Value}
use Rattle.ac_model.specs.Letters.{Mark, no_mark}
use Rattle.ac_calls.specs.Holdings.{Held, of_rows, of_holder, of_queue, from_rows, takes_guards, element_value}
use Rattle.ac_meaning.specs.Environment.{Bound, binds_type, binds_object, binds_cursor, binds_value, binds_element, State, bound_at, object_at, guarded_at}

-- an object stands at the place
pub record IsObject (e : State) (place : ℕ) : Type 0 where
  pub held : Held
  pub there : object_at e place ≡ Some held

-- one that takes guards
pub record TakesGuards (e : State) (place : ℕ) : Type 0 where
  pub held : Held
  pub there : guarded_at e place ≡ Some held

-- the cursor designates an element of the object at the place one of its elements
pub record StandsAt (e : State) (object : ℕ) (at : Mark) : Type 0 where
  pub held : Held
  pub there : object_at e object ≡ Some held
  pub stands : (element_value held at).reason ≡ None

-- the name at the place is a variable's
pub record HasValue (e : State) (place : ℕ) : Type 0 where
  pub value : Value
  pub there : bound_at e place ≡ binds_value value

-- where a loop goes on: at an element of its object, or at none
abbrev pub ComingStands : State → (object : ℕ) → Mark → Type 0
ComingStands e object at = (at ≡ no_mark) ⊎ StandsAt e object at

-- the number and the counts of guards of an object
abbrev pub counts_in_held : Held → GuardCounts
counts_in_held h = from_rows (λ V o. record { number = o.number; cursor_guards = o.cursor_guards; element_guards = o.element_guards }) h

-- these, and whether it takes guards, as commands and blocks leave them
pub record HeldCounts : Type 0 where
  pub guards : GuardCounts
  pub takes : Bool

abbrev pub held_counts : Held → HeldCounts
held_counts h = record { guards = counts_in_held h; takes = takes_guards h }

abbrev pub counts_in : Bound → Option HeldCounts
counts_in binds_type = None
counts_in (binds_object h) = Some (held_counts h)
counts_in (binds_cursor _) = None
counts_in (binds_value _) = None
counts_in (binds_element _ _) = None

-- of the objects, by places
abbrev pub counts_of : State → List (Option HeldCounts)
counts_of e = map counts_in e.bounds

-- the guards that keep an object's elements: of a holder element guards alone. No name stands for an item of a queue
abbrev pub keeping_guards : Held → ℕ
keeping_guards (of_rows kind o) = o.cursor_guards + o.element_guards
keeping_guards (of_holder e h) = h.element_guards
keeping_guards (of_queue number q) = 0

-- an element that a name stands for: it is one of its object, which has a guard
pub record ElementStands (e : State) (object : ℕ) (at : Mark) : Type 0 where
  pub held : Held
  pub there : object_at e object ≡ Some held
  pub stands : (element_value held at).reason ≡ None
  pub guarded : 0 < keeping_guards held

-- so is each in scope: then an assignment to it is never refused for want of an element
abbrev pub ElementsStand : State → Type 0
ElementsStand e = (place object : ℕ) (at : Mark) → bound_at e place ≡ binds_element object at → ElementStands e object at

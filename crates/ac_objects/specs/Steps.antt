-- The steps of a command: what is read before a call, the call on the objects in their places, and what is assigned.
use Rattle.std.specs.Prelude.{◌≡◌, ◌⊎◌, ⊤, ℕ, ℤ, if◌then◌else◌, false, List, slice_get, slice_set, Option, Some, None, Result, Ok, Err}
use Rattle.ac_base.specs.declared.cursor.Cursor.{Cursor}
use Rattle.ac_base.specs.declared.fault.Fault.{Fault}
use Rattle.ac_base.specs.declared.value.Value.{Value}
use Rattle.ac_base.specs.declared.reason.Reason.TheVariants.{Overflow}
use Rattle.ac_base.specs.declared.fault.Fault.TheVariants as fault
use Rattle.ac_model.specs.Calls.{Done}
use Rattle.ac_model.specs.Cursors.{plain_mark}
use Rattle.ac_syntax.specs.declared.operation.Operation.{Operation}
use Rattle.ac_rules.specs.declared.resolved.ResolvedArg.{ResolvedArg}
use Rattle.ac_calls.specs.Answers as meant
use Rattle.ac_meaning.specs.Commands.{Performed, says, Assigned, source_place, source_of, source_set, arguments as meant_arguments, after_call, mark_set, value_set, is_integer, assigned_from}
use Rattle.ac_meaning.specs.Environment.{State, binds_object, bound_at, object_at, with_bound}
use Rattle.ac_calls.specs.Holdings.{Held, number_of, reply_of, element_value, write}
use Rattle.ac_calls.specs.Replies as replies
use Rattle.ac_calls.specs.declared.argument.Argument.{Argument}
use Rattle.ac_calls.specs.declared.argument.Argument.TheVariants as argument
use Rattle.ac_calls.specs.declared.argument.Arguments.{Arguments}
use Rattle.ac_objects.specs.declared.bound.Bound.{Bound}
use Rattle.ac_objects.specs.declared.bound.Bound.TheVariants as bound
use Rattle.ac_objects.specs.declared.object.Object.{Object}
use Rattle.ac_calls.specs.declared.reply.Said.{Said}
use Rattle.ac_calls.specs.declared.reply.Said.TheVariants as said
use Rattle.ac_calls.specs.declared.reply.Placed.{Placed}
use Rattle.ac_calls.specs.declared.reply.Reply.{Reply}
use Rattle.ac_calls.specs.Arguments as arguments
use Rattle.ac_objects.specs.Shown.{Shows}
use Rattle.ac_objects.specs.Called.{AgreesWith, Called, CalledWith, Lasts, WritesTo}
use Rattle.ac_calls.specs.Replied.{Stalls, IsStalled}
use Rattle.ac_objects.specs.Standing.{IsObject, ElementsStand, counts_in, counts_of}
use Rattle.std.specs.Option.{ForSome}
use Rattle.ac_objects.specs.World.{World, Counters, world, state_of, bound_of, held_of, ObjectAgrees, BoundAgrees, IsKnown, IsSound, Persists}

-- the cursors among the arguments are known
pub record AllKnown (w : World) (args : Arguments) : Type 0 where
  pub first : IsKnown w (arguments.cursor_in args.first)
  pub second : IsKnown w (arguments.cursor_in args.second)
  pub third : IsKnown w (arguments.cursor_in args.third)
  pub fourth : IsKnown w (arguments.cursor_in args.fourth)

-- what may stand where another thing stood: the guards and the slots of an object stay
pub record Replaces (old b : Bound) : Type 0 where
  pub counts : counts_in (bound_of b) ≡ counts_in (bound_of old)
  pub agrees : (c : Cursor) → BoundAgrees old c → BoundAgrees b c

-- a step that keeps all that is promised of a command in any case
pub record Advances (old new : World) : Type 0 where
  pub sound : IsSound new
  pub persists : Persists old new
  pub counts : counts_of (state_of new) ≡ counts_of (state_of old)

-- an object in its place, after a call on it
pub record CalledIn (r : replies.Reply Held) (place : ℕ) (o : Object) (old new : List Bound) (result : Result Reply Fault) : Type 0 where
  pub now : Object
  pub bounds : new ≡ slice_set old place (bound.Object now)
  pub called : Called r o now result
  pub lasts : Lasts o now

-- two of them
pub record CalledInBoth (r : replies.Reply Held) (place source : ℕ) (o s : Object) (old new : List Bound) (result : Result Reply Fault) : Type 0 where
  pub now : Object
  pub source_now : Object
  pub bounds : new ≡ slice_set (slice_set old place (bound.Object now)) source (bound.Object source_now)
  pub called : CalledWith r o s now source_now result
  pub lasts : Lasts o now
  pub source_lasts : Lasts s source_now

-- the cursor that an answer has, if it has one, is known
abbrev pub SaidKnown : World → Said → Type 0
SaidKnown w said.Done = ⊤
SaidKnown w (said.Value _) = ⊤
SaidKnown w (said.Truth _) = ⊤
SaidKnown w (said.Place c) = IsKnown w c
SaidKnown w said.Listing = ⊤
SaidKnown w said.Stalled = ⊤

-- the variable that is set, without slots, and its cursor is known
abbrev pub placed_of : Option Placed → Option replies.Placed
placed_of None = None
placed_of (Some p) = replies.placed p.place (plain_mark p.cursor)

abbrev pub PlacedKnown : World → Option Placed → Type 0
PlacedKnown w None = ⊤
PlacedKnown w (Some p) = IsKnown w p.cursor

-- a call that was made on the objects in their places
pub record IsCalledAt (r : replies.Reply Held) (object : ℕ) (source : Option ℕ) (old new : World) (made : Reply) : Type 0 where
  pub goes : r.stalls ≡ false
  pub reason : r.reason ≡ None
  pub after : state_of new ≡ source_set (with_bound (state_of old) object (binds_object r.after)) source r.source
  pub says : Shows (state_of new) object made.said r.answer
  pub variable : r.variable ≡ placed_of made.variable
  pub said_known : SaidKnown new made.said
  pub placed_known : PlacedKnown new made.variable

abbrev pub CalledAt : replies.Reply Held → (object : ℕ) → (source : Option ℕ) → (old new : World) → Result Reply Fault → Type 0
CalledAt r object source old new (Ok made) = IsCalledAt r object source old new made ⊎ IsStalled r old new made
CalledAt r object source old new (Err (fault.Raised reason)) = (r.reason ≡ Some reason) × (new ≡ old)
CalledAt r object source old new (Err fault.NoMemory) = ⊤

-- the object that has the element stands in its place, and the cursor designates one
pub record CanRead (bs : List Bound) (object : ℕ) (at : Cursor) : Type 0 where
  pub held : Object
  pub there : slice_get bs object ≡ Some (bound.Object held)
  pub agrees : ObjectAgrees held at
  pub stands : (element_value (held_of held) (plain_mark at)).reason ≡ None

-- an assignment: made, or refused for the meaning's reason, and then nothing changes
abbrev pub AssignsTo : Assigned → (old new : World) → Result Done Fault → Type 0
AssignsTo a old new (Ok done) = (a.reason ≡ None) × (state_of new ≡ a.after)
AssignsTo a old new (Err (fault.Raised reason)) = (a.reason ≡ Some reason) × (new ≡ old)
AssignsTo a old new (Err fault.NoMemory) = ⊤

-- the element that a cursor designates has the value now, or nothing changed
pub record WritesAt (object : ℕ) (at : Cursor) (v : Value) (o : Object) (old new : List Bound) (result : Result Done Fault) : Type 0 where
  pub now : Object
  pub bounds : new ≡ slice_set old object (bound.Object now)
  pub written : WritesTo (write (held_of o) (plain_mark at) v) o now result
  pub lasts : Lasts o now

-- a cursor is given to a name
pub record SetsMark (place : ℕ) (c : Cursor) (old new : List Bound) : Type 0 where
  pub advances : (counters : Counters) → IsSound (world old counters) → IsKnown (world old counters) c → Advances (world old counters) (world new counters)
  pub set : (counters : Counters) → state_of (world new counters) ≡ mark_set (state_of (world old counters)) place (plain_mark c) (bound_at (state_of (world old counters)) place)

-- and a value
pub record SetsValue (place : ℕ) (v : Value) (old new : List Bound) (result : Result Done Fault) : Type 0 where
  pub advances : (counters : Counters) → IsSound (world old counters) → Advances (world old counters) (world new counters)
  pub set : (counters : Counters) → ElementsStand (state_of (world old counters)) →
      AssignsTo (value_set (state_of (world old counters)) place v (bound_at (state_of (world old counters)) place)) (world old counters) (world new counters) result

-- what two names hold are objects with numbers of their own, at which the cursors among the arguments agree
pub record CanCall (target source : Bound) (args : Arguments) : Type 0 where
  pub object : Object
  pub other : Object
  pub target_is : target ≡ bound.Object object
  pub source_is : source ≡ bound.Object other
  pub apart : number_of (held_of object) ≡ number_of (held_of other) → ⊥
  pub agree : AgreesWith object args
  pub agree_with_source : AgreesWith other args

-- and what a call makes of them
pub record CalledBounds (operation : Operation) (args : Arguments) (target source new source_new : Bound) (result : Result Reply Fault) : Type 0 where
  pub now : Object
  pub other_now : Object
  pub new_is : new ≡ bound.Object now
  pub source_is : source_new ≡ bound.Object other_now
  pub called : (o s : Object) → target ≡ bound.Object o → source ≡ bound.Object s →
      CalledWith (reply_of (held_of o) (Some (held_of s)) operation (arguments.arguments_of args)) o s now other_now result × Lasts o now × Lasts s other_now

-- a call in places, with the object itself or another as the source
pub record CallsIn (operation : Operation) (args : Arguments) (object : ℕ) (source : Option ℕ) (old new : List Bound) (result : Result Reply Fault) : Type 0 where
  pub advances : (counters : Counters) → IsSound (world old counters) → AllKnown (world old counters) args → Advances (world old counters) (world new counters)
  pub called : (counters : Counters) → IsSound (world old counters) → AllKnown (world old counters) args → (h : Held) → object_at (state_of (world old counters)) object ≡ Some h →
      CalledAt (reply_of h (source_of (state_of (world old counters)) source) operation (arguments.arguments_of args)) object source
      (world old counters) (world new counters) result

-- the objects stand in their places, and the arguments are of their world
pub record CanCallIn (bs : List Bound) (object : ℕ) (source : Option ℕ) (args : Arguments) : Type 0 where
  pub counters : Counters
  pub sound : IsSound (world bs counters)
  pub known : AllKnown (world bs counters) args
  pub object_there : IsObject (state_of (world bs counters)) object
  pub source_there : ForSome source (IsObject (state_of (world bs counters)))

-- what a name holds after it is given a cursor
abbrev pub marked : Cursor → Bound → Bound
marked c bound.Type = bound.Type
marked c (bound.Object o) = bound.Object o
marked c (bound.Cursor _) = bound.Cursor c
marked c (bound.Value v) = bound.Value v
marked c (bound.Element object at) = bound.Element object at

-- the bounds of a world whose elements stand
pub record StandsSomewhere (bs : List Bound) : Type 0 where
  pub counters : Counters
  pub sound : IsSound (world bs counters)
  pub stand : ElementsStand (state_of (world bs counters))

-- what is assigned where this was read
abbrev pub answer_of : Argument → meant.Answer
answer_of argument.Absent = meant.answers_ok
answer_of (argument.Place c) = meant.answers_place (plain_mark c)
answer_of (argument.Value v) = meant.answers_value v

-- the first of two places
abbrev pub source_or : Option ℕ → Option ℕ → Option ℕ
source_or later None = later
source_or later (Some place) = Some place

-- a call with the variable among its arguments, but for its target
pub record IsPerformed (r : replies.Reply Held) (object : ℕ) (args : List ResolvedArg) (old new : World) (said : Said) : Type 0 where
  pub goes : r.stalls ≡ false
  pub reason : r.reason ≡ None
  pub after : state_of new ≡ after_call (state_of old) object args r
  pub says : Shows (state_of new) object said r.answer
  pub known : SaidKnown new said

abbrev pub PerformsAt : replies.Reply Held → (object : ℕ) → List ResolvedArg → (old new : World) → Result Said Fault → Type 0
PerformsAt r object args old new (Ok said) = IsPerformed r object args old new said ⊎ Stalls r (state_of old) (state_of new) said
PerformsAt r object args old new (Err (fault.Raised reason)) = (r.reason ≡ Some reason) × (new ≡ old)
PerformsAt r object args old new (Err fault.NoMemory) = ⊤

-- the reply of the object of a call in an environment
abbrev pub reply_in : State → Held → Operation → List ResolvedArg → replies.Reply Held
reply_in e h operation args = reply_of h (source_of e (source_place e args)) operation (meant_arguments e args)

-- a sum, where it is an integer of a script
abbrev pub if_integer : ℤ → Option ℤ
if_integer n = if is_integer n then Some n else None

abbrev pub sum_given : State → (target : ℕ) → Option ℤ → Performed
sum_given e target None = says (meant.answers_raised Overflow) e
sum_given e target (Some n) = assigned_from e target (meant.answers_integer n)

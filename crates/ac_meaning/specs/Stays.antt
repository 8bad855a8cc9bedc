-- What stays of an object through a call on it, and of what the names in scope hold through a command.
use Rattle.std.specs.Prelude.{◌≡◌, ◌<◌, ◌≤◌, ◌⊎◌, ⊤, ℕ, true, List, [], ◌∷◌, length, Option, Some, None, IfSome, is_none, is_some}
use Rattle.ac_base.specs.declared.limit.Limit.{Limit}
use Rattle.ac_base.specs.declared.limit.Limit.TheVariants.{Unbounded}
use Rattle.ac_base.specs.declared.reason.Reason.{Reason}
use Rattle.ac_base.specs.Rows.{names}
use Rattle.ac_model.specs.Capacities.{IsStep}
use Rattle.ac_model.specs.Objects.{Object}
use Rattle.ac_model.specs.Letters.{tampers_cursors}
use Rattle.ac_model.specs.Holders.{Holder, tampers}
use Rattle.ac_model.specs.Queues.{TaskQueue}
use Rattle.ac_calls.specs.Elements.{ElementOf}
use Rattle.ac_calls.specs.Replies.{Source, without, itself, another, Reply}
use Rattle.ac_calls.specs.Holdings.{RowOf, Held, of_rows, of_holder, of_queue, from_rows, number_of}
use Rattle.ac_meaning.specs.Environment.{Bound, binds_type, binds_object, binds_cursor, binds_value, binds_element, State, bound_at, object_at, with_name, leaving}

-- the Capacity of an object that has one and no limit grew, to a step
pub record Grew (limit : Limit) (capacity after : Option ℕ) : Type 0 where
  pub unbounded : limit ≡ Unbounded
  pub had : is_some capacity ≡ true
  pub step : ℕ
  pub is : after ≡ Some step
  pub is_step : IsStep step

-- within this limit a Capacity stays, or it grew
abbrev pub CapacityGoesOn : Limit → (capacity after : Option ℕ) → Type 0
CapacityGoesOn limit capacity after = (after ≡ capacity) ⊎ Grew limit capacity after

-- the object's number, its limit and its counts of guards; no name is taken back; and a call that isn't refused leaves its Capacity or
-- grows it by steps, and where a guard is held keeps the names in the rows, in their order
pub record Stays {V : Type 0} (o : Object ℕ V) (reason : Option Reason) (after : Object ℕ V) : Type 0 where
  pub number : after.number ≡ o.number
  pub limit : after.limit ≡ o.limit
  pub next : o.next ≤ after.next
  pub capacity : reason ≡ None → CapacityGoesOn o.limit o.capacity after.capacity
  pub cursor_guards : after.cursor_guards ≡ o.cursor_guards
  pub element_guards : after.element_guards ≡ o.element_guards
  pub names : reason ≡ None → (tampering : Reason) → tampers_cursors o ≡ Some tampering → names after.rows ≡ names o.rows

-- a call changes no source but another object
abbrev pub SourceStays : {V : Type 0} → Source (Object ℕ V) → Option Reason → Option (Object ℕ V) → Type 0
SourceStays without reason after = after ≡ None
SourceStays itself reason after = after ≡ None
SourceStays (another s _) reason after = IfSome after (λ t. Stays s reason t)

-- of the object of a call and of its source
pub record ReplyStays {V : Type 0} (o : Object ℕ V) (source : Source (Object ℕ V)) (r : Reply (Object ℕ V)) : Type 0 where
  pub target : Stays o r.reason r.after
  pub source_stays : SourceStays source r.reason r.source

-- of a holder its number, its limit and its counts; and where an element guard is held, a call that isn't refused keeps that it has an
-- element, or that it has none
pub record HolderStays {T : Type 0} (h : Holder T) (reason : Option Reason) (after : Holder T) : Type 0 where
  pub number : after.number ≡ h.number
  pub limit : after.limit ≡ h.limit
  pub cursor_guards : after.cursor_guards ≡ h.cursor_guards
  pub element_guards : after.element_guards ≡ h.element_guards
  pub element : reason ≡ None → (tampering : Reason) → tampers h ≡ Some tampering → is_none after.element ≡ is_none h.element

-- a call changes no source but another holder
abbrev pub HolderSourceStays : {T : Type 0} → Source (Holder T) → Option Reason → Option (Holder T) → Type 0
HolderSourceStays without reason after = after ≡ None
HolderSourceStays itself reason after = after ≡ None
HolderSourceStays (another s _) reason after = IfSome after (λ t. HolderStays s reason t)

pub record HolderReplyStays {T : Type 0} (h : Holder T) (source : Source (Holder T)) (r : Reply (Holder T)) : Type 0 where
  pub target : HolderStays h r.reason r.after
  pub source_stays : HolderSourceStays source r.reason r.source

-- of a queue its discipline and its limit
pub record QueueStays (q after : TaskQueue) : Type 0 where
  pub discipline : after.discipline ≡ q.discipline
  pub limit : after.queue.limit ≡ q.queue.limit

-- and its kind
abbrev pub HeldStays : Held → Held → Type 0
HeldStays (of_rows kind o) after = (now : Object ℕ (RowOf kind)) × (after ≡ of_rows kind now) × Stays o None now
HeldStays (of_holder e h) after = (now : Holder (ElementOf e)) × (after ≡ of_holder e now) × HolderStays h None now
HeldStays (of_queue number q) after = (now : TaskQueue) × (after ≡ of_queue number now) × QueueStays q now

-- a name goes on to hold what it held, a cursor variable another cursor and a variable another value
abbrev pub BoundStays : Bound → Bound → Type 0
BoundStays binds_type binds_type = ⊤
BoundStays (binds_object h) (binds_object after) = HeldStays h after
BoundStays (binds_cursor _) (binds_cursor _) = ⊤
BoundStays (binds_value _) (binds_value _) = ⊤
BoundStays (binds_element object at) (binds_element other mark) = (other ≡ object) × (mark ≡ at)
BoundStays _ _ = ⊥

-- each of them, and no name comes or goes
abbrev pub EachStays : List Bound → List Bound → Type 0
EachStays [] [] = ⊤
EachStays [] (_ ∷ _) = ⊥
EachStays (_ ∷ _) [] = ⊥
EachStays (b ∷ bounds) (c ∷ after) = BoundStays b c × EachStays bounds after

-- through a command, which makes no object and begins no block of tasks either
pub record StateStays (e after : State) : Type 0 where
  pub bounds : EachStays e.bounds after.bounds
  pub next : after.next ≡ e.next
  pub blocks : after.blocks ≡ e.blocks

-- the next name that an object gives
abbrev pub next_of : Held → ℕ
next_of h = from_rows (λ V o. o.next) h

-- where an object stood stands one with its number, which takes back no name
pub record ObjectGoesOn (h : Held) (now : State) (place : ℕ) : Type 0 where
  pub held : Held
  pub there : object_at now place ≡ Some held
  pub number : number_of held ≡ number_of h
  pub next : next_of h ≤ next_of held

-- names that come and go
pub record NamesComeAndGo : Type 0 where
  pub back : (e : State) (b : Bound) → leaving (length e.bounds) (with_name e b) ≡ e
  pub last : (e : State) (b : Bound) → bound_at (with_name e b) (length e.bounds) ≡ b
  pub others : (e : State) (b : Bound) (place : ℕ) → place < length e.bounds → bound_at (with_name e b) place ≡ bound_at e place
  pub left : (e : State) (count place : ℕ) → place < count → bound_at (leaving count e) place ≡ bound_at e place

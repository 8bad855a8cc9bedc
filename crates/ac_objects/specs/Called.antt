-- What a call on an object in memory comes to, as the meaning of its reply has it.
use Rattle.std.specs.Prelude.{◌≡◌, ◌⊎◌, ⊤, ℕ, false, Option, Some, None, Result, Ok, Err}
use Rattle.ac_base.specs.declared.cursor.Cursor.{Cursor}
use Rattle.ac_base.specs.declared.cursor.Cursor.TheVariants.{NoElement, At}
use Rattle.ac_base.specs.declared.fault.Fault.{Fault}
use Rattle.ac_base.specs.declared.fault.Fault.TheVariants as fault
use Rattle.ac_model.specs.Objects as lists
use Rattle.ac_model.specs.Calls.{Call, Done, IsAfter}
use Rattle.ac_model.specs.Cursors.{plain_mark}
use Rattle.ac_model.specs.Holders.{IsValidHolder}
use Rattle.ac_model.specs.Containers.{Container, guards_of}
use Rattle.ac_calls.specs.Answers.{Answer, answers_ok, answers_value, answers_truth, answers_place, answers_list}
use Rattle.ac_calls.specs.Elements.{tools_of}
use Rattle.ac_calls.specs.Holdings.{Held, of_rows, of_holder, of_queue, number_of, listing_of, Written}
use Rattle.ac_calls.specs.Replies as replies
use Rattle.ac_calls.specs.declared.argument.Arguments.{Arguments}
use Rattle.ac_objects.specs.declared.object.Object.{Object}
use Rattle.ac_calls.specs.declared.reply.Said.{Said}
use Rattle.ac_calls.specs.declared.reply.Said.TheVariants as said
use Rattle.ac_calls.specs.declared.reply.Placed.{Placed}
use Rattle.ac_calls.specs.declared.reply.Reply.{Reply}
use Rattle.ac_calls.specs.Arguments.{AllAgree, SlotAgrees}
use Rattle.ac_calls.specs.Replied.{IsStalled}
use Rattle.ac_objects.specs.Standing.{held_counts}
use Rattle.ac_objects.specs.World.{InMemory, in_rows, in_holder, in_queue, memory_of, held_of, ObjectAgrees}

-- the cursors among the arguments have the slots that the object would find
abbrev pub AllAgreeIn : InMemory → Arguments → Type 0
AllAgreeIn (in_rows kind l) args = AllAgree l.object args
AllAgreeIn (in_holder e h) args = ⊤
AllAgreeIn (in_queue number q) args = ⊤

abbrev pub AgreesWith : Object → Arguments → Type 0
AgreesWith o args = AllAgreeIn (memory_of o) args

-- no element, or one of the object's own, with the slot that it would find
abbrev pub IsFound : Object → Cursor → Type 0
IsFound o NoElement = ⊤
IsFound o (At object name) = (object ≡ number_of (held_of o)) × ObjectAgrees o (At object name)

-- the answer of a call that didn't wait is the meaning's
abbrev pub Tells : Object → Said → Answer → Type 0
Tells o said.Done answer = answer ≡ answers_ok
Tells o (said.Value v) answer = answer ≡ answers_value v
Tells o (said.Truth is_true) answer = answer ≡ answers_truth is_true
Tells o (said.Place c) answer = (answer ≡ answers_place (plain_mark c)) × IsFound o c
Tells o said.Listing answer = answer ≡ answers_list (listing_of (held_of o))
Tells o said.Stalled answer = ⊥

-- and so is the variable that is set
abbrev pub Places : Object → Option Placed → Option replies.Placed → Type 0
Places o None variable = variable ≡ None
Places o (Some p) variable = (variable ≡ replies.placed p.place (plain_mark p.cursor)) × IsFound o p.cursor

-- a call that was made
pub record IsCalled (r : replies.Reply Held) (new : Object) (made : Reply) : Type 0 where
  pub goes : r.stalls ≡ false
  pub reason : r.reason ≡ None
  pub after : held_of new ≡ r.after
  pub tells : Tells new made.said r.answer
  pub variable : Places new made.variable r.variable

-- another object, which the call changes or leaves
abbrev pub HeldAfter : Object → Object → Option Held → Type 0
HeldAfter old new None = new ≡ old
HeldAfter old new (Some after) = held_of new ≡ after

-- made, or it would wait, or refused for the meaning's reason, or out of memory; and then nothing changes
abbrev pub Called : replies.Reply Held → (old new : Object) → Result Reply Fault → Type 0
Called r old new (Ok made) = (IsCalled r new made × (r.source ≡ None)) ⊎ IsStalled r old new made
Called r old new (Err (fault.Raised reason)) = (r.reason ≡ Some reason) × (new ≡ old)
Called r old new (Err fault.NoMemory) = new ≡ old

-- the same with another object as the source
abbrev pub CalledWith : replies.Reply Held → (old source new source_new : Object) → Result Reply Fault → Type 0
CalledWith r old source new source_new (Ok made) =
    (IsCalled r new made × HeldAfter source source_new r.source) ⊎ (IsStalled r old new made × (source_new ≡ source))
CalledWith r old source new source_new (Err (fault.Raised reason)) = (r.reason ≡ Some reason) × (new ≡ old) × (source_new ≡ source)
CalledWith r old source new source_new (Err fault.NoMemory) = (new ≡ old) × (source_new ≡ source)

-- what stays of an object: the slots that cursors had, its number and its guards
pub record Lasts (old new : Object) : Type 0 where
  pub cursors : (c : Cursor) → ObjectAgrees old c → ObjectAgrees new c
  pub counts : held_counts (held_of new) ≡ held_counts (held_of old)

-- and of its rows
pub record RowsLast {V : Type 0} (old new : Container V) : Type 0 where
  pub cursors : (c : Cursor) → SlotAgrees old.object c → SlotAgrees new.object c
  pub counts : guards_of new ≡ guards_of old

-- a write through a name that stands for an element: made, or refused, or out of memory; and then nothing changes
abbrev pub WritesTo : Written → (old new : Object) → Result Done Fault → Type 0
WritesTo w old new (Ok done) = (w.reason ≡ None) × (held_of new ≡ w.after)
WritesTo w old new (Err (fault.Raised reason)) = (w.reason ≡ Some reason) × (new ≡ old)
WritesTo w old new (Err fault.NoMemory) = new ≡ old

-- it isn't refused
abbrev pub NotRaised : {A : Type 0} → Result A Fault → Type 0
NotRaised (Ok _) = ⊤
NotRaised (Err (fault.Raised _)) = ⊥
NotRaised (Err fault.NoMemory) = ⊤

-- of a holder: its element is no larger than its limit
abbrev pub IsWithinLimit : Held → Type 0
IsWithinLimit (of_rows kind o) = ⊤
IsWithinLimit (of_holder e h) = IsValidHolder (tools_of e).size h
IsWithinLimit (of_queue number q) = ⊤

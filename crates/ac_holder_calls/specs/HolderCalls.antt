-- What a call of a holder in scripts comes to in the code. A holder has no names, so that the code's holder is the meaning's.
use Rattle.std.specs.Prelude.{◌≡◌, ℕ, Bool, false, Option, Some, None, Result, Ok, Err}
use Rattle.ac_base.specs.declared.fault.Fault.{Fault}
use Rattle.ac_base.specs.declared.fault.Fault.TheVariants as fault
use Rattle.ac_model.specs.Calls.{Call, Done}
use Rattle.ac_model.specs.Holders.{Holder}
use Rattle.ac_calls.specs.Answers.{Answer, answers_ok, answers_value, answers_truth, answers_list}
use Rattle.ac_calls.specs.Elements.{Tools}
use Rattle.ac_calls.specs.HolderReplies.{holder_listing}
use Rattle.ac_calls.specs.Replies as replies
use Rattle.ac_calls.specs.declared.reply.Reply.{Reply}
use Rattle.ac_calls.specs.declared.reply.Said.{Said}
use Rattle.ac_calls.specs.declared.reply.Said.TheVariants as said

-- the tools of an element type with its own size and its own test
abbrev pub own_tools : {T : Type 0} → Tools T → (size : T → ℕ) → (same : T → T → Bool) → Tools T
own_tools tools size same = record tools { size = size; same = same }

-- a call's change of a holder: made, or refused for this reason, or out of memory; and then nothing changes
abbrev pub ChangesHolder : {T : Type 0} → Call (Holder T) Done → (old new : Holder T) → Result Done Fault → Type 0
ChangesHolder c old new (Ok done) = (c.reason ≡ None) × (new ≡ c.after)
ChangesHolder c old new (Err (fault.Raised reason)) = (c.reason ≡ Some reason) × (new ≡ old)
ChangesHolder c old new (Err fault.NoMemory) = new ≡ old

module _ {T : Type 0} (tools : Tools T) where
  -- the answer is the meaning's; a listing's text isn't made yet. No call of a holder answers a cursor, and none waits
  abbrev pub HolderSays : Holder T → Said → Answer → Type 0
  HolderSays h said.Done answer = answer ≡ answers_ok
  HolderSays h (said.Value v) answer = answer ≡ answers_value v
  HolderSays h (said.Truth is_true) answer = answer ≡ answers_truth is_true
  HolderSays h (said.Place c) answer = ⊥
  HolderSays h said.Listing answer = answer ≡ answers_list (holder_listing tools h)
  HolderSays h said.Stalled answer = ⊥

  -- a call that was made
  pub record IsHolderMade (r : replies.Reply (Holder T)) (new : Holder T) (made : Reply) : Type 0 where
    pub goes : r.stalls ≡ false
    pub reason : r.reason ≡ None
    pub after : new ≡ r.after
    pub says : HolderSays new made.said r.answer
    pub variable : r.variable ≡ None
    pub none_set : made.variable ≡ None

  -- and on another holder too, which it changes or leaves
  abbrev pub HolderAfter : Holder T → Holder T → Option (Holder T) → Type 0
  HolderAfter old new None = new ≡ old
  HolderAfter old new (Some after) = new ≡ after

  -- made, or refused for the meaning's reason, or out of memory; and then nothing changes
  abbrev pub HolderReplied : replies.Reply (Holder T) → (old new : Holder T) → Result Reply Fault → Type 0
  HolderReplied r old new (Ok made) = IsHolderMade r new made × (r.source ≡ None)
  HolderReplied r old new (Err (fault.Raised reason)) = (r.reason ≡ Some reason) × (new ≡ old)
  HolderReplied r old new (Err fault.NoMemory) = new ≡ old

  abbrev pub HolderRepliedWith : replies.Reply (Holder T) → (old source new source_new : Holder T) → Result Reply Fault → Type 0
  HolderRepliedWith r old source new source_new (Ok made) = IsHolderMade r new made × HolderAfter source source_new r.source
  HolderRepliedWith r old source new source_new (Err (fault.Raised reason)) = (r.reason ≡ Some reason) × (new ≡ old) × (source_new ≡ source)
  HolderRepliedWith r old source new source_new (Err fault.NoMemory) = (new ≡ old) × (source_new ≡ source)

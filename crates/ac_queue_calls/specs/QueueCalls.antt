-- What a call of a queue in scripts comes to in the code. A queue has no names, so that the code's queue is the meaning's, but for its spare.
use Rattle.std.specs.Prelude.{◌≡◌, ◌⊎◌, false, Some, None, Result, Ok, Err}
use Rattle.ac_base.specs.declared.fault.Fault.{Fault}
use Rattle.ac_base.specs.declared.fault.Fault.TheVariants as fault
use Rattle.ac_model.specs.Queues.{TaskQueue}
use Rattle.ac_queue.specs.declared.any_queue.AnyQueue.{AnyQueue}
use Rattle.ac_queue.specs.Shared.{shared}
use Rattle.ac_calls.specs.Answers.{Answer, answers_ok, answers_value, answers_truth, answers_list}
use Rattle.ac_calls.specs.QueueReplies.{queue_listing}
use Rattle.ac_calls.specs.Replies as replies
use Rattle.ac_calls.specs.declared.reply.Reply.{Reply}
use Rattle.ac_calls.specs.declared.reply.Said.{Said}
use Rattle.ac_calls.specs.declared.reply.Said.TheVariants as said
use Rattle.ac_calls.specs.Replied.{IsStalled}

-- the answer of a call that didn't wait is the meaning's; a listing's text isn't made yet. No call of a queue answers a cursor
abbrev pub QueueSays : TaskQueue → Said → Answer → Type 0
QueueSays q said.Done answer = answer ≡ answers_ok
QueueSays q (said.Value v) answer = answer ≡ answers_value v
QueueSays q (said.Truth is_true) answer = answer ≡ answers_truth is_true
QueueSays q (said.Place c) answer = ⊥
QueueSays q said.Listing answer = answer ≡ answers_list (queue_listing q)
QueueSays q said.Stalled answer = ⊥

-- a call that was made
pub record IsQueueMade (r : replies.Reply TaskQueue) (new : TaskQueue) (made : Reply) : Type 0 where
  pub goes : r.stalls ≡ false
  pub reason : r.reason ≡ None
  pub after : new ≡ r.after
  pub source : r.source ≡ None
  pub says : QueueSays new made.said r.answer
  pub variable : r.variable ≡ None
  pub none_set : made.variable ≡ None

-- made, or it would wait, or refused for the meaning's reason, or out of memory; and then nothing changes
abbrev pub QueueReplied : replies.Reply TaskQueue → (old new : AnyQueue) → Result Reply Fault → Type 0
QueueReplied r old new (Ok made) = IsQueueMade r (shared new) made ⊎ IsStalled r old new made
QueueReplied r old new (Err (fault.Raised reason)) = (r.reason ≡ Some reason) × (new ≡ old)
QueueReplied r old new (Err fault.NoMemory) = new ≡ old

-- A call on a queue as a call on an object.
use Rattle.std.proofs.Common.{◌≡◌, inl, inr, ℕ, refl, sym, ap, subst, ◌∙◌, Option, Some, None, Result, Ok, Err, option_map}
use Rattle.ac_base.specs.declared.fault.Fault.{Fault}
use Rattle.ac_base.specs.declared.fault.Fault.TheVariants as fault
use Rattle.ac_base.specs.declared.cursor.Cursor.{Cursor}
use Rattle.ac_base.specs.declared.reason.Reason.TheVariants.{NoElement}
use Rattle.ac_base.specs.declared.value.Value.{Value}
use Rattle.ac_model.specs.Calls.{Done}
use Rattle.ac_model.specs.Cursors.{plain_mark}
use Rattle.ac_model.specs.Queues.{TaskQueue}
use Rattle.ac_queue.specs.declared.any_queue.AnyQueue.{AnyQueue}
use Rattle.ac_queue.specs.declared.any_queue.AnyQueue.TheVariants.{Plain, Ranked}
use Rattle.ac_queue.specs.Kinds.{discipline_of, state_of}
use Rattle.ac_queue.specs.Shared.{shared}
use Rattle.ac_syntax.specs.declared.operation.Operation.{Operation}
use Rattle.ac_calls.specs.Answers.{Answer, answers_list}
use Rattle.ac_calls.specs.QueueReplies.{queue_reply}
use Rattle.ac_calls.specs.Holdings.{Held, of_queue, listing_of, write, reply_of}
use Rattle.ac_calls.specs.Replies.{carried}
use Rattle.ac_calls.specs.Replies as replies
use Rattle.ac_objects.specs.declared.numbered_queue.NumberedQueue.{NumberedQueue}
use Rattle.ac_objects.specs.declared.object.Object.{Object}
use Rattle.ac_objects.specs.declared.object.Object.TheVariants.{Queue}
use Rattle.ac_calls.specs.declared.reply.Placed.{Placed}
use Rattle.ac_calls.specs.declared.reply.Reply.{Reply}
use Rattle.ac_calls.specs.declared.reply.Said.{Said}
use Rattle.ac_calls.specs.declared.reply.Said.TheVariants as said
use Rattle.ac_objects.specs.Called.{Tells, Places, HeldAfter, Called, CalledWith, Lasts, WritesTo}
use Rattle.ac_queue_calls.specs.QueueCalls.{QueueSays, QueueReplied}
use Rattle.ac_objects.specs.Standing.{held_counts}
use Rattle.ac_objects.specs.World.{in_queue, memory_of, held_in, held_of, AgreesIn}

-- what the variant is in memory
pub queue_memory : (q : NumberedQueue) → memory_of (Queue q) ≡ in_queue q.tag (shared q.queue)
unfolding memory_of
queue_memory q = refl

-- a queue is its kind and its state
pub same_queue : (old new : AnyQueue) → discipline_of new ≡ discipline_of old → state_of new ≡ state_of old → new ≡ old
same_queue (Plain q) (Plain p) kind state = ap Plain state
same_queue (Plain q) (Ranked p) kind state = absurd (cc)
same_queue (Ranked q) (Plain p) kind state = absurd (cc)
same_queue (Ranked q) (Ranked p) kind state = ap Ranked state

module _ (number : ℕ) where
  held_is : (q : TaskQueue) (w : Object) → memory_of w ≡ in_queue number q → held_of w ≡ of_queue number q
  held_is q w is = ap held_in is

  tells : (new : TaskQueue) (w : Object) (answer : Answer) → memory_of w ≡ in_queue number new → (s : Said) → QueueSays new s answer → Tells w s answer
  tells new w answer is said.Done h = h
  tells new w answer is (said.Value v) h = h
  tells new w answer is (said.Truth is_true) h = h
  tells new w answer is (said.Place c) h = absurd h
  tells new w answer is said.Listing h = h ∙ ap answers_list (ap listing_of (sym (held_is new w is)))
  tells new w answer is said.Stalled h = absurd h

  places : (w : Object) (p : Option Placed) (variable : Option replies.Placed) → p ≡ None → variable ≡ None → Places w p variable
  places w p variable none unset = subst (λ x. Places w x variable) (sym none) unset

  called : (old new : AnyQueue) (w v : Object) (r : replies.Reply TaskQueue) (result : Result Reply Fault) → memory_of v ≡ in_queue number (shared new) →
      (new ≡ old → v ≡ w) → QueueReplied r old new result → Called (carried (of_queue number) r) w v result
  called old new w v r (Ok made) is same (inl h) = inl (
    record {
      goes = h.goes;
      reason = h.reason;
      after = held_is (shared new) v is ∙ ap (of_queue number) h.after;
      tells = tells (shared new) v r.answer is made.said h.says;
      variable = places v made.variable r.variable h.none_set h.variable;
    },
    ap (option_map (of_queue number)) h.source,
  )
  called old new w v r (Ok made) is same (inr h) = inr (record {
    stalls = record { waits = h.stalls.waits; reason = h.stalls.reason; same = same h.stalls.same; says = h.stalls.says };
    none_set = h.none_set;
  })
  called old new w v r (Err (fault.Raised reason)) is same h = (h.0, same h.1)
  called old new w v r (Err fault.NoMemory) is same h = same h

  -- whatever stands among the arguments

  reply_is : (old : TaskQueue) (w : Object) (source : Option Held) (op : Operation) (a : replies.Arguments) → memory_of w ≡ in_queue number old →
      reply_of (held_of w) source op a ≡ carried (of_queue number) (queue_reply old a op)
  reply_is old w source op a is = ap (λ m. reply_of (held_in m) source op a) is

  pub own_called : (old new : AnyQueue) (w v : Object) (op : Operation) (a : replies.Arguments) (result : Result Reply Fault) →
      memory_of w ≡ in_queue number (shared old) → memory_of v ≡ in_queue number (shared new) → (new ≡ old → v ≡ w) →
      QueueReplied (queue_reply (shared old) a op) old new result → Called (reply_of (held_of w) None op a) w v result
  own_called old new w v op a result is now same h =
      subst (λ r. Called r w v result) (sym (reply_is (shared old) w None op a is)) (called old new w v (queue_reply (shared old) a op) result now same h)

  with_any : (r : replies.Reply Held) (w v s : Object) (result : Result Reply Fault) → Called r w v result → CalledWith r w s v s result
  with_any r w v s (Ok made) (inl h) = inl (h.0, subst (λ x. HeldAfter s s x) (sym h.1) refl)
  with_any r w v s (Ok made) (inr h) = inr (h, refl)
  with_any r w v s (Err (fault.Raised reason)) h = (h.0, h.1, refl)
  with_any r w v s (Err fault.NoMemory) h = (h, refl)

  pub any_called : (old : TaskQueue) (w v s : Object) (op : Operation) (a : replies.Arguments) (result : Result Reply Fault) → memory_of w ≡ in_queue number old →
      Called (reply_of (held_of w) None op a) w v result → CalledWith (reply_of (held_of w) (Some (held_of s)) op a) w s v s result
  any_called old w v s op a result is h =
      with_any (reply_of (held_of w) (Some (held_of s)) op a) w v s result
      (subst (λ r. Called r w v result) (reply_is old w None op a is ∙ sym (reply_is old w (Some (held_of s)) op a is)) h)

  -- no name stands for an item, so that nothing is written
  pub wrote_to : (old new : AnyQueue) (w v : Object) (at : Cursor) (x : Value) (result : Result Done Fault) → memory_of w ≡ in_queue number (shared old) →
      (new ≡ old → v ≡ w) → (result ≡ Err (fault.Raised NoElement)) × (new ≡ old) → WritesTo (write (held_of w) (plain_mark at) x) w v result
  wrote_to old new w v at x result is same refused =
      subst (λ r. WritesTo (write (held_of w) (plain_mark at) x) w v r) (sym refused.0)
      (ap (λ m. (write (held_in m) (plain_mark at) x).reason) is, same refused.1)

  -- its number lasts
  pub lasts : (old new : TaskQueue) (w v : Object) → memory_of w ≡ in_queue number old → memory_of v ≡ in_queue number new → Lasts w v
  lasts old new w v is now = record {
    cursors = λ c agrees. subst (λ m. AgreesIn m c) (sym now) tt;
    counts = ap (λ m. held_counts (held_in m)) now ∙ ap (λ m. held_counts (held_in m)) (sym is);
  }

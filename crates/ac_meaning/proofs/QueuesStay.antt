-- What stays of queues through every call on them.
use Rattle.std.proofs.Common.{◌≡◌, ℤ, Bool, true, false, refl, ◌∙◌, None, if◌then◌else◌}
use Rattle.ac_model.specs.Queues.{Queue, Discipline, by_arrival, by_priority, has_at_least, TaskQueue}
use Rattle.ac_syntax.specs.declared.operation.Operation.{Operation}
use Rattle.ac_syntax.specs.declared.operation.Operation.TheVariants as operation
use Rattle.ac_syntax.specs.declared.operation.QueueCall.{QueueCall}
use Rattle.ac_syntax.specs.declared.operation.QueueCall.TheVariants as queue_call
use Rattle.ac_calls.specs.Replies.{Arguments}
use Rattle.ac_calls.specs.QueueReplies.{high_reply, queue_alone_reply, queue_reply}
use Rattle.ac_meaning.specs.Stays.{QueueStays}

pub queue_same : (q : TaskQueue) → QueueStays q q
queue_same q = record { discipline = refl; limit = refl }

pub queue_then : (q a b : TaskQueue) → QueueStays q a → QueueStays a b → QueueStays q b
queue_then q a b h k = record { discipline = k.discipline ∙ h.discipline; limit = k.limit ∙ h.limit }

pub either_limit : (b : Bool) (q taken : Queue) → taken.limit ≡ q.limit → (if b then taken else q).limit ≡ q.limit
either_limit true q taken e = e
either_limit false q taken e = refl

high_stays : (d : Discipline) (q : TaskQueue) (at_least : ℤ) → QueueStays q (high_reply d q at_least).after
high_stays by_arrival q at_least = queue_same q
high_stays by_priority q at_least =
    record { discipline = refl; limit = either_limit (has_at_least at_least q.queue.items) q.queue _ refl }

high_alone : (d : Discipline) (q : TaskQueue) (at_least : ℤ) → (high_reply d q at_least).source ≡ None
high_alone by_arrival q at_least = refl
high_alone by_priority q at_least = refl

module _ (q : TaskQueue) (args : Arguments) where
  call_stays : (c : QueueCall) → QueueStays q (queue_alone_reply q args c).after
  call_stays queue_call.Enqueue = record { discipline = refl; limit = refl }
  call_stays queue_call.Dequeue = record { discipline = refl; limit = refl }
  call_stays queue_call.CurrentUse = queue_same q
  call_stays queue_call.PeakUse = queue_same q
  call_stays queue_call.Print = queue_same q
  call_stays queue_call.DequeueOnlyHighPriority = high_stays q.discipline q args.first.count

  call_alone : (c : QueueCall) → (queue_alone_reply q args c).source ≡ None
  call_alone queue_call.Enqueue = refl
  call_alone queue_call.Dequeue = refl
  call_alone queue_call.CurrentUse = refl
  call_alone queue_call.PeakUse = refl
  call_alone queue_call.Print = refl
  call_alone queue_call.DequeueOnlyHighPriority = high_alone q.discipline q args.first.count

  pub queue_stays : (op : Operation) → QueueStays q (queue_reply q args op).after
  queue_stays (operation.Queue c) = call_stays c
  queue_stays _ = queue_same q

  -- no other object is one's source
  pub queue_alone : (op : Operation) → (queue_reply q args op).source ≡ None
  queue_alone (operation.Queue c) = call_alone c
  queue_alone _ = refl

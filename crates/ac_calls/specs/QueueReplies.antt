-- The calls of queues on objects of a script, and the text that Print answers. A call that would wait says so, and nothing of it has happened.
use Rattle.std.specs.Prelude.{ℕ, ℤ, false, List, Option, Some, None}
use Rattle.ac_base.specs.declared.value.Value.TheVariants as value
use Rattle.ac_model.specs.Queues as queue
use Rattle.ac_model.specs.Queues.{Discipline, by_arrival, by_priority, TaskQueue}
use Rattle.ac_syntax.specs.Canonical.{literal_text}
use Rattle.ac_syntax.specs.declared.operation.Operation.{Operation}
use Rattle.ac_syntax.specs.declared.operation.Operation.TheVariants as operation
use Rattle.ac_syntax.specs.declared.operation.QueueCall.{QueueCall}
use Rattle.ac_syntax.specs.declared.operation.QueueCall.TheVariants as queue_call
use Rattle.ac_calls.specs.Elements.{integer_in}
use Rattle.ac_calls.specs.Answers.{Answer, answers_ok, answers_integer, answers_truth, answers_list}
use Rattle.ac_calls.specs.Listings.{bracketed}
use Rattle.ac_calls.specs.Replies.{Arguments, Reply, tells}

-- the item that leaves, or `false` where none does
abbrev pub item_answer : Option ℤ → Answer
item_answer None = answers_truth false
item_answer (Some item) = answers_integer item

abbrev pub queue_changes : {A : Type 0} → TaskQueue → (A → Answer) → queue.QueueCall A → Reply TaskQueue
queue_changes q says c = record {
  stalls = c.waits;
  reason = c.reason;
  after = record { discipline = q.discipline; queue = c.after };
  source = None;
  answer = says c.answer;
  variable = None;
}

abbrev pub queue_listing : TaskQueue → List ℕ
queue_listing q = bracketed (λ item. literal_text (value.Int item)) q.queue.items

-- Dequeue_Only_High_Priority: a plain queue hasn't it
abbrev pub high_reply : Discipline → TaskQueue → ℤ → Reply TaskQueue
high_reply by_arrival q at_least = tells q answers_ok
high_reply by_priority q at_least = queue_changes q item_answer (queue.high_only_call q.queue at_least)

module _ (q : TaskQueue) (args : Arguments) where
  abbrev pub queue_alone_reply : QueueCall → Reply TaskQueue
  queue_alone_reply queue_call.Enqueue =
      queue_changes q (λ _. answers_ok) (queue.enqueue_call q.discipline q.queue (integer_in args.first.value))
  queue_alone_reply queue_call.Dequeue = queue_changes q item_answer (queue.dequeue_call q.queue)
  queue_alone_reply queue_call.CurrentUse = tells q (answers_integer (queue.current_use_call q.queue))
  queue_alone_reply queue_call.PeakUse = tells q (answers_integer (queue.peak_use_call q.queue))
  queue_alone_reply queue_call.Print = tells q (answers_list (queue_listing q))
  queue_alone_reply queue_call.DequeueOnlyHighPriority = high_reply q.discipline q args.first.count

  -- an operation of another kind's objects is none of a queue's
  abbrev pub queue_reply : Operation → Reply TaskQueue
  queue_reply (operation.Queue c) = queue_alone_reply c
  queue_reply _ = tells q answers_ok

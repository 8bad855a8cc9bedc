-- What each call leaves of a queue in memory, and what it answers, by the call's meaning.
use Rattle.std.specs.Prelude.{◌≡◌, ◌+◌, ◌-◌, ◌<◌, ℤ, Bool, true, not, ◌&&◌, Option, Some, None, is_some, is_none, if◌then◌else◌}
use Rattle.ac_model.specs.Queues.{Discipline, QueueCall, enqueue_call}
use Rattle.ac_queue.specs.declared.answers.Enqueued.{Enqueued}
use Rattle.ac_queue.specs.declared.answers.Enqueued.TheVariants as enqueued
use Rattle.ac_queue.specs.declared.answers.Dequeued.{Dequeued}
use Rattle.ac_queue.specs.declared.answers.Dequeued.TheVariants as dequeued
use Rattle.ac_queue.specs.QueueStates.{QueueState, state}

-- the call neither waits nor is refused
abbrev pub goes : {A : Type 0} → QueueCall A → Bool
goes c = not c.waits && is_none c.reason

abbrev pub enqueue_answer : QueueCall (Unit {0}) → Enqueued
enqueue_answer c = if c.waits then enqueued.WouldWait else (if is_none c.reason then enqueued.Took else enqueued.TooLong)

abbrev pub dequeue_answer : QueueCall (Option ℤ) → Dequeued
dequeue_answer c = if c.waits then dequeued.WouldWait else (elim c.answer [ None ↦ dequeued.WouldWait | Some item ↦ dequeued.Got item ])

-- an item that is taken up needs one of the spare
abbrev pub HasSpareFor : {A : Type 0} → QueueState → QueueCall A → Type 0
HasSpareFor s c = goes c ≡ true → 0 < s.spare

abbrev pub after_enqueue : Discipline → QueueState → ℤ → QueueState
after_enqueue discipline s item = let c = enqueue_call discipline s.queue item in if goes c then state c.after (s.spare - 1) else s

-- the item that leaves gives one to the spare
abbrev pub after_leaving : QueueState → QueueCall (Option ℤ) → QueueState
after_leaving s c = if is_some c.answer then state c.after (s.spare + 1) else s

-- What a step of a task does: whether it would wait, and where it doesn't, its reply and the queues that it leaves.
use Rattle.std.specs.Prelude.{◌+◌, ◌-◌, ◌^◌, ℕ, ℤ, pos, negsuc, ◌+ℤ◌, int_le, Bool, false, ◌&&◌, List, Option, Some, None, get_or, set, if◌then◌else◌}
use Rattle.ac_base.specs.declared.limit.Limit.TheVariants.{Unbounded}
use Rattle.ac_base.specs.declared.reason.Reason.TheVariants.{Overflow}
use Rattle.ac_model.specs.Queues.{Queue, by_arrival, QueueCall, empty_queue, enqueue_call, dequeue_call, high_only_call, current_use_call, peak_use_call, TaskQueue}
use Rattle.ac_history.specs.declared.code.TaskArg.{TaskArg}
use Rattle.ac_history.specs.declared.code.TaskArg.TheVariants as arg
use Rattle.ac_history.specs.declared.code.TaskStep.{TaskStep}
use Rattle.ac_history.specs.declared.code.TaskStep.TheVariants.{Enqueue, Dequeue, High, CurrentUse, PeakUse, Set}
use Rattle.ac_history.specs.declared.entry.Reply.{Reply}
use Rattle.ac_history.specs.declared.entry.Reply.TheVariants as reply
use Rattle.ac_history.specs.States.{TaskState}

abbrev pub value_of : List ℤ → TaskArg → ℤ
value_of locals (arg.Number n) = n
value_of locals (arg.Local i) = get_or locals i (pos 0)

-- the local that takes the reply
abbrev pub target_of : TaskStep → Option ℕ
target_of (Enqueue line queue item) = None
target_of (Dequeue line queue into) = into
target_of (High line queue at_least into) = into
target_of (CurrentUse line queue into) = into
target_of (PeakUse line queue into) = into
target_of (Set line into from add) = Some into

-- only a number goes into a local
abbrev pub kept : Option ℕ → Reply → List ℤ → List ℤ
kept None told locals = locals
kept (Some i) reply.Done locals = locals
kept (Some i) (reply.Number n) locals = set locals i n
kept (Some i) reply.No locals = locals
kept (Some i) (reply.Raised reason) locals = locals

-- what a step comes to on its queue
pub record QueueStep : Type 0 where
  pub waits : Bool
  pub answer : Reply
  pub after : Queue

abbrev pub enqueue_step : TaskQueue → ℤ → QueueStep
enqueue_step q item =
    let c = enqueue_call q.discipline q.queue item in
    record {
      waits = c.waits;
      answer = elim c.reason [ None ↦ reply.Done | Some reason ↦ reply.Raised reason ];
      after = elim c.reason [ None ↦ c.after | Some reason ↦ q.queue ];
    }

abbrev pub number_or_no : Option ℤ → Reply
number_or_no None = reply.No
number_or_no (Some n) = reply.Number n

abbrev pub taking_step : QueueCall (Option ℤ) → QueueStep
taking_step c = record { waits = c.waits; answer = number_or_no c.answer; after = c.after }

-- what a step comes to
pub record StepCall : Type 0 where
  pub waits : Bool
  pub answer : Reply
  pub queues : List TaskQueue

-- a number that names no queue names an empty one
abbrev pub queue_at : List TaskQueue → ℕ → TaskQueue
queue_at queues i = get_or queues i (record { discipline = by_arrival; queue = empty_queue Unbounded })

abbrev pub on_queue : List TaskQueue → ℕ → (TaskQueue → QueueStep) → StepCall
on_queue queues i step =
    let q = queue_at queues i in
    let c = step q in
    record { waits = c.waits; answer = c.answer; queues = set queues i (record { discipline = q.discipline; queue = c.after }) }

abbrev pub enqueue_on : List TaskQueue → ℕ → ℤ → StepCall
enqueue_on queues i item = on_queue queues i (λ q. enqueue_step q item)

abbrev pub dequeue_on : List TaskQueue → ℕ → StepCall
dequeue_on queues i = on_queue queues i (λ q. taking_step (dequeue_call q.queue))

abbrev pub high_on : List TaskQueue → ℕ → ℤ → StepCall
high_on queues i at_least = on_queue queues i (λ q. taking_step (high_only_call q.queue at_least))

-- nothing changes on the queues
abbrev pub only_answers : List TaskQueue → Reply → StepCall
only_answers queues answer = record { waits = false; answer = answer; queues = queues }

abbrev pub is_integer : ℤ → Bool
is_integer n = int_le (negsuc (2 ^ 63 - 1)) n && int_le n (pos (2 ^ 63 - 1))

abbrev pub sum_reply : ℤ → Reply
sum_reply n = if is_integer n then reply.Number n else reply.Raised Overflow

abbrev pub step_call : TaskStep → List TaskQueue → List ℤ → StepCall
step_call (Enqueue line queue item) queues locals = enqueue_on queues queue (value_of locals item)
step_call (Dequeue line queue into) queues locals = dequeue_on queues queue
step_call (High line queue at_least into) queues locals = high_on queues queue (value_of locals at_least)
step_call (CurrentUse line queue into) queues locals = only_answers queues (reply.Number (current_use_call (queue_at queues queue).queue))
step_call (PeakUse line queue into) queues locals = only_answers queues (reply.Number (peak_use_call (queue_at queues queue).queue))
step_call (Set line into from add) queues locals = only_answers queues (sum_reply (value_of locals from +ℤ add))

-- the task with this step done
abbrev pub advanced : TaskState → TaskStep → Reply → TaskState
advanced t step answer = record { steps = t.steps; place = t.place + 1; locals = kept (target_of step) answer t.locals }

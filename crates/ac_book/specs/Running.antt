-- What the code's steps answer and leave, and what they want of the queues in memory.
use Rattle.std.specs.Prelude.{◌≡◌, ◌<◌, ◌≤◌, ⊤, ℕ, Bool, List, length, Option, Some, None, if◌then◌else◌}
use Rattle.std.specs.List.{All}
use Rattle.ac_model.specs.Queues.{by_priority, TaskQueue}
use Rattle.ac_queue.specs.declared.any_queue.AnyQueue.{AnyQueue}
use Rattle.ac_queue.specs.Kinds.{state_of}
use Rattle.ac_history.specs.declared.code.TaskArg.{TaskArg}
use Rattle.ac_history.specs.declared.code.TaskArg.TheVariants as arg
use Rattle.ac_history.specs.declared.code.TaskStep.{TaskStep}
use Rattle.ac_history.specs.declared.code.TaskStep.TheVariants.{Enqueue, Dequeue, High, CurrentUse, PeakUse, Set}
use Rattle.ac_history.specs.declared.entry.Reply.{Reply}
use Rattle.ac_history.specs.Steps.{QueueStep, StepCall, queue_at}

-- nothing, where it would wait
abbrev pub answered : Bool → Reply → Option Reply
answered waits answer = if waits then None else Some answer

abbrev pub queue_after : TaskQueue → QueueStep → TaskQueue
queue_after q c = if c.waits then q else record { discipline = q.discipline; queue = c.after }

abbrev pub queues_after : List TaskQueue → StepCall → List TaskQueue
queues_after queues c = if c.waits then queues else c.queues

-- each queue takes so many items without memory
abbrev pub HaveSpare : ℕ → List AnyQueue → Type 0
HaveSpare n queues = All (λ q. n ≤ (state_of q).spare) queues

-- how many items a step adds at most
abbrev pub added_by : TaskStep → ℕ
added_by (Enqueue line queue item) = 1
added_by (Dequeue line queue into) = 0
added_by (High line queue at_least into) = 0
added_by (CurrentUse line queue into) = 0
added_by (PeakUse line queue into) = 0
added_by (Set line into from add) = 0

-- the same of the next step, if there is one
abbrev pub added_next : Option TaskStep → ℕ
added_next None = 0
added_next (Some step) = added_by step

abbrev pub IsArg : (locals : ℕ) → TaskArg → Type 0
IsArg locals (arg.Number n) = ⊤
IsArg locals (arg.Local i) = i < locals

abbrev pub IsTarget : (locals : ℕ) → Option ℕ → Type 0
IsTarget locals None = ⊤
IsTarget locals (Some i) = i < locals

-- the numbers of a step are in range, and only a priority queue is asked for priorities
abbrev pub Fits : (queues : List TaskQueue) (locals : ℕ) → TaskStep → Type 0
Fits queues locals (Enqueue line queue item) = (queue < length queues) × IsArg locals item
Fits queues locals (Dequeue line queue into) = (queue < length queues) × IsTarget locals into
Fits queues locals (High line queue at_least into) = (queue < length queues) × ((queue_at queues queue).discipline ≡ by_priority) × IsArg locals at_least × IsTarget locals into
Fits queues locals (CurrentUse line queue into) = (queue < length queues) × IsTarget locals into
Fits queues locals (PeakUse line queue into) = (queue < length queues) × IsTarget locals into
Fits queues locals (Set line into from add) = (into < locals) × IsArg locals from

-- A block of tasks when it runs: the queues that it shares and the steps of its tasks, the lines of its history, and the environment that it leaves. Which task goes when is told by an order (`ac_history`).
use Rattle.std.specs.Prelude.{ℕ, pos, ◌+◌, ◌-◌, ◌==◌, nat_lt, Bool, true, false, ◌&&◌, List, [], ◌∷◌, ◌++◌, length, map, get_or, slice_get, Option, Some, None, option_map, if◌then◌else◌}
use Rattle.std.specs.List.{list_all, list_any, position_or_len}
use Rattle.ac_base.specs.declared.limit.Limit.TheVariants.{Unbounded}
use Rattle.ac_model.specs.Queues.{by_arrival, by_priority, empty_queue, TaskQueue}
use Rattle.ac_history.specs.declared.code.TaskArg.{TaskArg}
use Rattle.ac_history.specs.declared.code.TaskArg.TheVariants as task_arg
use Rattle.ac_history.specs.declared.code.TaskStep.{TaskStep}
use Rattle.ac_history.specs.declared.code.TaskStep.TheVariants.{Enqueue, Dequeue, High, CurrentUse, PeakUse, Set}
use Rattle.ac_history.specs.declared.code.TaskCode.{TaskCode}
use Rattle.ac_history.specs.declared.entry.Entry.{Entry}
use Rattle.ac_history.specs.declared.entry.Reply.{Reply}
use Rattle.ac_history.specs.declared.entry.Reply.TheVariants as reply
use Rattle.ac_history.specs.States.{TaskState}
use Rattle.ac_history.specs.Blocks.{Block, new_block, present}
use Rattle.ac_syntax.specs.declared.operation.Operation.{Operation}
use Rattle.ac_syntax.specs.declared.operation.Operation.TheVariants as operation
use Rattle.ac_syntax.specs.declared.operation.QueueCall.{QueueCall}
use Rattle.ac_syntax.specs.declared.operation.QueueCall.TheVariants as queue_call
use Rattle.ac_rules.specs.declared.resolved.ResolvedArg.{ResolvedArg}
use Rattle.ac_rules.specs.declared.resolved.ResolvedArg.TheVariants.{Lit, NoElement, At}
use Rattle.ac_rules.specs.Resolved.{ResolvedSimple, calls_at, sets_at, sums_at, ResolvedHead, loops_at, views_at, stables_at, declares_at, gathers_at, works_at, begins_at, tries_at, handles_at, ResolvedCode, no_statement, a_command, a_block}
use Rattle.ac_calls.specs.Elements.{integer_in}
use Rattle.ac_calls.specs.Answers.{Answer, answers_ok, answers_integer, answers_truth, answers_raised, answers_stalled, Line, task_line}
use Rattle.ac_calls.specs.Holdings.{Held, of_rows, of_holder, of_queue}
use Rattle.ac_meaning.specs.Environment.{binds_object, State, object_at, with_bound}
use Rattle.ac_meaning.specs.Commands.{sum_of}

-- The queues

-- a place behind others, unless it is one of them
abbrev pub with_place : List ℕ → ℕ → List ℕ
with_place places place = if list_any (λ p. p == place) places then places else places ++ place ∷ []

abbrev pub with_object : List ℕ → ResolvedSimple → List ℕ
with_object places (calls_at number target object operation args) = with_place places object
with_object places (sets_at number target from) = places
with_object places (sums_at number target from minus n) = places

-- the places of the objects that a task's commands call, each once, in the order of the text and behind these. No block stands in a task
abbrev pub places_called : ResolvedCode → List ℕ → List ℕ
places_called no_statement places = places
places_called (a_command simple rest) places = places_called rest (with_object places simple)
places_called (a_block head body rest) places = places_called rest places

-- and those of tasks, of which each is a block
abbrev pub places_shared : ResolvedCode → List ℕ → List ℕ
places_shared no_statement places = places
places_shared (a_command simple rest) places = places_shared rest places
places_shared (a_block head steps rest) places = places_shared rest (places_called steps places)

-- the queues of a block of tasks
abbrev pub queue_places : ResolvedCode → List ℕ
queue_places tasks = places_shared tasks []

-- what is no queue counts as an empty one: no script that can run has one there
abbrev pub no_queue : TaskQueue
no_queue = record { discipline = by_arrival; queue = empty_queue Unbounded }

abbrev pub queue_in : Option Held → TaskQueue
queue_in None = no_queue
queue_in (Some (of_rows kind o)) = no_queue
queue_in (Some (of_holder e h)) = no_queue
queue_in (Some (of_queue number q)) = q

abbrev pub queues_at : State → (places : List ℕ) → List TaskQueue
queues_at e places = map (λ place. queue_in (object_at e place)) places

-- The tasks

-- `places` are those of the queues, and `first` is that of the task's first local
module _ (places : List ℕ) (first : ℕ) where
  abbrev pub queue_number : ℕ → ℕ
  queue_number place = position_or_len (λ p. p == place) places

  abbrev pub local_number : ℕ → ℕ
  local_number place = place - first

  abbrev pub argument_from : ResolvedArg → TaskArg
  argument_from (Lit v) = task_arg.Number (integer_in v)
  argument_from NoElement = task_arg.Number (pos 0)
  argument_from (At place) = task_arg.Local (local_number place)

  abbrev pub first_argument : List ResolvedArg → TaskArg
  first_argument [] = task_arg.Number (pos 0)
  first_argument (a ∷ args) = argument_from a

  -- of a call. Tasks have no Print
  abbrev pub queue_step : (number queue : ℕ) → (into : Option ℕ) → (item : TaskArg) → QueueCall → TaskStep
  queue_step number queue into item queue_call.Enqueue = Enqueue number queue item
  queue_step number queue into item queue_call.Dequeue = Dequeue number queue into
  queue_step number queue into item queue_call.CurrentUse = CurrentUse number queue into
  queue_step number queue into item queue_call.PeakUse = PeakUse number queue into
  queue_step number queue into item queue_call.Print = CurrentUse number queue None
  queue_step number queue into item queue_call.DequeueOnlyHighPriority = High number queue item into

  -- nor calls on other objects
  abbrev pub call_step : (number queue : ℕ) → (into : Option ℕ) → (item : TaskArg) → Operation → TaskStep
  call_step number queue into item (operation.Queue c) = queue_step number queue into item c
  call_step number queue into item _ = CurrentUse number queue None

  abbrev pub step_of : ResolvedSimple → TaskStep
  step_of (calls_at number target object operation args) =
      call_step number (queue_number object) (option_map local_number target) (first_argument args) operation
  step_of (sets_at number target from) = Set number (local_number target) (argument_from from) (pos 0)
  step_of (sums_at number target from minus n) =
      Set number (local_number target) (task_arg.Local (local_number from)) (sum_of minus (pos 0) n)

  -- of each command
  abbrev pub steps_of : ResolvedCode → List TaskStep
  steps_of no_statement = []
  steps_of (a_command simple rest) = step_of simple ∷ steps_of rest
  steps_of (a_block head body rest) = steps_of rest

-- a task with its name
pub record Task : Type 0 where
  pub name : List ℕ
  pub code : TaskCode

abbrev pub task : List ℕ → (locals : ℕ) → List TaskStep → Task
task name locals steps = record { name = name; code = record { locals = locals; steps = steps } }

-- another block is none
abbrev pub task_by : ResolvedHead → List TaskStep → List Task
task_by (loops_at _ _ _ _) steps = []
task_by (views_at _ _ _ _) steps = []
task_by (stables_at _ _) steps = []
task_by (declares_at _ _) steps = []
task_by (gathers_at _) steps = []
task_by (works_at number name locals) steps = task name locals steps ∷ []
task_by begins_at steps = []
task_by tries_at steps = []
task_by (handles_at _) steps = []

-- behind each task's name stand its locals, and then those of the next task behind both names
abbrev pub tasks_from : ResolvedCode → (places : List ℕ) → (first : ℕ) → List Task
tasks_from no_statement places first = []
tasks_from (a_command simple rest) places first = tasks_from rest places first
tasks_from (a_block head steps rest) places first = task_by head (steps_of places first steps) ++ tasks_from rest places (first + 1)

abbrev pub tasks_of : State → ResolvedCode → List Task
tasks_of e tasks = tasks_from tasks (queue_places tasks) (length e.bounds + 1)

abbrev pub block_of : State → ResolvedCode → Block
block_of e tasks = new_block (queues_at e (queue_places tasks)) (map (λ (t : Task). t.code) (tasks_of e tasks))

-- Whether its numbers are those of its queues and locals. In a script that can run they are

abbrev pub is_ranked : TaskQueue → Bool
is_ranked q = elim q.discipline [ by_arrival ↦ false | by_priority ↦ true ]

abbrev pub argument_fits : (locals : ℕ) → TaskArg → Bool
argument_fits locals (task_arg.Number n) = true
argument_fits locals (task_arg.Local i) = nat_lt i locals

abbrev pub target_fits : (locals : ℕ) → Option ℕ → Bool
target_fits locals None = true
target_fits locals (Some i) = nat_lt i locals

-- `ranked` says of each queue whether it is one by priority, which alone are asked for priorities
abbrev pub step_fits : (ranked : List Bool) (locals : ℕ) → TaskStep → Bool
step_fits ranked locals (Enqueue number queue item) = nat_lt queue (length ranked) && argument_fits locals item
step_fits ranked locals (Dequeue number queue into) = nat_lt queue (length ranked) && target_fits locals into
step_fits ranked locals (High number queue at_least into) = get_or ranked queue false && (argument_fits locals at_least && target_fits locals into)
step_fits ranked locals (CurrentUse number queue into) = nat_lt queue (length ranked) && target_fits locals into
step_fits ranked locals (PeakUse number queue into) = nat_lt queue (length ranked) && target_fits locals into
step_fits ranked locals (Set number into from add) = nat_lt into locals && argument_fits locals from

abbrev pub code_fits : (ranked : List Bool) → TaskCode → Bool
code_fits ranked t = list_all (step_fits ranked t.locals) t.steps

abbrev pub block_fits : Block → Bool
block_fits b = list_all (code_fits (map is_ranked b.queues)) b.code

-- The lines

abbrev pub line_of : TaskStep → ℕ
line_of (Enqueue number queue item) = number
line_of (Dequeue number queue into) = number
line_of (High number queue at_least into) = number
line_of (CurrentUse number queue into) = number
line_of (PeakUse number queue into) = number
line_of (Set number into from add) = number

abbrev pub reply_answer : Reply → Answer
reply_answer reply.Done = answers_ok
reply_answer (reply.Number n) = answers_integer n
reply_answer reply.No = answers_truth false
reply_answer (reply.Raised reason) = answers_raised reason

-- of a step of a task, if there is one
abbrev pub step_lines : (name : List ℕ) → Answer → Option TaskStep → List Line
step_lines name answer None = []
step_lines name answer (Some step) = task_line (line_of step) name answer ∷ []

abbrev pub lines_at : Option Task → (place : ℕ) → Answer → List Line
lines_at None place answer = []
lines_at (Some t) place answer = step_lines t.name answer (slice_get t.code.steps place)

-- of what was done: one an entry, with its reply
abbrev pub history_lines : List Task → List Entry → List Line
history_lines tasks [] = []
history_lines tasks (e ∷ history) = lines_at (slice_get tasks e.task) e.place (reply_answer e.reply) ++ history_lines tasks history

-- of each task that isn't over: its next command is stalled
abbrev pub stalled_lines : List Task → List TaskState → List Line
stalled_lines [] states = []
stalled_lines (t ∷ tasks) [] = []
stalled_lines (t ∷ tasks) (s ∷ states) = lines_at (Some t) s.place answers_stalled ++ stalled_lines tasks states

abbrev pub block_lines : List Task → Block → List Line
block_lines tasks b = history_lines tasks b.history ++ stalled_lines tasks (present b).tasks

-- The environment behind it

abbrev pub queue_left : State → (place : ℕ) → TaskQueue → Option Held → State
queue_left e place q None = e
queue_left e place q (Some (of_rows kind o)) = e
queue_left e place q (Some (of_holder element h)) = e
queue_left e place q (Some (of_queue number old)) = with_bound e place (binds_object (of_queue number q))

-- each queue goes back to its place
abbrev pub queues_left : (places : List ℕ) → List TaskQueue → State → State
queues_left [] queues e = e
queues_left (place ∷ places) [] e = e
queues_left (place ∷ places) (q ∷ queues) e = queues_left places queues (queue_left e place q (object_at e place))

abbrev pub one_block_more : State → State
one_block_more e = record e { blocks = e.blocks + 1 }

abbrev pub after_block : ResolvedCode → Block → State → State
after_block tasks b e = one_block_more (queues_left (queue_places tasks) (present b).queues e)

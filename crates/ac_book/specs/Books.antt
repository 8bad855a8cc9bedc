-- What a book in memory keeps: its history explains the queues and the tasks, and there is room for all that is left to do.
use Rattle.std.specs.Prelude.{◌≡◌, ◌+◌, ◌≤◌, ◌<◌, ◌^◌, ℕ, List, [], ◌∷◌, map, length, Result, Ok, Err}
use Rattle.std.specs.List.{All}
use Rattle.ac_queue.specs.declared.any_queue.AnyQueue.{AnyQueue}
use Rattle.ac_history.specs.declared.code.TaskCode.{TaskCode}
use Rattle.ac_history.specs.declared.entry.Entry.{Entry}
use Rattle.ac_history.specs.declared.entry.Turn.{Turn}
use Rattle.ac_history.specs.declared.entry.Turn.TheVariants as turn
use Rattle.ac_history.specs.Blocks.{Block, commands_in}
use Rattle.ac_history.specs.Histories.{Explains}
use Rattle.ac_history.specs.States.{State, TaskState, opening_state, left, one_each}
use Rattle.ac_model.specs.Queues.{TaskQueue}
use Rattle.ac_book.specs.Running.{Fits, HaveSpare, added_by}
use Rattle.ac_queue.specs.Shared.{shared}
use Rattle.ac_book.specs.Tasks.{code_of}

abbrev pub block_of : List AnyQueue → List TaskState → List Entry → Block
block_of opened tasks history = record { queues = map shared opened; code = map code_of tasks; history = history }

abbrev pub state_now : List AnyQueue → List TaskState → State
state_now queues tasks = record { queues = map shared queues; tasks = tasks }

-- the numbers of all steps are in range
abbrev pub TaskFits : List TaskQueue → TaskState → Type 0
TaskFits queues t = All (Fits queues (length t.locals)) t.steps

abbrev pub CodeFits : List TaskQueue → TaskCode → Type 0
CodeFits queues t = All (Fits queues t.locals) t.steps

pub record IsBook (opened : List TaskQueue) (queues : List AnyQueue) (tasks : List TaskState) (history : List Entry) (slots : ℕ) : Type 0 where
  pub explains : Explains (opening_state opened (map code_of tasks)) history (state_now queues tasks)
  pub fits : All (TaskFits (map shared queues)) tasks
  pub spare : HaveSpare (left added_by tasks) queues
  pub room : length history + left one_each tasks ≤ slots
  pub all : commands_in (map code_of tasks) ≡ slots
  pub few : length tasks < 2 ^ 32

-- the entry of what was done, if anything was
abbrev pub entries_in : Result Entry Turn → List Entry
entries_in (Ok e) = e ∷ []
entries_in (Err told) = []

abbrev pub told_in : Result Entry Turn → Turn
told_in (Ok e) = turn.Ran
told_in (Err told) = told

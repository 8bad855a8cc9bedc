-- A task in memory, and what becomes of it and the queues in its turn.
use Rattle.std.specs.Prelude.{◌≡◌, ◌≤◌, ◌<◌, ◌^◌, ℕ, ℤ, Bool, true, false, List, length, Option, Some, None, Result, Ok, Err}
use Rattle.std.specs.List.{slice_get}
use Rattle.std.specs.Coded.{Coded, codes}
use Rattle.ac_history.specs.declared.code.TaskStep.{TaskStep}
use Rattle.ac_history.specs.declared.code.TaskCode.{TaskCode}
use Rattle.ac_history.specs.declared.entry.Entry.{Entry}
use Rattle.ac_history.specs.declared.entry.Turn.{Turn}
use Rattle.ac_history.specs.declared.entry.Turn.TheVariants as turn
use Rattle.ac_history.specs.States.{TaskState}
use Rattle.ac_model.specs.Queues.{TaskQueue}
use Rattle.ac_history.specs.Steps.{StepCall, step_call, advanced}
use Rattle.ac_history.specs.Histories.{entry}

pub coded_task : Coded TaskState
coded_task = hlevel codes

abbrev pub task_of : List TaskStep → ℕ → List ℤ → TaskState
task_of steps place locals = record { steps = steps; place = place; locals = locals }

abbrev pub next_of : TaskState → Option TaskStep
next_of t = slice_get t.steps t.place

-- places are numbers of 32 bits
pub record IsTask (t : TaskState) : Type 0 where
  pub few : length t.steps < 2 ^ 32
  pub within : t.place ≤ length t.steps

-- how many locals a task has, and its steps
abbrev pub code_of : TaskState → TaskCode
code_of t = record { locals = length t.locals; steps = t.steps }

pub record Stays (old : TaskState) (qs : List TaskQueue) (new : TaskState) (left : List TaskQueue) : Type 0 where
  pub task : new ≡ old
  pub queues : left ≡ qs

pub record Goes (old : TaskState) (step : TaskStep) (c : StepCall) (new : TaskState) (left : List TaskQueue) : Type 0 where
  pub task : new ≡ advanced old step c.answer
  pub queues : left ≡ c.queues

abbrev pub GoesBy : Bool → TaskState → List TaskQueue → ℕ → TaskStep → StepCall → TaskState → List TaskQueue → Result Entry Turn → Type 0
GoesBy true old qs number step c new left result = (result ≡ Err turn.Waits) × Stays old qs new left
GoesBy false old qs number step c new left result = (result ≡ Ok (entry number old.place c.answer)) × Goes old step c new left

-- the turn of the task with this number
abbrev pub TakesTurn : Option TaskStep → TaskState → List TaskQueue → ℕ → TaskState → List TaskQueue → Result Entry Turn → Type 0
TakesTurn None old qs number new left result = (result ≡ Err turn.Ended) × Stays old qs new left
TakesTurn (Some step) old qs number new left result = let c = step_call step qs old.locals in GoesBy c.waits old qs number step c new left result

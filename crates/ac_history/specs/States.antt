-- What the tasks of a block share and have: the queues, and of each task its steps, its place and its locals.
use Rattle.std.specs.Prelude.{ℕ, ℤ, pos, List, map, drop, replicate}
use Rattle.std.specs.List.{sum_by}
use Rattle.ac_model.specs.Queues.{TaskQueue}
use Rattle.ac_history.specs.declared.code.TaskStep.{TaskStep}
use Rattle.ac_history.specs.declared.code.TaskCode.{TaskCode}

pub record TaskState : Type 0 where
  pub steps : List TaskStep
  -- how many of the steps are done
  pub place : ℕ
  pub locals : List ℤ

pub record State : Type 0 where
  pub queues : List TaskQueue
  pub tasks : List TaskState

-- all locals are 0 at first
abbrev pub begun : TaskCode → TaskState
begun task = record { steps = task.steps; place = 0; locals = replicate task.locals (pos 0) }

abbrev pub opening_state : List TaskQueue → List TaskCode → State
opening_state queues code = record { queues = queues; tasks = map begun code }

-- the steps that are left, each with its weight
abbrev pub left : (TaskStep → ℕ) → List TaskState → ℕ
left weight tasks = sum_by (λ t. sum_by weight (drop t.place t.steps)) tasks

abbrev pub one_each : TaskStep → ℕ
one_each step = 1

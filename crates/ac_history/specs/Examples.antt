-- Blocks for worked examples.
use Rattle.std.specs.Prelude.{ℕ, pos, List, [], ◌∷◌, Some, None}
use Rattle.ac_base.specs.declared.limit.Limit.{Limit}
use Rattle.ac_base.specs.declared.limit.Limit.TheVariants.{Bounded}
use Rattle.ac_model.specs.Queues.{by_arrival, empty_queue, TaskQueue}
use Rattle.ac_history.specs.declared.code.TaskArg.TheVariants as arg
use Rattle.ac_history.specs.declared.code.TaskStep.{TaskStep}
use Rattle.ac_history.specs.declared.code.TaskStep.TheVariants.{Enqueue, Dequeue, Set}
use Rattle.ac_history.specs.declared.code.TaskCode.{TaskCode}
use Rattle.ac_history.specs.States.{State, opening_state}

abbrev task_code : ℕ → List TaskStep → TaskCode
task_code locals steps = record { locals = locals; steps = steps }

abbrev one_queue : Limit → TaskQueue
one_queue limit = record { discipline = by_arrival; queue = empty_queue limit }

-- one task puts 1 and 2 into a queue, the other takes two items out
abbrev pub pass_on : Limit → State
pass_on limit = opening_state (one_queue limit ∷ [])
    (task_code 0 (Enqueue 6 0 (arg.Number (pos 1)) ∷ Enqueue 7 0 (arg.Number (pos 2)) ∷ [])
    ∷ task_code 1 (Dequeue 11 0 (Some 0) ∷ Dequeue 12 0 None ∷ [])
    ∷ [])

-- one task that adds 1 to the greatest integer, and puts what it has then into a queue
abbrev pub too_great : State
too_great = opening_state (one_queue (Bounded 1) ∷ [])
    (task_code 1 (Set 7 0 (arg.Number (pos 9223372036854775807)) (pos 0) ∷ Set 8 0 (arg.Local 0) (pos 1) ∷ Enqueue 9 0 (arg.Local 0) ∷ Enqueue 10 0 (arg.Number (pos 2)) ∷ []) ∷ [])

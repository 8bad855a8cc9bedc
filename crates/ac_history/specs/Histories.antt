-- Which histories of a task block are legal: each entry is the next step of its task, and has the reply that the queues give at that point.
use Rattle.std.specs.Prelude.{◌≡◌, ⊤, ℕ, Bool, true, false, List, [], ◌∷◌, ◌++◌, Option, Some, None, set, if◌then◌else◌}
use Rattle.std.specs.List.{slice_get}
use Rattle.ac_history.specs.declared.code.TaskStep.{TaskStep}
use Rattle.ac_history.specs.declared.entry.Entry.{Entry}
use Rattle.ac_history.specs.declared.entry.Reply.{Reply}
use Rattle.ac_history.specs.declared.entry.Turn.{Turn}
use Rattle.ac_history.specs.declared.entry.Turn.TheVariants as turn
use Rattle.ac_history.specs.States.{State, TaskState}
use Rattle.ac_history.specs.Steps.{step_call, advanced}

-- what a turn of a task comes to: it has no next step, the next step would wait, or it is done
pub data Outcome : Type 0 where
  over : Outcome
  held_up : Outcome
  done : Entry → State → Outcome

abbrev pub entry : ℕ → ℕ → Reply → Entry
entry task place answer = record { task = task; place = place; reply = answer }

abbrev pub outcome_of : State → ℕ → TaskState → Option TaskStep → Outcome
outcome_of s task t None = over
outcome_of s task t (Some step) =
    let c = step_call step s.queues t.locals in
    if c.waits then held_up else done (entry task t.place c.answer) (record { queues = c.queues; tasks = set s.tasks task (advanced t step c.answer) })

abbrev pub outcome : State → ℕ → Outcome
outcome s task = elim (slice_get s.tasks task) [ None ↦ over | Some t ↦ outcome_of s task t (slice_get t.steps t.place) ]

abbrev pub is_done : Outcome → Bool
is_done over = false
is_done held_up = false
is_done (done e after) = true

abbrev pub turn_told : Outcome → Turn
turn_told over = turn.Ended
turn_told held_up = turn.Waits
turn_told (done e after) = turn.Ran

-- the entry that a turn adds, if any
abbrev pub entries_of : Outcome → List Entry
entries_of over = []
entries_of held_up = []
entries_of (done e after) = e ∷ []

-- what a turn leaves of s
abbrev pub state_after : State → Outcome → State
state_after s over = s
state_after s held_up = s
state_after s (done e after) = after

-- the task has a next step, and it wouldn't wait
abbrev pub is_able : State → ℕ → Bool
is_able s task = is_done (outcome s task)

-- what the entries leave of a state, by their tasks alone
abbrev pub replay : State → List Entry → State
replay s [] = s
replay s (e ∷ es) = replay (state_after s (outcome s e.task)) es

abbrev pub IsLegal : State → List Entry → Type 0
IsLegal s [] = ⊤
IsLegal s (e ∷ es) = (entries_of (outcome s e.task) ≡ e ∷ []) × IsLegal (state_after s (outcome s e.task)) es

-- a legal history leads from s to after
pub record Explains (s : State) (history : List Entry) (after : State) : Type 0 where
  pub legal : IsLegal s history
  pub leaves : replay s history ≡ after

-- turns of these tasks one after another: the history that they add, and the state that they leave
pub record Turned : Type 0 where
  pub history : List Entry
  pub state : State

abbrev pub begun_at : State → Turned
begun_at s = record { history = []; state = s }

abbrev pub turned : Turned → List ℕ → Turned
turned t [] = t
turned t (task ∷ tasks) =
    let o = outcome t.state task in
    turned (record { history = t.history ++ entries_of o; state = state_after t.state o }) tasks

-- A turn after a legal history makes a legal one, and its replay is what the turn leaves.
use Rattle.std.proofs.Common.{◌≡◌, ℕ, Bool, true, false, List, [], ◌∷◌, ◌++◌, Option, Some, None, refl, sym, ap, ◌∙◌, subst, if◌then◌else◌}
use Rattle.std.specs.List.{slice_get}
use Rattle.ac_history.specs.declared.code.TaskStep.{TaskStep}
use Rattle.ac_history.specs.declared.entry.Entry.{Entry}
use Rattle.ac_history.specs.States.{State, TaskState}
use Rattle.ac_history.specs.Steps.{step_call}
use Rattle.ac_history.specs.Blocks.{Block, opening, present, with_entries}
use Rattle.ac_history.specs.Histories.{Outcome, over, held_up, done, outcome, outcome_of, entries_of, state_after, replay, IsLegal, Explains, Turned, begun_at, turned}

task_if : (b : Bool) (e given : Entry) (after left : State) (task : ℕ) → given.task ≡ task → (if b then held_up else done given left) ≡ done e after → e.task ≡ task
task_if true e given after left task own same = cc
task_if false e given after left task own same = cc

task_in : (s : State) (task : ℕ) (t : TaskState) (next : Option TaskStep) (e : Entry) (after : State) → outcome_of s task t next ≡ done e after → e.task ≡ task
task_in s task t None e after same = cc
task_in s task t (Some step) e after same = task_if (step_call step s.queues t.locals).waits e _ after _ task refl same

task_at : (s : State) (task : ℕ) (t : Option TaskState) (e : Entry) (after : State) → (elim t [ None ↦ over | Some t ↦ outcome_of s task t (slice_get t.steps t.place) ]) ≡ done e after → e.task ≡ task
task_at s task None e after same = cc
task_at s task (Some t) e after same = task_in s task t (slice_get t.steps t.place) e after same

-- a turn's entry is of its task
pub done_task : (s : State) (task : ℕ) (e : Entry) (after : State) → outcome s task ≡ done e after → e.task ≡ task
done_task s task e after same = task_at s task (slice_get s.tasks task) e after same

explains_by : (s : State) (task : ℕ) (o : Outcome) → outcome s task ≡ o → Explains s (entries_of o) (state_after s o)
explains_by s task over same = record { legal = tt; leaves = refl }
explains_by s task held_up same = record { legal = tt; leaves = refl }
explains_by s task (done e after) same =
    let own = ap (outcome s) (done_task s task e after same) ∙ same in
    record { legal = (ap entries_of own, tt); leaves = ap (state_after s) own }

pub one_turn : (s : State) (task : ℕ) → Explains s (entries_of (outcome s task)) (state_after s (outcome s task))
one_turn s task = explains_by s task (outcome s task) refl

pub replay_append : (history more : List Entry) (s : State) → replay s (history ++ more) ≡ replay (replay s history) more
replay_append [] more s = refl
replay_append (e ∷ es) more s = replay_append es more (state_after s (outcome s e.task))

pub legal_append : (history more : List Entry) (s : State) → IsLegal s history → IsLegal (replay s history) more → IsLegal s (history ++ more)
legal_append [] more s legal next = next
legal_append (e ∷ es) more s legal next = (legal.0, legal_append es more (state_after s (outcome s e.task)) legal.1 next)

pub turn_more : (s : State) (history : List Entry) (now : State) (task : ℕ) → Explains s history now → Explains s (history ++ entries_of (outcome now task)) (state_after now (outcome now task))
turn_more s history now task h =
    let one = one_turn now task in
    let more = entries_of (outcome now task) in
    record {
      legal = legal_append history more s h.legal (subst (λ x. IsLegal x more) (sym h.leaves) one.legal);
      leaves = replay_append history more s ∙ ap (λ x. replay x more) h.leaves ∙ one.leaves;
    }

pub turns_explained : (tasks : List ℕ) (s : State) (t : Turned) → Explains s t.history t.state → Explains s (turned t tasks).history (turned t tasks).state
turns_explained [] s t h = h
turns_explained (task ∷ tasks) s t h =
    turns_explained tasks s (record { history = t.history ++ entries_of (outcome t.state task); state = state_after t.state (outcome t.state task) }) (turn_more s t.history t.state task h)

pub from_the_start : (start : State) (tasks : List ℕ) → Explains start (turned (begun_at start) tasks).history (turned (begun_at start) tasks).state
from_the_start start tasks = turns_explained tasks start (begun_at start) (record { legal = tt; leaves = refl })

-- a block behind a turn
pub present_after : (b : Block) (task : ℕ) → present (with_entries b (entries_of (outcome (present b) task))) ≡ state_after (present b) (outcome (present b) task)
present_after b task = replay_append b.history (entries_of (outcome (present b) task)) (opening b) ∙ (one_turn (present b) task).leaves

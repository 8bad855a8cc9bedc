-- The lines of a block of tasks, one after another.
use Rattle.std.proofs.Common.{◌≡◌, ◌+◌, ◌<◌, ℕ, Bool, true, false, List, [], ◌∷◌, ◌++◌, length, drop, get_or, refl, sym, ap, subst, ◌∙◌, Option, Some, None, Result, Ok, Err, length-set, if◌then◌else◌}
use Rattle.std.specs.List.{slice_get}
use Rattle.std.proofs.lemmas.List.{drop_more, length-map}
use Rattle.ac_history.specs.declared.code.TaskStep.{TaskStep}
use Rattle.ac_history.specs.declared.entry.Entry.{Entry}
use Rattle.ac_history.specs.Blocks.{Block, present}
use Rattle.ac_history.specs.Histories.{over, held_up, done, outcome, outcome_of, replay, state_after}
use Rattle.ac_history.specs.States.{State, TaskState}
use Rattle.ac_history.specs.Steps.{step_call}
use Rattle.ac_rules.proofs.Outcomes.{next_item}
use Rattle.ac_calls.specs.Answers.{Line, answers_stalled, lines_text}
use Rattle.ac_meaning.specs.Environment.{first_state}
use Rattle.ac_meaning.specs.Execution as meant
use Rattle.ac_meaning.specs.TaskBlocks.{Task, history_lines, lines_at, reply_answer, stalled_lines}
use Rattle.ac_host.specs.declared.end.HostEnd.{HostEnd}
use Rattle.ac_host.specs.Writing.{Broke, Wrote, Writes}
use Rattle.ac_host.proofs.Telling.{lines_together, wrote_then, broke_behind}

-- lines of which the environment doesn't matter
abbrev pub told : List Line → meant.Outcome
told lines = meant.outcome lines first_state

abbrev pub entry_lines : List Task → Entry → List Line
entry_lines tasks e = lines_at (slice_get tasks e.task) e.place (reply_answer e.reply)

pub history_next : (tasks : List Task) (history : List Entry) (i : ℕ) (e : Entry) → i < length history →
    told (history_lines tasks (drop i history))
    ≡ meant.followed (told (entry_lines tasks (get_or history i e))) (λ _ _. told (history_lines tasks (drop (i + 1) history)))
history_next tasks history i e within = ap (λ (l : List Entry). told (history_lines tasks l)) (drop_more history i e within)

-- Tasks that aren't over

nowhere : TaskState
nowhere = record { steps = []; place = 0; locals = [] }

pub stalled_next : (tasks : List Task) (states : List TaskState) (i : ℕ) (t : Task) (place : ℕ) → i < length tasks → i < length states → t ≡ get_or tasks i t →
    ((d : TaskState) → place ≡ (get_or states i d).place) →
    told (stalled_lines (drop i tasks) (drop i states))
    ≡ meant.followed (told (lines_at (Some t) place answers_stalled)) (λ _ _. told (stalled_lines (drop (i + 1) tasks) (drop (i + 1) states)))
stalled_next tasks states i t place here there is at =
    ap (λ (l : List Task). told (stalled_lines l (drop i states))) (next_item tasks i t here is)
    ∙ (ap (λ (l : List TaskState). told (stalled_lines (t ∷ drop (i + 1) tasks) l)) (drop_more states i nowhere there)
    ∙ ap (λ p. told (lines_at (Some t) p answers_stalled ++ stalled_lines (drop (i + 1) tasks) (drop (i + 1) states))) (sym (at nowhere)))

-- A block has as many tasks as it had at first

many_if : (b : Bool) (s after : State) (e : Entry) → length after.tasks ≡ length s.tasks →
    length (state_after s (if b then held_up else done e after)).tasks ≡ length s.tasks
many_if true s after e same = refl
many_if false s after e same = same

many_next : (s : State) (i : ℕ) (t : TaskState) (next : Option TaskStep) → length (state_after s (outcome_of s i t next)).tasks ≡ length s.tasks
many_next s i t None = refl
many_next s i t (Some step) = many_if (step_call step s.queues t.locals).waits s _ _ (length-set s.tasks i _)

many_at : (s : State) (i : ℕ) (o : Option TaskState) →
    length (state_after s (elim o [ None ↦ over | Some t ↦ outcome_of s i t (slice_get t.steps t.place) ])).tasks ≡ length s.tasks
many_at s i None = refl
many_at s i (Some t) = many_next s i t (slice_get t.steps t.place)

many_replayed : (history : List Entry) (s : State) → length (replay s history).tasks ≡ length s.tasks
many_replayed [] s = refl
many_replayed (e ∷ es) s = many_replayed es (state_after s (outcome s e.task)) ∙ many_at s e.task (slice_get s.tasks e.task)

pub many_tasks : (b : Block) → length (present b).tasks ≡ length b.code
many_tasks b = many_replayed b.history _ ∙ length-map b.code _

-- Lines behind lines

module _ {K T : Type 0} (held : K → Option (List ℕ)) (faults : K → ℕ) (room : K → Option ℕ) (counts : K → Bool) where
  pub writes_then : (a b c : K) (x y : List Line) (result : Result T HostEnd) → Wrote held faults room counts a b (lines_text x) →
      Writes held faults room counts b c (lines_text y) result → Writes held faults room counts a c (lines_text (x ++ y)) result
  writes_then a b c x y (Ok _) f g =
      subst (Wrote held faults room counts a c) (sym (lines_together x y)) (wrote_then held faults room counts a b c (lines_text x) (lines_text y) f g)
  writes_then a b c x y (Err end) f g =
      subst (λ t. Broke held faults room counts a c t end) (sym (lines_together x y))
      (broke_behind held faults room counts a b c (lines_text x) (lines_text y) end f g)

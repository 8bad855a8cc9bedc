-- A legal history writes a line for each of its entries, and a block of tasks that runs is counted once.
use Rattle.std.proofs.Common.{◌≡◌, ◌++◌, ℕ, Bool, true, false, List, [], ◌∷◌, map, set, slice_get, nat_lt, refl, sym, ap, subst, ◌∙◌, option_map, Option, Some, None, if◌then◌else◌}
use Rattle.std.proofs.lemmas.List.{map-set, set-get_or}
use Rattle.std.proofs.lemmas.Option.{slice_get-map}
use Rattle.ac_base.specs.Limits.{numbers_end}
use Rattle.ac_base.specs.declared.value.Value.{Value}
use Rattle.ac_model.specs.Letters.{Mark}
use Rattle.ac_history.specs.declared.code.TaskStep.{TaskStep}
use Rattle.ac_history.specs.declared.entry.Entry.{Entry}
use Rattle.ac_history.specs.declared.entry.Reply.{Reply}
use Rattle.ac_history.specs.Blocks.{opening}
use Rattle.ac_history.specs.Histories.{over, held_up, done, entry, outcome, outcome_of, entries_of, state_after, IsLegal}
use Rattle.ac_history.specs.States.{State as TasksState, TaskState, begun}
use Rattle.ac_history.specs.Steps.{step_call, advanced}
use Rattle.ac_history.proofs.Left.{found_at}
use Rattle.ac_rules.specs.declared.resolved.ResolvedDecl.{ResolvedDecl}
use Rattle.ac_rules.specs.declared.resolved.ResolvedDecl.TheVariants as decl
use Rattle.ac_calls.specs.Answers.{Line}
use Rattle.ac_calls.specs.Holdings.{Held}
use Rattle.ac_meaning.specs.Environment.{State, under, object_at, Declared, unless_spent, after_decl, after_decls}
use Rattle.ac_meaning.specs.Execution.{key_end_on}
use Rattle.ac_meaning.specs.HistoryLines.{AreLinesOf, EntriesHaveLines, BlocksAreCounted}
use Rattle.ac_meaning.specs.TaskBlocks.{Task, tasks_of, block_of, reply_answer, step_lines, lines_at, history_lines}
use Rattle.ac_meaning.proofs.CallsStay.{none_some}
use Rattle.ac_meaning.proofs.CommandsStay.{command_stays}
use Rattle.ac_meaning.proofs.QueuesLeft.{run_blocks}

-- The steps of each task

abbrev steps_in : TaskState → List TaskStep
steps_in t = t.steps

abbrev steps_of_code : Task → List TaskStep
steps_of_code t = t.code.steps

-- the tasks go on with their steps
abbrev Same : TasksState → List Task → Type 0
Same s tasks = map steps_in s.tasks ≡ map steps_of_code tasks

begun_same : (tasks : List Task) → map steps_in (map begun (map (λ (t : Task). t.code) tasks)) ≡ map steps_of_code tasks
begun_same [] = refl
begun_same (t ∷ tasks) = ap (λ rest. t.code.steps ∷ rest) (begun_same tasks)

step_keeps : (tasks : List TaskState) (i : ℕ) (t : TaskState) (step : TaskStep) (answer : Reply) → slice_get tasks i ≡ Some t →
    map steps_in (set tasks i (advanced t step answer)) ≡ map steps_in tasks
step_keeps tasks i t step answer at =
    map-set steps_in tasks i (advanced t step answer)
    ∙ sym (map-set steps_in tasks i t)
    ∙ ap (map steps_in) (ap (set tasks i) (sym (found_at tasks i t t at)) ∙ set-get_or tasks i t)

kept_if : (waits : Bool) (s after : TasksState) (e : Entry) → map steps_in after.tasks ≡ map steps_in s.tasks →
    map steps_in (state_after s (if waits then held_up else done e after)).tasks ≡ map steps_in s.tasks
kept_if true s after e h = refl
kept_if false s after e h = h

kept_next : (s : TasksState) (i : ℕ) (t : TaskState) (next : Option TaskStep) → slice_get s.tasks i ≡ Some t →
    map steps_in (state_after s (outcome_of s i t next)).tasks ≡ map steps_in s.tasks
kept_next s i t None at = refl
kept_next s i t (Some step) at =
    kept_if (step_call step s.queues t.locals).waits s _ _ (step_keeps s.tasks i t step (step_call step s.queues t.locals).answer at)

kept_at : (s : TasksState) (i : ℕ) (o : Option TaskState) → slice_get s.tasks i ≡ o →
    map steps_in (state_after s (elim o [ None ↦ over | Some t ↦ outcome_of s i t (slice_get t.steps t.place) ])).tasks ≡ map steps_in s.tasks
kept_at s i None at = refl
kept_at s i (Some t) at = kept_next s i t (slice_get t.steps t.place) at

turn_keeps : (s : TasksState) (i : ℕ) → map steps_in (state_after s (outcome s i)).tasks ≡ map steps_in s.tasks
turn_keeps s i = kept_at s i (slice_get s.tasks i) refl

-- An entry that a turn adds

-- it is the next step of its task
record IsNext (s : TasksState) (e : Entry) : Type 0 where
  state : TaskState
  there : slice_get s.tasks e.task ≡ Some state
  step : TaskStep
  next : slice_get state.steps e.place ≡ Some step

place_in : List Entry → ℕ
place_in [] = 0
place_in (e ∷ es) = e.place

none_added : {X : Type 0} (e : Entry) → [] ≡ e ∷ [] → X
none_added e h = absurd (cc)

next_if : (waits : Bool) (s after : TasksState) (e own : Entry) → entries_of (if waits then held_up else done own after) ≡ e ∷ [] → own.place ≡ e.place
unfolding place_in
next_if true s after e own h = none_added e h
next_if false s after e own h = ap place_in h

next_of : (s : TasksState) (e : Entry) (t : TaskState) (next : Option TaskStep) → slice_get s.tasks e.task ≡ Some t → slice_get t.steps t.place ≡ next →
    entries_of (outcome_of s e.task t next) ≡ e ∷ [] → IsNext s e
next_of s e t None at is h = none_added e h
next_of s e t (Some step) at is h =
    let c = step_call step s.queues t.locals in
    let place : t.place ≡ e.place = next_if c.waits s _ e (entry e.task t.place c.answer) h in
    record { state = t; there = at; step = step; next = subst (λ n. slice_get t.steps n ≡ Some step) place is }

next_at : (s : TasksState) (e : Entry) (o : Option TaskState) → slice_get s.tasks e.task ≡ o →
    entries_of (elim o [ None ↦ over | Some t ↦ outcome_of s e.task t (slice_get t.steps t.place) ]) ≡ e ∷ [] → IsNext s e
next_at s e None at h = none_added e h
next_at s e (Some t) at h = next_of s e t (slice_get t.steps t.place) at refl h

-- Its line

found_mapped : {A B : Type 0} (f : A → B) (o : Option A) (b : B) → option_map f o ≡ Some b → (a : A) × (o ≡ Some a) × (f a ≡ b)
found_mapped f None b h = none_some b h
found_mapped f (Some a) b h = let p : f a ≡ b = cc in (a, refl, p)

entry_line : (s : TasksState) (tasks : List Task) (e : Entry) (history : List Entry) (rest : List Line) → Same s tasks → IsNext s e →
    AreLinesOf tasks history rest → AreLinesOf tasks (e ∷ history) (lines_at (slice_get tasks e.task) e.place (reply_answer e.reply) ++ rest)
entry_line s tasks e history rest same n others =
    let told : option_map steps_of_code (slice_get tasks e.task) ≡ Some n.state.steps =
    sym (slice_get-map steps_of_code tasks e.task) ∙ (ap (λ xs. slice_get xs e.task) (sym same)
    ∙ (slice_get-map steps_in s.tasks e.task ∙ ap (option_map steps_in) n.there)) in
    let t = found_mapped steps_of_code (slice_get tasks e.task) n.state.steps told in
    let step : slice_get t.0.code.steps e.place ≡ Some n.step = ap (λ xs. slice_get xs e.place) t.2 ∙ n.next in
    subst (λ o. AreLinesOf tasks (e ∷ history) (lines_at o e.place (reply_answer e.reply) ++ rest)) (sym t.1)
    (subst (λ o. AreLinesOf tasks (e ∷ history) (step_lines t.0.name (reply_answer e.reply) o ++ rest)) (sym step)
    (record { task = t.0; of_task = t.1; step = n.step; of_step = step; is = refl }, others))

each_line : (history : List Entry) (s : TasksState) (tasks : List Task) → Same s tasks → IsLegal s history → AreLinesOf tasks history (history_lines tasks history)
each_line [] s tasks same legal = tt
each_line (e ∷ history) s tasks same legal =
    entry_line s tasks e history (history_lines tasks history) same (next_at s e (slice_get s.tasks e.task) refl legal.0)
    (each_line history (state_after s (outcome s e.task)) tasks (turn_keeps s e.task ∙ same) legal.1)

pub entries_have_lines : EntriesHaveLines
entries_have_lines e tasks history legal =
    each_line history (opening (block_of e tasks)) (tasks_of e tasks) (begun_same (tasks_of e tasks)) legal

-- Blocks

either_blocks : (b : Bool) (n : ℕ) (x y : Declared) → x.after.blocks ≡ n → y.after.blocks ≡ n → (if b then x else y).after.blocks ≡ n
either_blocks true n x y h k = h
either_blocks false n x y h k = k

decl_blocks : (e : State) (d : ResolvedDecl) → (after_decl e d).after.blocks ≡ e.blocks
decl_blocks e decl.TypeDecl = refl
decl_blocks e (decl.Object line def capacity) = either_blocks (nat_lt e.next numbers_end) e.blocks _ _ refl refl
decl_blocks e decl.Cursor = refl
decl_blocks e decl.Integer = refl
decl_blocks e decl.Text = refl

decls_step : (others : State → Declared) (n : ℕ) (first : Declared) (spent : Option ℕ) → first.spent ≡ spent → first.after.blocks ≡ n →
    ((now : State) → (others now).after.blocks ≡ now.blocks) → (unless_spent others first).after.blocks ≡ n
decls_step others n first None f h k = rw f (k first.after ∙ h)
decls_step others n first (Some line) f h k = rw f h

decls_blocks : (ds : List ResolvedDecl) (e : State) → (after_decls ds e).after.blocks ≡ e.blocks
decls_blocks [] e = refl
decls_blocks (d ∷ ds) e =
    let first = after_decl e d in decls_step (after_decls ds) e.blocks first first.spent refl (decl_blocks e d) (decls_blocks ds)

end_blocks : (number object : ℕ) (e : State) (at : Mark) (copy : Value) (found : Option Held) → (key_end_on number object e at copy found).after.blocks ≡ e.blocks
end_blocks number object e at copy None = refl
end_blocks number object e at copy (Some h) = refl

pub blocks_are_counted : BlocksAreCounted
blocks_are_counted = record {
  runs = run_blocks;
  commands = λ guards e simple. (command_stays (under guards e) simple).blocks;
  decls = decls_blocks;
  updates = λ number object at copy guards e. end_blocks number object e at copy (object_at (under guards e) object);
}

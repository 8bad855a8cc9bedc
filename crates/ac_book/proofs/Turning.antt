-- A turn of a task keeps a book, and adds what the turn comes to.
use Rattle.std.proofs.Common.{◌≡◌, ◌+◌, ◌<◌, ◌≤◌, ◌^◌, ℕ, ℤ, zero, suc, Bool, true, false, List, [], ◌∷◌, ◌++◌, map, length, take, drop, get_or, set, Option, Some, None, Result, Ok, Err, IfErr, refl, sym, ap, ◌∙◌, subst, arith, if◌then◌else◌, length-append, length-set, append-nil}
use Rattle.std.specs.List.{All, slice_get}
use Rattle.std.proofs.lemmas.List.{length-map, take_all, drop_all, map-set, get_or-map, set-get_or}
use Rattle.std.proofs.lemmas.List.Elements.{All-set}
use Rattle.ac_queue.specs.declared.any_queue.AnyQueue.{AnyQueue}
use Rattle.ac_history.specs.declared.code.TaskStep.{TaskStep}
use Rattle.ac_history.specs.declared.code.TaskCode.{TaskCode}
use Rattle.ac_history.specs.declared.entry.Entry.{Entry}
use Rattle.ac_history.specs.declared.entry.Reply.{Reply}
use Rattle.ac_history.specs.declared.entry.Reply.TheVariants as reply
use Rattle.ac_history.specs.declared.entry.Turn.{Turn}
use Rattle.ac_history.specs.declared.entry.Turn.TheVariants as turn
use Rattle.ac_history.specs.Blocks.{Block, commands_in, present, with_entries}
use Rattle.ac_history.specs.Histories.{over, held_up, done, outcome, outcome_of, entry, entries_of, state_after, turn_told, Explains}
use Rattle.ac_history.specs.States.{State, TaskState, opening_state, left, one_each}
use Rattle.ac_model.specs.Queues.{TaskQueue}
use Rattle.ac_history.specs.Steps.{step_call, advanced, kept, target_of}
use Rattle.ac_history.proofs.LegalHistories.{turn_more}
use Rattle.ac_book.specs.Books.{IsBook, block_of, TaskFits, state_now, entries_in, told_in}
use Rattle.ac_book.specs.Running.{Fits, HaveSpare, added_by, added_next}
use Rattle.ac_queue.specs.Shared.{shared}
use Rattle.ac_book.specs.Tasks.{code_of, next_of, GoesBy, TakesTurn, Stays, Goes}
use Rattle.ac_book.proofs.KindsKept.{kind, step_keeps, fits_kept}
use Rattle.ac_history.proofs.Left.{found_within, found_at, left_falls}

kept_length : (target : Option ℕ) (answer : Reply) (locals : List ℤ) → length (kept target answer locals) ≡ length locals
kept_length None answer locals = refl
kept_length (Some i) reply.Done locals = refl
kept_length (Some i) (reply.Number n) locals = length-set locals i n
kept_length (Some i) reply.No locals = refl
kept_length (Some i) (reply.Raised reason) locals = refl

code_of_length : ℕ → TaskState → TaskCode
code_of_length locals t = record { locals = locals; steps = t.steps }

advanced_code : (t : TaskState) (step : TaskStep) (answer : Reply) → code_of (advanced t step answer) ≡ code_of t
unfolding code_of_length
advanced_code t step answer = ap (λ (n : ℕ). code_of_length n t) (kept_length (target_of step) answer t.locals)

-- where a task's code stays, so does that of all
pub code_stays : (tasks : List TaskState) (i : ℕ) (t new : TaskState) → slice_get tasks i ≡ Some t → code_of new ≡ code_of t → map code_of (set tasks i new) ≡ map code_of tasks
code_stays tasks i t new at same =
    map-set code_of tasks i new ∙ ap (λ c. set (map code_of tasks) i c) same
    ∙ ap (λ u. set (map code_of tasks) i (code_of u)) (sym (found_at tasks i t t at))
    ∙ ap (λ c. set (map code_of tasks) i c) (sym (get_or-map code_of tasks i t (code_of t) (found_within tasks i t at)))
    ∙ set-get_or (map code_of tasks) i (code_of t)

set_same : (tasks : List TaskState) (i : ℕ) (t : TaskState) → slice_get tasks i ≡ Some t → set tasks i t ≡ tasks
set_same tasks i t at = ap (λ u. set tasks i u) (sym (found_at tasks i t t at)) ∙ set-get_or tasks i t

-- what the turn comes to, where the task and its next step are known
outcome_at : (s : State) (i : ℕ) (t : TaskState) (next : Option TaskStep) → slice_get s.tasks i ≡ Some t → next_of t ≡ next → outcome s i ≡ outcome_of s i t next
outcome_at s i t next at is =
    subst (λ (o : Option TaskState). (elim o [ None ↦ over | Some u ↦ outcome_of s i u (next_of u) ]) ≡ outcome_of s i t next) (sym at) (ap (outcome_of s i t) is)

pub record Turns (opened : List TaskQueue) (queues now : List AnyQueue) (tasks : List TaskState) (i : ℕ) (new : TaskState) (history : List Entry) (slots : ℕ) (result : Result Entry Turn) : Type 0 where
  pub holds : IsBook opened now (set tasks i new) (history ++ entries_in result) slots
  pub code : map code_of (set tasks i new) ≡ map code_of tasks
  pub entries : entries_of (outcome (state_now queues tasks) i) ≡ entries_in result
  pub told : turn_told (outcome (state_now queues tasks) i) ≡ told_in result

spare_for : (next : Option TaskStep) (tasks : List TaskState) (i : ℕ) (t : TaskState) → slice_get tasks i ≡ Some t → next_of t ≡ next → (n : ℕ) → left added_by tasks ≤ n → added_next next ≤ n
spare_for None tasks i t at next n le = omega arith
spare_for (Some step) tasks i t at next n le = let falls = left_falls added_by tasks i t step reply.Done at next in omega (arith, falls, le)

stays_put : (opened : List TaskQueue) (queues now : List AnyQueue) (tasks : List TaskState) (i : ℕ) (t new : TaskState) (history : List Entry) (slots : ℕ) (told : Turn)
    → IsBook opened queues tasks history slots → slice_get tasks i ≡ Some t → HaveSpare (left added_by tasks) now → Stays t (map shared queues) new (map shared now)
    → entries_of (outcome (state_now queues tasks) i) ≡ [] → turn_told (outcome (state_now queues tasks) i) ≡ told
    → Turns opened queues now tasks i new history slots (Err told)
stays_put opened queues now tasks i t new history slots told holds at spare stays none says =
    let tasks_same : set tasks i new ≡ tasks = ap (λ u. set tasks i u) stays.task ∙ set_same tasks i t at in
    let explains = subst (λ qs. Explains (opening_state opened (map code_of tasks)) history (record { queues = qs; tasks = tasks })) (sym stays.queues) holds.explains in
    let fits = subst (λ qs. All (TaskFits qs) tasks) (sym stays.queues) holds.fits in
    let whole : IsBook opened now tasks history slots = record { explains = explains; fits = fits; spare = spare; room = holds.room; all = holds.all; few = holds.few } in
    record {
      holds = subst (λ us. IsBook opened now us (history ++ []) slots) (sym tasks_same) (subst (λ h. IsBook opened now tasks h slots) (sym (append-nil history)) whole);
      code = ap (map code_of) tasks_same;
      entries = none;
      told = says;
    }

all_fit : (qs rs : List TaskQueue) → map kind rs ≡ map kind qs → (tasks : List TaskState) → All (TaskFits qs) tasks → All (TaskFits rs) tasks
all_fit qs rs same tasks h = λ k d within. (λ j e inside. fits_kept qs rs same _ _ (h k d within j e inside))

task_fits : (tasks : List TaskState) (qs : List TaskQueue) (t : TaskState) (step : TaskStep) (answer : Reply) → All (TaskFits qs) tasks → (i : ℕ) → slice_get tasks i ≡ Some t → TaskFits qs (advanced t step answer)
task_fits tasks qs t step answer h i at =
    let own : TaskFits qs t = subst (TaskFits qs) (found_at tasks i t t at) (h i t (found_within tasks i t at)) in
    subst (λ n. All (Fits qs n) t.steps) (sym (kept_length (target_of step) answer t.locals)) own

goes_on : (opened : List TaskQueue) (queues now : List AnyQueue) (tasks : List TaskState) (i : ℕ) (t new : TaskState) (step : TaskStep) (history : List Entry) (slots : ℕ)
    → IsBook opened queues tasks history slots → slice_get tasks i ≡ Some t → next_of t ≡ Some step
    → (step_call step (map shared queues) t.locals).waits ≡ false
    → ((n : ℕ) → HaveSpare (n + added_by step) queues → HaveSpare n now)
    → Goes t step (step_call step (map shared queues) t.locals) new (map shared now)
    → Turns opened queues now tasks i new history slots (Ok (entry i t.place (step_call step (map shared queues) t.locals).answer))
goes_on opened queues now tasks i t new step history slots holds at next runs spare goes =
    let qs = map shared queues in
    let c = step_call step qs t.locals in
    let went = advanced t step c.answer in
    let s = state_now queues tasks in
    let more = entry i t.place c.answer ∷ [] in
    let comes : outcome s i ≡ done (entry i t.place c.answer) (record { queues = c.queues; tasks = set tasks i went }) =
    outcome_at s i t (Some step) at next ∙ ap (λ (b : Bool). if b then held_up else done (entry i t.place c.answer) (record { queues = c.queues; tasks = set tasks i went })) runs in
    let code : map code_of (set tasks i new) ≡ map code_of tasks = code_stays tasks i t new at (ap code_of goes.task ∙ advanced_code t step c.answer) in
    let told = turn_more (opening_state opened (map code_of tasks)) history s i holds.explains in
    let told' : Explains (opening_state opened (map code_of tasks)) (history ++ more) (record { queues = c.queues; tasks = set tasks i went }) =
    subst (λ o. Explains (opening_state opened (map code_of tasks)) (history ++ entries_of o) (state_after s o)) comes told in
    let after : record { queues = c.queues; tasks = set tasks i went } ≡ state_now now (set tasks i new) = λ j. record { queues = sym goes.queues j; tasks = set tasks i (sym goes.task j) } in
    let kinds : map kind (map shared now) ≡ map kind qs = ap (map kind) goes.queues ∙ step_keeps step qs t.locals in
    let falls = λ (weight : TaskStep → ℕ). subst (λ u. left weight (set tasks i u) + weight step ≡ left weight tasks) (sym goes.task) (left_falls weight tasks i t step c.answer at next) in
    record {
      holds = record {
        explains = subst (λ cs. Explains (opening_state opened cs) (history ++ more) (state_now now (set tasks i new))) (sym code) (subst (λ x. Explains (opening_state opened (map code_of tasks)) (history ++ more) x) after told');
        fits = All-set (TaskFits (map shared now)) tasks i new (subst (TaskFits (map shared now)) (sym goes.task) (task_fits tasks (map shared now) t step c.answer (all_fit qs (map shared now) kinds tasks holds.fits) i at)) (all_fit qs (map shared now) kinds tasks holds.fits);
        spare = spare (left added_by (set tasks i new)) (subst (λ n. HaveSpare n queues) (sym (falls added_by)) holds.spare);
        room = let room = holds.room in omega (arith, length-append history more, falls one_each, room);
        all = subst (λ cs. commands_in cs ≡ slots) (sym code) holds.all;
        few = subst (λ n. n < 2 ^ 32) (sym (length-set tasks i new)) holds.few;
      };
      code = code;
      entries = ap entries_of comes;
      told = ap turn_told comes;
    }

by_waits : (b : Bool) (opened : List TaskQueue) (queues now : List AnyQueue) (tasks : List TaskState) (i : ℕ) (t new : TaskState) (step : TaskStep) (history : List Entry) (slots : ℕ) (result : Result Entry Turn)
    → (step_call step (map shared queues) t.locals).waits ≡ b
    → IsBook opened queues tasks history slots → slice_get tasks i ≡ Some t → next_of t ≡ Some step
    → ((n : ℕ) → HaveSpare (n + added_by step) queues → HaveSpare n now)
    → IfErr result (λ _. (n : ℕ) → HaveSpare n queues → HaveSpare n now)
    → GoesBy b t (map shared queues) i step (step_call step (map shared queues) t.locals) new (map shared now) result
    → Turns opened queues now tasks i new history slots result
by_waits true opened queues now tasks i t new step history slots result waits holds at next spare held_spare taken =
    let held = outcome_at (state_now queues tasks) i t (Some step) at next
    ∙ ap (λ (b : Bool). if b then held_up else done (entry i t.place (step_call step (map shared queues) t.locals).answer) (record { queues = (step_call step (map shared queues) t.locals).queues; tasks = set tasks i (advanced t step (step_call step (map shared queues) t.locals).answer) })) waits in
    let stays = subst (λ (r : Result Entry Turn). IfErr r (λ _. (n : ℕ) → HaveSpare n queues → HaveSpare n now)) taken.0 held_spare in
    subst (λ r. Turns opened queues now tasks i new history slots r) (sym taken.0)
    (stays_put opened queues now tasks i t new history slots turn.Waits holds at (stays (left added_by tasks) holds.spare) taken.1 (ap entries_of held) (ap turn_told held))
by_waits false opened queues now tasks i t new step history slots result waits holds at next spare held_spare taken =
    subst (λ r. Turns opened queues now tasks i new history slots r) (sym taken.0)
    (goes_on opened queues now tasks i t new step history slots holds at next waits spare taken.1)

by_next : (next : Option TaskStep) (opened : List TaskQueue) (queues now : List AnyQueue) (tasks : List TaskState) (i : ℕ) (t new : TaskState) (history : List Entry) (slots : ℕ) (result : Result Entry Turn)
    → next_of t ≡ next → IsBook opened queues tasks history slots → slice_get tasks i ≡ Some t
    → ((n : ℕ) → HaveSpare (n + added_next next) queues → HaveSpare n now)
    → IfErr result (λ _. (n : ℕ) → HaveSpare n queues → HaveSpare n now)
    → TakesTurn next t (map shared queues) i new (map shared now) result
    → Turns opened queues now tasks i new history slots result
by_next None opened queues now tasks i t new history slots result next holds at spare held_spare taken =
    let ended = outcome_at (state_now queues tasks) i t None at next in
    let stays = subst (λ (r : Result Entry Turn). IfErr r (λ _. (n : ℕ) → HaveSpare n queues → HaveSpare n now)) taken.0 held_spare in
    subst (λ r. Turns opened queues now tasks i new history slots r) (sym taken.0)
    (stays_put opened queues now tasks i t new history slots turn.Ended holds at (stays (left added_by tasks) holds.spare) taken.1 (ap entries_of ended) (ap turn_told ended))
by_next (Some step) opened queues now tasks i t new history slots result next holds at spare held_spare taken =
    by_waits (step_call step (map shared queues) t.locals).waits opened queues now tasks i t new step history slots result refl holds at next spare held_spare taken

pub turns : (opened : List TaskQueue) (queues now : List AnyQueue) (tasks : List TaskState) (i : ℕ) (t new : TaskState) (history : List Entry) (slots : ℕ) (result : Result Entry Turn)
    → IsBook opened queues tasks history slots → slice_get tasks i ≡ Some t
    → ((n : ℕ) → HaveSpare (n + added_next (next_of t)) queues → HaveSpare n now)
    → IfErr result (λ _. (n : ℕ) → HaveSpare n queues → HaveSpare n now)
    → TakesTurn (next_of t) t (map shared queues) i new (map shared now) result
    → Turns opened queues now tasks i new history slots result
turns opened queues now tasks i t new history slots result holds at spare held_spare taken =
    by_next (next_of t) opened queues now tasks i t new history slots result refl holds at spare held_spare taken

-- the queues have the spare that a task's next step wants
pub next_spare : (opened : List TaskQueue) (queues : List AnyQueue) (tasks : List TaskState) (i : ℕ) (t : TaskState) (history : List Entry) (slots : ℕ) → IsBook opened queues tasks history slots → slice_get tasks i ≡ Some t
    → HaveSpare (added_next (next_of t)) queues
next_spare opened queues tasks i t history slots holds at = λ k d within. spare_for (next_of t) tasks i t at refl _ (holds.spare k d within)

got : {X : Type 0} (xs : List X) (i : ℕ) (x : X) → i < length xs → x ≡ get_or xs i x → slice_get xs i ≡ Some x
got [] i x within is = absurd (omega arith)
got (y ∷ ys) zero x within is = ap Some (sym is)
got (y ∷ ys) (suc i) x within is = got ys i x (omega arith) is

-- the same, where queues and task are lent
pub turns_lent : (opened : List TaskQueue) (queues lent now : List AnyQueue) (tasks : List TaskState) (i : ℕ) (t new : TaskState) (history : List Entry) (slots : ℕ) (result : Result Entry Turn)
    → IsBook opened queues tasks history slots → i < length tasks → t ≡ get_or tasks i t → lent ≡ queues
    → ((n : ℕ) → HaveSpare (n + added_next (next_of t)) lent → HaveSpare n now)
    → IfErr result (λ _. (n : ℕ) → HaveSpare n lent → HaveSpare n now)
    → TakesTurn (next_of t) t (map shared lent) i new (map shared now) result
    → Turns opened queues now tasks i new history slots result
turns_lent opened queues lent now tasks i t new history slots result holds within is same =
    subst (λ qs. ((n : ℕ) → HaveSpare (n + added_next (next_of t)) qs → HaveSpare n now) → IfErr result (λ _. (n : ℕ) → HaveSpare n qs → HaveSpare n now) → TakesTurn (next_of t) t (map shared qs) i new (map shared now) result → Turns opened queues now tasks i new history slots result) (sym same)
    (λ spare held_spare taken. turns opened queues now tasks i t new history slots result holds (got tasks i t within is) spare held_spare taken)

pub spare_lent : (opened : List TaskQueue) (queues lent : List AnyQueue) (tasks : List TaskState) (i : ℕ) (t : TaskState) (history : List Entry) (slots : ℕ)
    → IsBook opened queues tasks history slots → i < length tasks → t ≡ get_or tasks i t → lent ≡ queues → HaveSpare (added_next (next_of t)) lent
spare_lent opened queues lent tasks i t history slots holds within is same = subst (HaveSpare (added_next (next_of t))) (sym same) (next_spare opened queues tasks i t history slots holds (got tasks i t within is))

-- what is written back over a list of the same length
pub written_back : {X : Type 0} (n : ℕ) (xs new : List X) → length new ≡ n → length xs ≡ n → take n (new ++ drop (length new) xs) ≡ new
written_back n xs new e f = subst (λ rest. take n (new ++ rest) ≡ new) (sym (drop_all (length new) xs (omega (arith, e, f)))) (subst (λ ys. take n ys ≡ new) (sym (append-nil new)) (take_all n new (omega (arith, e))))

pub record Whole (opened queues now : List AnyQueue) (n : ℕ) (tasks : List TaskState) (i : ℕ) (new : TaskState) (history : List Entry) (slots : ℕ) (result : Result Entry Turn) (b : Block) : Type 0 where
  pub holds : IsBook (map shared opened) (take n (now ++ drop (length now) queues)) (set tasks i new) (history ++ entries_in result) slots
  pub told : told_in result ≡ turn_told (outcome (present b) i)
  pub becomes : block_of opened (set tasks i new) (history ++ entries_in result) ≡ with_entries b (entries_of (outcome (present b) i))

pub in_tasks : (opened : List AnyQueue) (tasks : List TaskState) (history : List Entry) (b : Block) (i : ℕ) → block_of opened tasks history ≡ b → i < length b.code → i < length tasks
in_tasks opened tasks history b i is within = subst (λ n. i < n) (length-map tasks code_of) (subst (λ (x : Block). i < length x.code) (sym is) within)

whole_by : (opened queues now : List AnyQueue) (n : ℕ) (tasks : List TaskState) (i : ℕ) (new : TaskState) (history : List Entry) (slots : ℕ) (result : Result Entry Turn)
    → IsBook (map shared opened) queues tasks history slots → take n (now ++ drop (length now) queues) ≡ now
    → Turns (map shared opened) queues now tasks i new history slots result → Whole opened queues now n tasks i new history slots result (block_of opened tasks history)
whole_by opened queues now n tasks i new history slots result holds back turned =
    let leaves = holds.explains.leaves in
    record {
      holds = subst (λ qs. IsBook (map shared opened) qs (set tasks i new) (history ++ entries_in result) slots) (sym back) turned.holds;
      told = sym (ap (λ s. turn_told (outcome s i)) leaves ∙ turned.told);
      becomes = λ j. record {
        queues = map shared opened;
        code = turned.code j;
        history = history ++ (sym (ap (λ s. entries_of (outcome s i)) leaves ∙ turned.entries)) j;
      };
    }

-- the whole of a turn, as the code makes it
pub whole_turn : (opened queues lent now : List AnyQueue) (n : ℕ) (tasks : List TaskState) (i : ℕ) (t new : TaskState) (history : List Entry) (slots : ℕ) (result : Result Entry Turn) (b : Block)
    → IsBook (map shared opened) queues tasks history slots → block_of opened tasks history ≡ b → i < length b.code → t ≡ get_or tasks i t
    → lent ≡ queues → length lent ≡ n → length now ≡ length lent
    → ((m : ℕ) → HaveSpare (m + added_next (next_of t)) lent → HaveSpare m now)
    → IfErr result (λ _. (m : ℕ) → HaveSpare m lent → HaveSpare m now)
    → TakesTurn (next_of t) t (map shared lent) i new (map shared now) result
    → Whole opened queues now n tasks i new history slots result b
whole_turn opened queues lent now n tasks i t new history slots result b holds is within at same len as_long spare held_spare taken =
    subst (λ x. Whole opened queues now n tasks i new history slots result x) is
    (whole_by opened queues now n tasks i new history slots result holds (written_back n queues now (as_long ∙ len) (ap length (sym same) ∙ len))
    (turns_lent (map shared opened) queues lent now tasks i t new history slots result holds (in_tasks opened tasks history b i is within) at same spare held_spare taken))

module _ {opened queues now : List AnyQueue} {n : ℕ} {tasks : List TaskState} {i : ℕ} {new : TaskState} {history : List Entry} {slots : ℕ} {result : Result Entry Turn} {b : Block} where
  -- where nothing was done
  pub stood_still : Whole opened queues now n tasks i new history slots result b → (told : Turn) → result ≡ Err told → IsBook (map shared opened) (take n (now ++ drop (length now) queues)) (set tasks i new) history slots
  stood_still whole told is =
      subst (λ h. IsBook (map shared opened) (take n (now ++ drop (length now) queues)) (set tasks i new) h slots) (append-nil history)
      (subst (λ r. IsBook (map shared opened) (take n (now ++ drop (length now) queues)) (set tasks i new) (history ++ entries_in r) slots) is whole.holds)

  pub stands_still : Whole opened queues now n tasks i new history slots result b → (told : Turn) → result ≡ Err told → block_of opened (set tasks i new) history ≡ with_entries b (entries_of (outcome (present b) i))
  stands_still whole told is =
      subst (λ h. block_of opened (set tasks i new) h ≡ with_entries b (entries_of (outcome (present b) i))) (append-nil history)
      (subst (λ r. block_of opened (set tasks i new) (history ++ entries_in r) ≡ with_entries b (entries_of (outcome (present b) i))) is whole.becomes)

  -- where a step was done
  pub moved_on : Whole opened queues now n tasks i new history slots result b → (e : Entry) (longer : List Entry) (room : ℕ) → result ≡ Ok e → longer ≡ history ++ e ∷ [] → room ≡ slots
      → IsBook (map shared opened) (take n (now ++ drop (length now) queues)) (set tasks i new) longer room
  moved_on whole e longer room is longer_is room_is =
      rw (longer_is, room_is) (subst (λ r. IsBook (map shared opened) (take n (now ++ drop (length now) queues)) (set tasks i new) (history ++ entries_in r) slots) is whole.holds)

  pub moves_on : Whole opened queues now n tasks i new history slots result b → (e : Entry) (longer : List Entry) → result ≡ Ok e → longer ≡ history ++ e ∷ [] → block_of opened (set tasks i new) longer ≡ with_entries b (entries_of (outcome (present b) i))
  moves_on whole e longer is longer_is =
      rw longer_is (subst (λ r. block_of opened (set tasks i new) (history ++ entries_in r) ≡ with_entries b (entries_of (outcome (present b) i))) is whole.becomes)

  pub room_for_entry : Whole opened queues now n tasks i new history slots result b → (e : Entry) → result ≡ Ok e → length history < slots
  room_for_entry whole e is =
      let holds = subst (λ r. IsBook (map shared opened) (take n (now ++ drop (length now) queues)) (set tasks i new) (history ++ entries_in r) slots) is whole.holds in
      let room = holds.room in
      omega (arith, length-append history (e ∷ []), room)

-- What a block of tasks comes to, by the queues that were lent to it.
use Rattle.std.proofs.Common.{◌≡◌, ◌+◌, ◌++◌, ℕ, Bool, true, false, List, [], ◌∷◌, map, length, refl, sym, ap, ◌∙◌, Option, Some, None, option_map, length-set, if◌then◌else◌}
use Rattle.std.specs.List.{list_all, slice_get}
use Rattle.std.proofs.lemmas.List.{length-map}
use Rattle.std.proofs.lemmas.List.Folds.{list_all-map}
use Rattle.ac_history.specs.declared.code.TaskStep.{TaskStep}
use Rattle.ac_history.specs.declared.code.TaskStep.TheVariants.{Enqueue, Dequeue, High, CurrentUse, PeakUse, Set}
use Rattle.ac_history.specs.declared.entry.Entry.{Entry}
use Rattle.ac_history.specs.Blocks.{Block, new_block, present}
use Rattle.ac_history.specs.Histories.{over, held_up, done, outcome as turn_outcome, outcome_of, replay, state_after}
use Rattle.ac_history.specs.Orders.{last_rounds, run_of}
use Rattle.ac_history.specs.States.{State as Running, TaskState}
use Rattle.ac_model.specs.Queues.{TaskQueue}
use Rattle.ac_history.specs.Steps.{step_call}
use Rattle.ac_history.proofs.Starts.{turns_keep_start}
use Rattle.ac_rules.specs.Resolved.{ResolvedCode}
use Rattle.ac_calls.specs.Answers.{lines_text}
use Rattle.ac_calls.specs.Holdings.{Held, of_rows, of_holder, of_queue, Guards, held_under}
use Rattle.ac_meaning.specs.Environment.{binds_object, State, under, object_at}
use Rattle.ac_meaning.specs.Execution.{Outcome, outcome, Orders, run_by, gathered}
use Rattle.ac_meaning.specs.TaskBlocks.{Task, block_fits, block_lines, block_of, code_fits, is_ranked, one_block_more, queue_in, queue_left, queue_places, queues_at, queues_left, tasks_from, tasks_of}
use Rattle.ac_meaning.proofs.CountsStay.{parts_under}
use Rattle.ac_objects.specs.Lent.{QueuesLent}
use Rattle.ac_objects.specs.World.{World, state_of}
use Rattle.ac_host.specs.Gathered.{code_of}
use Rattle.ac_host.specs.Ready.{IsUnder}
use Rattle.ac_host.specs.Told.{GoBy}
use Rattle.ac_host.proofs.Blocks.{many_under}

-- Queues are the same under guards

queue_in_under : (guards : Guards) (found : Option Held) → queue_in (option_map (held_under guards) found) ≡ queue_in found
queue_in_under guards None = refl
queue_in_under guards (Some (of_rows kind o)) = refl
queue_in_under guards (Some (of_holder e h)) = refl
queue_in_under guards (Some (of_queue number q)) = refl

pub queues_under : (guards : Guards) (e : State) (places : List ℕ) → queues_at (under guards e) places ≡ queues_at e places
queues_under guards e [] = refl
queues_under guards e (place ∷ places) =
    let first : queue_in (object_at (under guards e) place) ≡ queue_in (object_at e place) =
    ap queue_in (parts_under.object guards e place) ∙ queue_in_under guards (object_at e place) in
    λ i. first i ∷ queues_under guards e places i

one_left_under : (guards : Guards) (e : State) (place : ℕ) (q : TaskQueue) (found : Option Held) →
    queue_left (under guards e) place q (option_map (held_under guards) found) ≡ under guards (queue_left e place q found)
one_left_under guards e place q None = refl
one_left_under guards e place q (Some (of_rows kind o)) = refl
one_left_under guards e place q (Some (of_holder element h)) = refl
one_left_under guards e place q (Some (of_queue number old)) = sym (parts_under.set guards e place (binds_object (of_queue number q)))

left_under : (places : List ℕ) (queues : List TaskQueue) (guards : Guards) (e : State) →
    queues_left places queues (under guards e) ≡ under guards (queues_left places queues e)
left_under [] queues guards e = refl
left_under (place ∷ places) [] guards e = refl
left_under (place ∷ places) (q ∷ queues) guards e =
    ap (queues_left places queues)
    (ap (queue_left (under guards e) place q) (parts_under.object guards e place) ∙ one_left_under guards e place q (object_at e place))
    ∙ left_under places queues guards (queue_left e place q (object_at e place))

-- and no block began by their being put back

one_left_count : (e : State) (place : ℕ) (q : TaskQueue) (found : Option Held) → (queue_left e place q found).blocks ≡ e.blocks
one_left_count e place q None = refl
one_left_count e place q (Some (of_rows kind o)) = refl
one_left_count e place q (Some (of_holder element h)) = refl
one_left_count e place q (Some (of_queue number old)) = refl

left_count : (places : List ℕ) (queues : List TaskQueue) (e : State) → (queues_left places queues e).blocks ≡ e.blocks
left_count [] queues e = refl
left_count (place ∷ places) [] e = refl
left_count (place ∷ places) (q ∷ queues) e =
    left_count places queues (queue_left e place q (object_at e place)) ∙ one_left_count e place q (object_at e place)

-- A block has as many queues as it had at first

on_queues : (step : TaskStep) (s : Running) (t : TaskState) → length (step_call step s.queues t.locals).queues ≡ length s.queues
on_queues (Enqueue line queue item) s t = length-set s.queues queue _
on_queues (Dequeue line queue into) s t = length-set s.queues queue _
on_queues (High line queue at_least into) s t = length-set s.queues queue _
on_queues (CurrentUse line queue into) s t = refl
on_queues (PeakUse line queue into) s t = refl
on_queues (Set line into from add) s t = refl

many_if : (b : Bool) (s after : Running) (e : Entry) → length after.queues ≡ length s.queues →
    length (state_after s (if b then held_up else done e after)).queues ≡ length s.queues
many_if true s after e same = refl
many_if false s after e same = same

many_next : (s : Running) (i : ℕ) (t : TaskState) (next : Option TaskStep) → length (state_after s (outcome_of s i t next)).queues ≡ length s.queues
many_next s i t None = refl
many_next s i t (Some step) = many_if (step_call step s.queues t.locals).waits s _ _ (on_queues step s t)

many_at : (s : Running) (i : ℕ) (o : Option TaskState) →
    length (state_after s (elim o [ None ↦ over | Some t ↦ outcome_of s i t (slice_get t.steps t.place) ])).queues ≡ length s.queues
many_at s i None = refl
many_at s i (Some t) = many_next s i t (slice_get t.steps t.place)

many_replayed : (history : List Entry) (s : Running) → length (replay s history).queues ≡ length s.queues
many_replayed [] s = refl
many_replayed (e ∷ es) s = many_replayed es (state_after s (turn_outcome s e.task)) ∙ many_at s e.task (slice_get s.tasks e.task)

-- What was made of it, in whatever environment

-- the test of the tasks in memory
abbrev pub all_fit : List Bool → List Task → Bool
all_fit ranked made = list_all (λ (t : Task). code_fits ranked t.code) made

-- the tasks and the queues in memory are those of the block in this environment
record IsBlock (e : State) (tasks : ResolvedCode) (made : List Task) (lent : List TaskQueue) : Type 0 where
  tasks_are : made ≡ tasks_of e tasks
  block_is : new_block lent (code_of made) ≡ block_of e tasks

module _ (old : World) (tasks : ResolvedCode) (places : List ℕ) (first : ℕ) (made : List Task) (lent : List TaskQueue)
    (places_are : places ≡ queue_places tasks) (first_is : first ≡ length old.bounds + 1) (made_is : made ≡ tasks_from tasks places first)
    (lent_is : lent ≡ queues_at (state_of old) places) where
  is_block : (guards : Guards) (e : State) → IsUnder old guards e → IsBlock e tasks made lent
  is_block guards e u =
      let many : first ≡ length e.bounds + 1 = first_is ∙ ap (λ n. n + 1) (many_under old guards e u) in
      let tasks_are : made ≡ tasks_of e tasks = made_is ∙ (λ i. tasks_from tasks (places_are i) (many i)) in
      let queues_are : lent ≡ queues_at e (queue_places tasks) =
      lent_is ∙ (ap (λ s. queues_at s places) u.is ∙ (queues_under guards e places ∙ ap (queues_at e) places_are)) in
      record {
        tasks_are = tasks_are;
        block_is = λ i. new_block (queues_are i) (code_of (tasks_are i));
      }

  -- whatever the environment, its numbers fit or don't
  pub same_test : (ranked : List Bool) → ranked ≡ map is_ranked (queues_at (state_of old) places) → (guards : Guards) (e : State) → IsUnder old guards e →
      all_fit ranked made ≡ block_fits (block_of e tasks)
  same_test ranked is guards e u =
      sym (list_all-map (code_fits ranked) _ made)
      ∙ (ap (λ r. list_all (code_fits r) (code_of made)) (is ∙ ap (map is_ranked) (sym lent_is))
      ∙ ap block_fits (is_block guards e u).block_is)

  pub nothing_gathered : (ranked : List Bool) → ranked ≡ map is_ranked (queues_at (state_of old) places) →
      all_fit ranked made ≡ false → (order : List ℕ) (guards : Guards) (e : State) → IsUnder old guards e →
      outcome [] e ≡ gathered order tasks e
  nothing_gathered ranked is none order guards e u =
      let test : block_fits (block_of e tasks) ≡ false = sym (same_test ranked is guards e u) ∙ none in rw test refl

  module _ (ranked : List Bool) (ranked_is : ranked ≡ map is_ranked (queues_at (state_of old) places)) (fits : all_fit ranked made ≡ true) where
    -- so that it runs
    it_runs : (given : List ℕ) (guards : Guards) (e : State) → IsUnder old guards e → run_by given tasks e ≡ gathered given tasks e
    it_runs given guards e u =
        let test : block_fits (block_of e tasks) ≡ true = sym (same_test ranked ranked_is guards e u) ∙ fits in rw test refl

    -- and in memory too
    pub new_fits : block_fits (new_block lent (code_of made)) ≡ true
    new_fits =
        ap (λ r. list_all (code_fits r) (code_of made)) (ap (map is_ranked) lent_is ∙ sym ranked_is)
        ∙ (list_all-map (code_fits ranked) _ made ∙ fits)

    module _ (order : List ℕ) (ended : Block) (ended_is : ended ≡ run_of (new_block lent (code_of made)) order) where
      -- the block that ended is the one of the environment, by its order
      ended_block : (orders : Orders) → GoBy (order ∷ []) old.counters.blocks orders → (guards : Guards) (e : State) → IsUnder old guards e →
          ended ≡ run_of (block_of e tasks) (orders e.blocks)
      ended_block orders go guards e u =
          let is = is_block guards e u in
          let count : e.blocks ≡ old.counters.blocks = ap (λ (s : State). s.blocks) (sym u.is) in
          ended_is ∙ (λ i. run_of (is.block_is i) ((sym (ap orders count ∙ go.0)) i))

      pub gathered_lines : (orders : Orders) → GoBy (order ∷ []) old.counters.blocks orders → (guards : Guards) (e : State) → IsUnder old guards e →
          lines_text (block_lines made ended) ≡ lines_text (gathered (orders e.blocks) tasks e).lines
      gathered_lines orders go guards e u =
          (λ i. lines_text (block_lines ((is_block guards e u).tasks_are i) (ended_block orders go guards e u i)))
          ∙ ap (λ (r : Outcome). lines_text r.lines) (it_runs (orders e.blocks) guards e u)

      abbrev begun : Block
      begun = new_block lent (code_of made)

      pub as_many_tasks : length made ≡ length ended.code
      as_many_tasks =
          sym (length-map made _)
          ∙ (ap length (sym (turns_keep_start (order ++ last_rounds begun) begun).code) ∙ ap (λ (b : Block). length b.code) (sym ended_is))

      same_many : length (present ended).queues ≡ length places
      same_many =
          many_replayed ended.history _
          ∙ (ap (λ (b : Block). length b.queues) ended_is
          ∙ (ap length (turns_keep_start (order ++ last_rounds begun) begun).queues
          ∙ (ap length lent_is ∙ length-map places _)))

      module _ (mid new : World) (back : List TaskQueue) (given : QueuesLent places (state_of old) (state_of mid)) (back_is : back ≡ (present ended).queues)
          (new_is : state_of new ≡ queues_left places back (state_of mid)) where
        put_back : state_of new ≡ one_block_more (queues_left places back (state_of old))
        put_back = new_is ∙ given back (ap length back_is ∙ same_many)

        pub one_more_counted : new.counters.blocks ≡ old.counters.blocks + 1
        one_more_counted = ap (λ (s : State). s.blocks) put_back ∙ ap (λ n. n + 1) (left_count places back (state_of old))

        pub gathered_after : (orders : Orders) → GoBy (order ∷ []) old.counters.blocks orders → (guards : Guards) (e : State) → IsUnder old guards e →
            state_of new ≡ under guards (gathered (orders e.blocks) tasks e).after
        gathered_after orders go guards e u =
            put_back
            ∙ (ap (λ s. one_block_more (queues_left places back s)) u.is
            ∙ (ap one_block_more (left_under places back guards e)
            ∙ ((λ i. under guards (one_block_more (queues_left (places_are i) ((back_is ∙ ap (λ (b : Block). (present b).queues) (ended_block orders go guards e u)) i) e)))
            ∙ ap (λ (r : Outcome). under guards r.after) (it_runs (orders e.blocks) guards e u))))

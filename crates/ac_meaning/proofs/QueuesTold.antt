-- What is told of a queue by its discipline and its limit alone, no block of tasks changes.
use Rattle.std.proofs.Common.{◌≡◌, ◌++◌, ℕ, ℤ, Bool, true, false, List, ◌∷◌, [], map, slice_get, refl, sym, ap, ◌∙◌, Option, Some, None, if◌then◌else◌}
use Rattle.std.specs.Prelude.{set}
use Rattle.std.proofs.lemmas.List.{map-set, set-get_or}
use Rattle.ac_base.specs.declared.limit.Limit.TheVariants.{Unbounded}
use Rattle.ac_base.specs.declared.reason.Reason.{Reason}
use Rattle.ac_model.specs.Queues.{Queue, by_arrival, empty_queue, enqueue_call, dequeue_call, high_only_call, has_at_least, TaskQueue}
use Rattle.ac_history.specs.declared.code.TaskStep.{TaskStep}
use Rattle.ac_history.specs.declared.code.TaskStep.TheVariants.{Enqueue, Dequeue, High, CurrentUse, PeakUse, Set}
use Rattle.ac_history.specs.declared.entry.Entry.{Entry}
use Rattle.ac_history.specs.Blocks.{Block, opening, present}
use Rattle.ac_history.specs.Histories.{over, held_up, done, outcome, outcome_of, state_after, replay}
use Rattle.ac_history.specs.Orders.{run_of, last_rounds}
use Rattle.ac_history.specs.States.{State as TasksState, TaskState}
use Rattle.ac_history.specs.Steps.{QueueStep, queue_at, on_queue, step_call, enqueue_step, taking_step, value_of}
use Rattle.ac_history.proofs.Starts.{turns_keep_start}
use Rattle.ac_meaning.proofs.QueuesStay.{either_limit}

abbrev other_queue : TaskQueue
other_queue = record { discipline = by_arrival; queue = empty_queue Unbounded }

-- the queue as a step leaves it
abbrev pub left_as : TaskQueue → Queue → TaskQueue
left_as q after = record { discipline = q.discipline; queue = after }

-- Limits

enqueued_limit : (q : TaskQueue) (item : ℤ) → (enqueue_step q item).after.limit ≡ q.queue.limit
enqueued_limit q item = go (enqueue_call q.discipline q.queue item).reason
  where
    go : (reason : Option Reason) →
        (elim reason as (λ r. Queue) [ None ↦ (enqueue_call q.discipline q.queue item).after | Some other ↦ q.queue ]).limit ≡ q.queue.limit
    go None = refl
    go (Some other) = refl

taken_limit : (q : TaskQueue) (at_least : ℤ) → (taking_step (high_only_call q.queue at_least)).after.limit ≡ q.queue.limit
taken_limit q at_least = either_limit (has_at_least at_least q.queue.items) q.queue _ refl

module _ {A : Type 0} (f : TaskQueue → A) (own : (q : TaskQueue) (after : Queue) → after.limit ≡ q.queue.limit → f (left_as q after) ≡ f q) where
  one_keeps : (qs : List TaskQueue) (i : ℕ) (step : TaskQueue → QueueStep) → ((q : TaskQueue) → (step q).after.limit ≡ q.queue.limit) →
      map f (on_queue qs i step).queues ≡ map f qs
  one_keeps qs i step limits =
      let q = queue_at qs i in
      map-set f qs i (left_as q (step q).after)
      ∙ (ap (λ (x : A). set (map f qs) i x) (own q (step q).after (limits q)) ∙ (sym (map-set f qs i q) ∙ ap (map f) (set-get_or qs i other_queue)))

  step_keeps : (step : TaskStep) (qs : List TaskQueue) (locals : List ℤ) → map f (step_call step qs locals).queues ≡ map f qs
  step_keeps (Enqueue line queue item) qs locals =
      one_keeps qs queue (λ q. enqueue_step q (value_of locals item)) (λ q. enqueued_limit q (value_of locals item))
  step_keeps (Dequeue line queue into) qs locals = one_keeps qs queue (λ q. taking_step (dequeue_call q.queue)) (λ q. refl)
  step_keeps (High line queue at_least into) qs locals =
      one_keeps qs queue (λ q. taking_step (high_only_call q.queue (value_of locals at_least))) (λ q. taken_limit q (value_of locals at_least))
  step_keeps (CurrentUse line queue into) qs locals = refl
  step_keeps (PeakUse line queue into) qs locals = refl
  step_keeps (Set line into from add) qs locals = refl

  kept_if : (waits : Bool) (s after : TasksState) (e : Entry) → map f after.queues ≡ map f s.queues →
      map f (state_after s (if waits then held_up else done e after)).queues ≡ map f s.queues
  kept_if true s after e h = refl
  kept_if false s after e h = h

  kept_next : (s : TasksState) (i : ℕ) (t : TaskState) (next : Option TaskStep) →
      map f (state_after s (outcome_of s i t next)).queues ≡ map f s.queues
  kept_next s i t None = refl
  kept_next s i t (Some step) = kept_if (step_call step s.queues t.locals).waits s _ _ (step_keeps step s.queues t.locals)

  kept_at : (s : TasksState) (i : ℕ) (o : Option TaskState) →
      map f (state_after s (elim o [ None ↦ over | Some t ↦ outcome_of s i t (slice_get t.steps t.place) ])).queues ≡ map f s.queues
  kept_at s i None = refl
  kept_at s i (Some t) = kept_next s i t (slice_get t.steps t.place)

  replay_keeps : (history : List Entry) (s : TasksState) → map f (replay s history).queues ≡ map f s.queues
  replay_keeps [] s = refl
  replay_keeps (e ∷ history) s = replay_keeps history (state_after s (outcome s e.task)) ∙ kept_at s e.task (slice_get s.tasks e.task)

  pub run_keeps : (b : Block) (order : List ℕ) → map f (present (run_of b order)).queues ≡ map f b.queues
  run_keeps b order =
      replay_keeps (run_of b order).history (opening (run_of b order))
      ∙ ap (map f) (turns_keep_start (order ++ last_rounds b) b).queues

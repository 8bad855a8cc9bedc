-- A step keeps the kinds of the queues, so that what was in range stays so.
use Rattle.std.proofs.Common.{◌≡◌, ◌<◌, ℕ, ℤ, List, map, length, get_or, refl, sym, ap, ◌∙◌, subst}
use Rattle.std.proofs.lemmas.List.{length-map, map-set, get_or-map, set-get_or}
use Rattle.ac_base.specs.declared.limit.Limit.TheVariants.{Unbounded}
use Rattle.ac_model.specs.Queues.{Discipline, by_arrival, empty_queue, dequeue_call, high_only_call, TaskQueue}
use Rattle.ac_history.specs.declared.code.TaskStep.{TaskStep}
use Rattle.ac_history.specs.declared.code.TaskStep.TheVariants.{Enqueue, Dequeue, High, CurrentUse, PeakUse, Set}
use Rattle.ac_history.specs.Steps.{QueueStep, queue_at, on_queue, step_call, enqueue_step, taking_step, value_of}
use Rattle.ac_book.specs.Running.{Fits}

abbrev pub kind : TaskQueue → Discipline
kind q = q.discipline

abbrev no_queue : TaskQueue
no_queue = record { discipline = by_arrival; queue = empty_queue Unbounded }

one_keeps : (qs : List TaskQueue) (i : ℕ) (step : TaskQueue → QueueStep) → map kind (on_queue qs i step).queues ≡ map kind qs
one_keeps qs i step =
    map-set kind qs i (record { discipline = (queue_at qs i).discipline; queue = (step (queue_at qs i)).after })
    ∙ sym (map-set kind qs i (queue_at qs i))
    ∙ ap (map kind) (set-get_or qs i no_queue)

pub step_keeps : (step : TaskStep) (qs : List TaskQueue) (locals : List ℤ) → map kind (step_call step qs locals).queues ≡ map kind qs
step_keeps (Enqueue line queue item) qs locals = one_keeps qs queue (λ q. enqueue_step q (value_of locals item))
step_keeps (Dequeue line queue into) qs locals = one_keeps qs queue (λ q. taking_step (dequeue_call q.queue))
step_keeps (High line queue at_least into) qs locals = one_keeps qs queue (λ q. taking_step (high_only_call q.queue (value_of locals at_least)))
step_keeps (CurrentUse line queue into) qs locals = refl
step_keeps (PeakUse line queue into) qs locals = refl
step_keeps (Set line into from add) qs locals = refl

same_number : (qs rs : List TaskQueue) → map kind rs ≡ map kind qs → length rs ≡ length qs
same_number qs rs same = sym (length-map rs kind) ∙ ap length same ∙ length-map qs kind

in_both : (qs rs : List TaskQueue) → map kind rs ≡ map kind qs → (i : ℕ) → i < length qs → i < length rs
in_both qs rs same i within = subst (λ n. i < n) (sym (same_number qs rs same)) within

kind_at : (qs : List TaskQueue) (i : ℕ) → i < length qs → get_or (map kind qs) i by_arrival ≡ kind (queue_at qs i)
kind_at qs i within = get_or-map kind qs i no_queue by_arrival within

same_kind : (qs rs : List TaskQueue) → map kind rs ≡ map kind qs → (i : ℕ) → i < length qs → kind (queue_at rs i) ≡ kind (queue_at qs i)
same_kind qs rs same i within = sym (kind_at rs i (in_both qs rs same i within)) ∙ ap (λ ks. get_or ks i by_arrival) same ∙ kind_at qs i within

pub fits_kept : (qs rs : List TaskQueue) → map kind rs ≡ map kind qs → (locals : ℕ) (step : TaskStep) → Fits qs locals step → Fits rs locals step
fits_kept qs rs same locals (Enqueue line queue item) h = (in_both qs rs same queue h.0, h.1)
fits_kept qs rs same locals (Dequeue line queue into) h = (in_both qs rs same queue h.0, h.1)
fits_kept qs rs same locals (High line queue at_least into) h = (in_both qs rs same queue h.0, same_kind qs rs same queue h.0 ∙ h.1, h.2, h.3)
fits_kept qs rs same locals (CurrentUse line queue into) h = (in_both qs rs same queue h.0, h.1)
fits_kept qs rs same locals (PeakUse line queue into) h = (in_both qs rs same queue h.0, h.1)
fits_kept qs rs same locals (Set line into from add) h = h

-- A step on one queue in memory is that step on the queues as tasks share them.
use Rattle.std.proofs.Common.{◌≡◌, ◌<◌, ℕ, Bool, true, false, List, map, length, get_or, set, refl, sym, ap, ◌∙◌, subst, if◌then◌else◌}
use Rattle.std.proofs.lemmas.List.{map-set, get_or-map, set-get_or}
use Rattle.ac_queue.specs.declared.any_queue.AnyQueue.{AnyQueue}
use Rattle.ac_model.specs.Queues.{by_arrival, empty_queue, TaskQueue}
use Rattle.ac_base.specs.declared.limit.Limit.TheVariants.{Unbounded}
use Rattle.ac_history.specs.Steps.{QueueStep, queue_at, on_queue}
use Rattle.ac_queue.specs.Shared.{shared}
use Rattle.ac_book.specs.Running.{queue_after, queues_after}

pub shared_at : (queues : List AnyQueue) (i : ℕ) (d : AnyQueue) → i < length queues → queue_at (map shared queues) i ≡ shared (get_or queues i d)
shared_at queues i d within = get_or-map shared queues i d (record { discipline = by_arrival; queue = empty_queue Unbounded }) within

set_by : (qs : List TaskQueue) (i : ℕ) (c : QueueStep) (b : Bool) → c.waits ≡ b →
    set qs i (if b then queue_at qs i else record { discipline = (queue_at qs i).discipline; queue = c.after })
    ≡ (if b then qs else set qs i (record { discipline = (queue_at qs i).discipline; queue = c.after }))
set_by qs i c true e = set-get_or qs i (record { discipline = by_arrival; queue = empty_queue Unbounded })
set_by qs i c false e = refl

-- the queue at i was this one, and is that one now
pub stepped : (queues : List AnyQueue) (i : ℕ) (d now : AnyQueue) (step : TaskQueue → QueueStep) → i < length queues → shared now ≡ queue_after (shared (get_or queues i d)) (step (shared (get_or queues i d)))
    → map shared (set queues i now) ≡ queues_after (map shared queues) (on_queue (map shared queues) i step)
stepped queues i d now step within is =
    let qs = map shared queues in
    let same = subst (λ q. shared now ≡ queue_after q (step q)) (sym (shared_at queues i d within)) is in
    map-set shared queues i now ∙ ap (λ q. set qs i q) same ∙ set_by qs i (step (queue_at qs i)) (step (queue_at qs i)).waits refl

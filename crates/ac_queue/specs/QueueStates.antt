-- What a contract sees of a queue in memory, and what holds of it.
use Rattle.std.specs.Prelude.{◌+◌, ◌≤◌, ⊤, ℕ, ℤ, List, length, max, refl}
use Rattle.std.specs.Coded.{Coded, code_by, coded×, coded_ℕ, coded_ℤ, coded_list}
use Rattle.ac_base.specs.declared.limit.Limit.{Limit}
use Rattle.ac_base.specs.declared.limit.Limit.TheVariants.{Unbounded, Bounded}
use Rattle.ac_base.specs.declared.limit.TheConstants.{GREATEST_LENGTH}
use Rattle.ac_base.specs.Limits.{limit_code}
use Rattle.ac_model.specs.Queues.{Queue, Discipline, IsValidQueue, empty_queue}

pub record QueueState : Type 0 where
  pub queue : Queue
  -- how many more items take no memory
  pub spare : ℕ

abbrev pub queue_of : Limit → List ℤ → ℕ → Queue
queue_of limit items peak = record { limit = limit; items = items; peak = peak }

abbrev pub state : Queue → ℕ → QueueState
state queue spare = record { queue = queue; spare = spare }

abbrev queue_code : Coded Queue
queue_code =
    code_by (Limit × (List ℤ × ℕ))
    (coded× limit_code (coded× (coded_list coded_ℤ) coded_ℕ))
    (λ q. (q.limit, (q.items, q.peak)))
    (λ p. queue_of p.0 p.1.0 p.1.1)
    (λ _. refl)

abbrev pub state_code : Coded QueueState
state_code = code_by (Queue × ℕ) (coded× queue_code coded_ℕ) (λ s. (s.queue, s.spare)) (λ p. state p.0 p.1) (λ _. refl)

-- a bounded queue has room for all that it may hold
abbrev pub HasRoom : Limit → ℕ → ℕ → Type 0
HasRoom Unbounded held spare = ⊤
HasRoom (Bounded most) held spare = most ≤ held + spare

pub record IsQueueState (discipline : Discipline) (s : QueueState) : Type 0 where
  pub valid : IsValidQueue discipline s.queue
  pub room : HasRoom s.queue.limit (length s.queue.items) s.spare
  pub peak_in_range : s.queue.peak ≤ GREATEST_LENGTH

-- the queue with this as the greatest number of items held so far
abbrev pub with_peak : QueueState → ℕ → QueueState
with_peak s peak = state (queue_of s.queue.limit s.queue.items peak) s.spare

-- how many items a new queue takes without memory
abbrev pub first_spare : Limit → ℕ
first_spare Unbounded = 0
first_spare (Bounded most) = most

abbrev pub new_state : Limit → QueueState
new_state limit = state (empty_queue limit) (first_spare limit)

abbrev pub with_spare : QueueState → ℕ → QueueState
with_spare s n = state s.queue (max s.spare n)

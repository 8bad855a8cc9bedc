-- Queues that a block of tasks takes out of their places, and puts back.
use Rattle.std.specs.Prelude.{◌≡◌, ◌==◌, ⊤, ℕ, false, List, [], ◌∷◌, length, slice_get, slice_set, Option, Some, None}
use Rattle.std.specs.List.{list_any}
use Rattle.ac_model.specs.Queues.{TaskQueue}
use Rattle.ac_queue.specs.declared.any_queue.AnyQueue.{AnyQueue}
use Rattle.ac_meaning.specs.Environment.{State}
use Rattle.ac_meaning.specs.TaskBlocks.{queues_left, one_block_more}
use Rattle.ac_objects.specs.declared.bound.Bound.{Bound}
use Rattle.ac_objects.specs.declared.bound.Bound.TheVariants as bound
use Rattle.ac_objects.specs.declared.numbered_queue.NumberedQueue.{NumberedQueue}
use Rattle.ac_objects.specs.declared.object.Object.TheVariants.{Queue}

-- no place stands there twice
abbrev pub StandOnce : List ℕ → Type 0
StandOnce [] = ⊤
StandOnce (place ∷ places) = (list_any (λ p. p == place) places ≡ false) × StandOnce places

-- what stands in place of the queues at these places isn't told. Where as many queues go to the places again, it is as if the environment had been left with them, but that one block of tasks more has begun
abbrev pub QueuesLent : (places : List ℕ) → (old new : State) → Type 0
QueuesLent places old new =
    (queues : List TaskQueue) → length queues ≡ length places → queues_left places queues new ≡ one_block_more (queues_left places queues old)

-- the queue that a name holds, if it holds one
abbrev pub queue_held : Option Bound → Option NumberedQueue
queue_held (Some (bound.Object (Queue q))) = Some q
queue_held _ = None

abbrev pub bounds_with : List Bound → (place : ℕ) → AnyQueue → Option NumberedQueue → List Bound
bounds_with bs place q None = bs
bounds_with bs place q (Some old) = slice_set bs place (bound.Object (Queue (record old { queue = q })))

abbrev pub queue_or : AnyQueue → Option NumberedQueue → AnyQueue
queue_or q None = q
queue_or q (Some old) = old.queue

-- a queue goes to a place, where one stands
abbrev pub put_queue : (place : ℕ) → AnyQueue → List Bound → List Bound
put_queue place q bs = bounds_with bs place q (queue_held (slice_get bs place))

-- so in what the name there holds
abbrev pub bound_with : AnyQueue → Bound → Bound
bound_with q (bound.Object (Queue old)) = bound.Object (Queue (record old { queue = q }))
bound_with q other = other

-- and comes back, or the one that stood there
abbrev pub queue_out : (place : ℕ) → AnyQueue → List Bound → AnyQueue
queue_out place q bs = queue_or q (queue_held (slice_get bs place))

-- so does each of these, one after another
abbrev pub put_queues : (places : List ℕ) → List AnyQueue → List Bound → List Bound
put_queues [] queues bs = bs
put_queues (place ∷ places) [] bs = bs
put_queues (place ∷ places) (q ∷ queues) bs = put_queues places queues (put_queue place q bs)

abbrev pub queues_out : (places : List ℕ) → List AnyQueue → List Bound → List AnyQueue
queues_out [] queues bs = queues
queues_out (place ∷ places) [] bs = []
queues_out (place ∷ places) (q ∷ queues) bs = queue_out place q bs ∷ queues_out places queues (put_queue place q bs)

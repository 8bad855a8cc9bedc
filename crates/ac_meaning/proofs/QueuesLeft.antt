-- A block of tasks leaves everything but its queues' items, and the count of blocks.
use Rattle.std.proofs.Common.{◌≡◌, ◌+◌, ◌≤◌, ℕ, Bool, true, false, List, [], ◌∷◌, refl, sym, ap, ◌∙◌, arith, if◌then◌else◌, Option, Some, None}
use Rattle.ac_model.specs.Queues.{TaskQueue}
use Rattle.ac_history.specs.Blocks.{present}
use Rattle.ac_history.specs.Orders.{run_of}
use Rattle.ac_rules.specs.Resolved.{ResolvedCode}
use Rattle.ac_calls.specs.Holdings.{Held, of_rows, of_holder, of_queue, Guards}
use Rattle.ac_meaning.specs.Environment.{binds_object, State, bound_at, object_at}
use Rattle.ac_meaning.specs.TaskBlocks.{queue_places, block_of, block_fits, queue_left, queues_left}
use Rattle.ac_meaning.specs.Execution.{outcome, run_by, gathered}
use Rattle.ac_meaning.specs.GuardedNames.{frame, kept}
use Rattle.ac_meaning.proofs.BoundsStay.{object_there}
use Rattle.ac_meaning.proofs.Frames.{kept-with_bound}

queue_kept : (guards : Guards) (e : State) (place : ℕ) (q : TaskQueue) (found : Option Held) → object_at e place ≡ found →
    kept guards (queue_left e place q found) ≡ kept guards e
queue_kept guards e place q None f = refl
queue_kept guards e place q (Some (of_rows kind o)) f = refl
queue_kept guards e place q (Some (of_holder element h)) f = refl
queue_kept guards e place q (Some (of_queue number old)) f =
    kept-with_bound guards e place (binds_object (of_queue number q))
    (sym (ap (frame guards) (object_there (bound_at e place) (of_queue number old) f)))

queues_kept : (places : List ℕ) (queues : List TaskQueue) (guards : Guards) (e : State) → kept guards (queues_left places queues e) ≡ kept guards e
queues_kept [] queues guards e = refl
queues_kept (place ∷ places) [] guards e = refl
queues_kept (place ∷ places) (q ∷ queues) guards e =
    queues_kept places queues guards (queue_left e place q (object_at e place)) ∙ queue_kept guards e place q (object_at e place) refl

-- the queues at the end of a block
abbrev left_of : (order : List ℕ) → (tasks : ResolvedCode) → State → List TaskQueue
left_of order tasks e = (present (run_of (block_of e tasks) order)).queues

pub gathered_keeps : (guards : Guards) (order : List ℕ) (tasks : ResolvedCode) (e : State) →
    kept guards (gathered order tasks e).after ≡ kept guards e
gathered_keeps guards order tasks e = go (block_fits (block_of e tasks))
  where
    go : (fits : Bool) → kept guards (if fits then run_by order tasks e else outcome [] e).after ≡ kept guards e
    go true = queues_kept (queue_places tasks) (left_of order tasks e) guards e
    go false = refl

-- the numbers

queue_next : (e : State) (place : ℕ) (q : TaskQueue) (found : Option Held) → (queue_left e place q found).next ≡ e.next
queue_next e place q None = refl
queue_next e place q (Some (of_rows kind o)) = refl
queue_next e place q (Some (of_holder element h)) = refl
queue_next e place q (Some (of_queue number old)) = refl

queues_next : (places : List ℕ) (queues : List TaskQueue) (e : State) → (queues_left places queues e).next ≡ e.next
queues_next [] queues e = refl
queues_next (place ∷ places) [] e = refl
queues_next (place ∷ places) (q ∷ queues) e =
    queues_next places queues (queue_left e place q (object_at e place)) ∙ queue_next e place q (object_at e place)

pub gathered_next : (order : List ℕ) (tasks : ResolvedCode) (e : State) → (gathered order tasks e).after.next ≡ e.next
gathered_next order tasks e = go (block_fits (block_of e tasks))
  where
    go : (fits : Bool) → (if fits then run_by order tasks e else outcome [] e).after.next ≡ e.next
    go true = queues_next (queue_places tasks) (left_of order tasks e) e
    go false = refl

queue_blocks : (e : State) (place : ℕ) (q : TaskQueue) (found : Option Held) → (queue_left e place q found).blocks ≡ e.blocks
queue_blocks e place q None = refl
queue_blocks e place q (Some (of_rows kind o)) = refl
queue_blocks e place q (Some (of_holder element h)) = refl
queue_blocks e place q (Some (of_queue number old)) = refl

queues_blocks : (places : List ℕ) (queues : List TaskQueue) (e : State) → (queues_left places queues e).blocks ≡ e.blocks
queues_blocks [] queues e = refl
queues_blocks (place ∷ places) [] e = refl
queues_blocks (place ∷ places) (q ∷ queues) e =
    queues_blocks places queues (queue_left e place q (object_at e place)) ∙ queue_blocks e place q (object_at e place)

-- a block that runs is counted
pub run_blocks : (order : List ℕ) (tasks : ResolvedCode) (e : State) → (run_by order tasks e).after.blocks ≡ e.blocks + 1
run_blocks order tasks e = ap (λ n. n + 1) (queues_blocks (queue_places tasks) (left_of order tasks e) e)

pub gathered_blocks : (order : List ℕ) (tasks : ResolvedCode) (e : State) → e.blocks ≤ (gathered order tasks e).after.blocks
gathered_blocks order tasks e = go (block_fits (block_of e tasks))
  where
    go : (fits : Bool) → e.blocks ≤ (if fits then run_by order tasks e else outcome [] e).after.blocks
    go true = omega (arith, run_blocks order tasks e)
    go false = omega arith

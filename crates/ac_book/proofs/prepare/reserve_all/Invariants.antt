use Rattle.std.proofs.Common.{◌≡◌, ◌<◌, ◌≤◌, ℕ, map, get_or}
use Rattle.ac_queue.specs.declared.any_queue.AnyQueue.{AnyQueue}
use Rattle.ac_queue.specs.Kinds.{state_of}
use Rattle.ac_queue.specs.Shared.{shared}
use Rattle.ac_book.proofs.prepare.reserve_all.Given as goal

abbrev pub invariant-loop-i : goal.invariant-loop-i
invariant-loop-i l = (map shared l.queues ≡ map shared l.initial.queues) × ((k : ℕ) (d : AnyQueue) → k < l.i → l.n ≤ (state_of (get_or l.queues k d)).spare)

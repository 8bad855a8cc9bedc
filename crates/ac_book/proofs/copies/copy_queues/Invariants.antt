use Rattle.std.proofs.Common.{◌≡◌, take, length, vec_len}
use Rattle.std.specs.Vec.{vec_capacity}
use Rattle.ac_book.proofs.copies.copy_queues.Given as goal

abbrev pub invariant-loop-queue : goal.invariant-loop-queue
invariant-loop-queue l = (l.made.items ≡ take l.queue-index l.queues) × (vec_len l.made ≡ l.queue-index) × (vec_capacity l.made ≡ length l.queues)

use Rattle.std.proofs.Common.{◌≡◌, map, take}
use Rattle.ac_queue.specs.Shared.{shared}
use Rattle.ac_book.proofs.same.same_queues.Given as goal

abbrev pub invariant-loop-i : goal.invariant-loop-i
invariant-loop-i l = map shared (take l.i l.queues) ≡ map shared (take l.i l.others)

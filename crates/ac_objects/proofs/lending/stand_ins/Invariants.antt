use Rattle.std.proofs.Common.{◌≡◌, map, replicate, vec_len}
use Rattle.std.specs.Vec.{vec_capacity}
use Rattle.ac_queue.specs.Shared.{shared}
use Rattle.ac_meaning.specs.TaskBlocks.{no_queue}
use Rattle.ac_objects.proofs.lending.stand_ins.Given as goal

abbrev pub invariant-loop-i : goal.invariant-loop-i
invariant-loop-i l = (map shared l.made.items ≡ replicate l._i no_queue) × (vec_len l.made ≡ l._i) × (vec_capacity l.made ≡ l.count)

use Rattle.std.proofs.Common.{◌≡◌, ◌+◌, ◌≤◌, ◌++◌, None, replicate, vec_capacity, vec_len}
use Rattle.ac_pool.proofs.slots.add_chunks.Given as goal

abbrev pub invariant-loop : goal.invariant-loop
invariant-loop g l = record {
  room : vec_len l.initial.chunks + l.count ≤ vec_capacity l.chunks;
  long : vec_len l.chunks ≡ vec_len l.initial.chunks + l.counter;
  added : l.chunks.items ≡ l.initial.chunks.items ++ replicate l.counter (replicate 512 None);
}

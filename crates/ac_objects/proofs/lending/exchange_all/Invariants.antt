use Rattle.std.proofs.Common.{◌≡◌, length}
use Rattle.ac_objects.specs.Lent.{put_queues, queues_out}
use Rattle.ac_objects.proofs.Lent.{still_put, still_out}
use Rattle.ac_objects.proofs.lending.exchange_all.Given as goal

abbrev pub invariant-loop-i : goal.invariant-loop-i
invariant-loop-i l = record {
  as_many : length l.queues.items ≡ length l.fn.queues.items;
  put : still_put l.places l.queues.items l.bounds.items l.i ≡ put_queues l.places l.fn.queues.items l.fn.bounds.items;
  out : still_out l.places l.queues.items l.bounds.items l.i ≡ queues_out l.places l.fn.queues.items l.fn.bounds.items;
}

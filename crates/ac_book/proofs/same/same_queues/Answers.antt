use Rattle.std.proofs.Common.{rules}
use Rattle.ac_queue.specs.Shared.{shared}
use Rattle.ac_book.proofs.Alike.{refuted, differ_at}
use Rattle.ac_book.proofs.same.same_queues.Goals as goal

pub returns-then-not-same_queue : goal.returns-then-not-same_queue
returns-then-not-same_queue c =
    refuted (differ_at shared c.args.queues.now c.args.others.now c.loop-i.i c.index-queues-i.result c.index-others-i.result c.same_queue.result c.index-queues-i.is c.index-others-i.is (search rules) (search rules) c.same_queue.ensures (search rules))

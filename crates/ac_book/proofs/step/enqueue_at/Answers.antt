use Rattle.std.proofs.Common.{rules}
use Rattle.ac_history.specs.Steps.{enqueue_step}
use Rattle.ac_book.proofs.Shared.{stepped}
use Rattle.ac_book.proofs.step.enqueue_at.Goals as goal

pub returns-clause-left : goal.returns-clause-left
returns-clause-left c = stepped c.args.queues.now c.args.queue c.index-queues-queue.result c.enqueue.new.queue (λ q. enqueue_step q c.args.item) c.requires.queue (search rules)

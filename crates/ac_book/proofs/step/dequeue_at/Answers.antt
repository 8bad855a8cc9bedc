use Rattle.std.proofs.Common.{rules}
use Rattle.ac_model.specs.Queues.{dequeue_call}
use Rattle.ac_history.specs.Steps.{taking_step}
use Rattle.ac_book.proofs.Shared.{stepped}
use Rattle.ac_book.proofs.step.dequeue_at.Goals as goal

pub returns-clause-left : goal.returns-clause-left
returns-clause-left c = stepped c.args.queues.now c.args.queue c.index-queues-queue.result c.dequeue.new.queue (λ q. taking_step (dequeue_call q.queue)) c.requires (search rules)

use Rattle.ac_model.proofs.HoldersAndQueues.{enqueue_keeps, dequeue_keeps, high_only_keeps}
use Rattle.ac_model.proofs.plain_validity.queue_calls.Goals as goal

pub returns-clause-enqueue : goal.returns-clause-enqueue
returns-clause-enqueue c = enqueue_keeps

pub returns-clause-dequeue : goal.returns-clause-dequeue
returns-clause-dequeue c = dequeue_keeps

pub returns-clause-high_only : goal.returns-clause-high_only
returns-clause-high_only c = high_only_keeps

use Rattle.std.proofs.Common.{rules}
use Rattle.ac_model.specs.Queues.{high_only_call}
use Rattle.ac_history.specs.Steps.{taking_step}
use Rattle.ac_book.proofs.Shared.{stepped}
use Rattle.ac_book.proofs.step.high_at.Goals as goal

pub returns-clause-left : goal.returns-clause-left
returns-clause-left c = stepped c.args.queues.now c.args.queue c.index-queues-queue.result c.high_only.new.queue (λ q. taking_step (high_only_call q.queue c.args.at_least)) c.requires.queue (search rules)

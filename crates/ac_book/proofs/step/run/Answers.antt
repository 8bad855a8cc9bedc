use Rattle.std.proofs.Common.{rules, ◌≡◌, map, subst}
use Rattle.ac_history.specs.Steps.{on_queue, enqueue_step}
use Rattle.ac_queue.specs.Shared.{shared}
use Rattle.ac_book.specs.Running.{answered}
use Rattle.ac_book.proofs.step.run.Goals as goal

pub returns-in-Enqueue-clause-answer : goal.returns-in-Enqueue-clause-answer
returns-in-Enqueue-clause-answer c =
    let qs = map shared c.args.queues.now in
    rw c.in-Enqueue.is (subst (λ v. c.enqueue_at.result ≡ answered (on_queue qs c.in-Enqueue.queue (λ q. enqueue_step q v)).waits (on_queue qs c.in-Enqueue.queue (λ q. enqueue_step q v)).answer) c.value.ensures (search rules))

use Rattle.std.proofs.Common.{ap}
use Rattle.std.proofs.lemmas.Bool.Decides.{Decides-like}
use Rattle.ac_model.specs.Queues.{TaskQueue}
use Rattle.ac_book.proofs.same.same_queue.Goals as goal

pub returns : goal.returns
returns c =
    Decides-like c.same.result (λ p. λ j. record { discipline = p.0 j; queue = p.1 j }) (λ e. (ap (λ (q : TaskQueue). q.discipline) e, ap (λ (q : TaskQueue). q.queue) e)) c.same.ensures

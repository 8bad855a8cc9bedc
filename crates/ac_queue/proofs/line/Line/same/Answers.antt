use Rattle.std.proofs.Common.{rules, ◌≡◌, subst}
use Rattle.std.specs.Bool.{Decides}
use Rattle.ac_queue.specs.QueueStates.{queue_of}
use Rattle.ac_queue.proofs.SameQueues.{items_decide}
use Rattle.ac_queue.proofs.line.Line.same.Goals as goal

pub returns : goal.returns
returns c =
    let own = c.self.inside in
    let other = c.other.inside in
    subst (λ s. Decides c.eq.result (s.queue ≡ c.args.other.now.queue)) c.self.view_is
    (subst (λ s. Decides c.eq.result (queue_of own.limit own.items.items own.peak ≡ s.queue)) c.other.view_is
    (items_decide own.limit other.limit own.items.items other.items.items own.peak other.peak c.eq.result (search rules) (search rules) c.eq.ensures))

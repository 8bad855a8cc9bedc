use Rattle.std.proofs.Common.{rules, ◌≡◌, true, subst, sym}
use Rattle.ac_model.specs.Queues.{by_priority, are_in_line}
use Rattle.ac_queue.specs.QueueStates.{IsQueueState}
use Rattle.ac_queue.proofs.Places.{put_in_line}
use Rattle.ac_queue.proofs.priority_queue.PriorityQueue.try_enqueue.Goals as goal

pub invariant_of-self : goal.invariant_of-self
invariant_of-self c =
    let line = c.self.inside.line in
    let holds = subst (λ s. IsQueueState by_priority s) (sym c.self.view_is) c.law.ensures in
    subst (λ s. are_in_line s.queue.items ≡ true) (sym c.put_at.ensures)
    (put_in_line line _ holds (search rules) (search rules) _ c.place_behind-place.ensures.place)

-- What a queue of either kind is seen as.
use Rattle.ac_model.specs.Queues.{Discipline, by_arrival, by_priority}
use Rattle.ac_queue.specs.declared.any_queue.AnyQueue.{AnyQueue}
use Rattle.ac_queue.specs.declared.any_queue.AnyQueue.TheVariants.{Plain, Ranked}
use Rattle.ac_queue.specs.QueueStates.{QueueState}

abbrev pub discipline_of : AnyQueue → Discipline
discipline_of (Plain q) = by_arrival
discipline_of (Ranked q) = by_priority

abbrev pub state_of : AnyQueue → QueueState
state_of (Plain q) = q
state_of (Ranked q) = q

use Rattle.ac_objects.proofs.NewObjects.{limit_in_range}
use Rattle.ac_objects.proofs.new_objects.new_queue.Goals as goal

pub new-requires : goal.new-requires
new-requires c = limit_in_range c.args.limit c.requires

pub new-requires-in-PriorityQueue : goal.new-requires-in-PriorityQueue
new-requires-in-PriorityQueue c = limit_in_range c.args.limit c.requires

use Rattle.std.proofs.Common.{sym, ap, ◌∙◌}
use Rattle.ac_plains.specs.Told as told
use Rattle.ac_objects.specs.World.{held_in, memory_of}
use Rattle.ac_objects.proofs.CalledQueues.{queue_memory}
use Rattle.ac_plains.proofs.telling.told_of.Goals as goal

pub returns-in-Queue : goal.returns-in-Queue
returns-in-Queue c =
    c.queue_told.ensures c.in-Queue.queue.tag ∙ ap (λ m. told.told_of (held_in m)) (sym (ap memory_of c.in-Queue.is ∙ queue_memory c.in-Queue.queue))

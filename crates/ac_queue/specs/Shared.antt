-- A queue in memory as the tasks of a block share it.
use Rattle.ac_queue.specs.declared.any_queue.AnyQueue.{AnyQueue}
use Rattle.ac_queue.specs.Kinds.{discipline_of, state_of}
use Rattle.ac_model.specs.Queues.{TaskQueue}

-- a queue in memory, without its spare
abbrev pub shared : AnyQueue → TaskQueue
shared q = record { discipline = discipline_of q; queue = (state_of q).queue }

-- What becomes of a block that is run to its end.
use Rattle.ac_history.specs.Blocks.{Block, IsComplete, SameStart, opening}
use Rattle.ac_history.specs.Histories.{IsLegal}

-- done has the code of start and began with its queues; each entry of its history is a legal step there, in order, with the reply
-- that the queues give at that point; and after it no task has a next step that wouldn't wait
pub record IsRunOf (start done : Block) : Type 0 where
  pub begins : SameStart done start
  pub legal : IsLegal (opening start) done.history
  pub complete : IsComplete done

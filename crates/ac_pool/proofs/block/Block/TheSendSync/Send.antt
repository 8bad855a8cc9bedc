use denote.RattleType.{RattleType}
use denote.Param.Send.{IsSend}
use Rattle.ac_pool.proofs.Crosses.{Block-send}
use Rattle.ac_pool.specs.contracts.block.Block.{the_row}

pub send : (R : RattleType) → IsSend R → IsSend (the_row R)
send = Block-send

use denote.RattleType.{RattleType}
use denote.Param.Send.{IsSync}
use Rattle.ac_pool.proofs.Crosses.{Block-sync}
use Rattle.ac_pool.specs.contracts.block.Block.{the_row}

pub sync : (R : RattleType) → IsSync R → IsSync (the_row R)
sync = Block-sync

use Rattle.ac_meaning.proofs.ExecHolds.{goes_on_holding}
use Rattle.ac_meaning.proofs.HoldsHeads.{declared_holds, heads_hold}
use Rattle.ac_meaning.proofs.HoldsLists.{types_found}
use Rattle.ac_meaning.proofs.law.types_hold.Goals as goal

pub returns-clause-found : goal.returns-clause-found
returns-clause-found c = types_found

pub returns-clause-declared : goal.returns-clause-declared
returns-clause-declared c = declared_holds

pub returns-clause-heads : goal.returns-clause-heads
returns-clause-heads c = heads_hold

pub returns-clause-statements : goal.returns-clause-statements
returns-clause-statements c = goes_on_holding

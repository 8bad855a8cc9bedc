use Rattle.std.proofs.Common.{arith}
use Rattle.ac_balance.proofs.StepBounds.{takes_at_most}
use Rattle.ac_balance.proofs.law.steps_of_searches.Goals as goal

pub returns-clause-thousand : goal.returns-clause-thousand
returns-clause-thousand g c = takes_at_most 1000 19 (omega arith) c

pub returns-clause-many : goal.returns-clause-many
returns-clause-many g c = takes_at_most 200000 35 (omega arith) c

use Rattle.ac_meaning.proofs.AnswersTold.{answers_are_told}
use Rattle.ac_meaning.proofs.ExecValues.{values_go_on}
use Rattle.ac_meaning.proofs.ValueHeads.{values_declared, values_in_blocks}
use Rattle.ac_meaning.proofs.ValuesTaken.{values_found}
use Rattle.ac_meaning.proofs.law.values_hold.Goals as goal

pub returns-clause-found : goal.returns-clause-found
returns-clause-found c = values_found

pub returns-clause-declared : goal.returns-clause-declared
returns-clause-declared c = values_declared

pub returns-clause-heads : goal.returns-clause-heads
returns-clause-heads c = values_in_blocks

pub returns-clause-answers : goal.returns-clause-answers
returns-clause-answers c = answers_are_told

pub returns-clause-statements : goal.returns-clause-statements
returns-clause-statements c = values_go_on

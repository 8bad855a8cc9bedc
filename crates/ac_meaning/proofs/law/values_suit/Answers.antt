use Rattle.ac_meaning.proofs.ValuesTaken.{values_taken}
use Rattle.ac_meaning.proofs.law.values_suit.Goals as goal

pub returns : goal.returns
returns c = values_taken

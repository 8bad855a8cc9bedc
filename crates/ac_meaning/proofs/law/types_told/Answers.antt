use Rattle.ac_meaning.proofs.TypesTold.{type_told}
use Rattle.ac_meaning.proofs.law.types_told.Goals as goal

pub returns : goal.returns
returns c = record { declared = type_told }

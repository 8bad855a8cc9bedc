use Rattle.ac_syntax.proofs.RoundTrip.{canonical_spells}
use Rattle.ac_syntax.proofs.WellFormed.{spelled_well}
use Rattle.ac_syntax.proofs.law.well_formed.Goals as goal

pub returns-clause-spelled : goal.returns-clause-spelled
returns-clause-spelled c = spelled_well

pub returns-clause-again : goal.returns-clause-again
returns-clause-again c = λ script text h. canonical_spells script (spelled_well script text h)

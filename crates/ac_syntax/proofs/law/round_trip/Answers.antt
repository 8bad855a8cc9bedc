use Rattle.ac_syntax.proofs.RoundTrip.{canonical_cut, canonical_spells}
use Rattle.ac_syntax.proofs.law.round_trip.Goals as goal

pub returns-clause-cut : goal.returns-clause-cut
returns-clause-cut c = canonical_cut

pub returns-clause-spelled : goal.returns-clause-spelled
returns-clause-spelled c = canonical_spells

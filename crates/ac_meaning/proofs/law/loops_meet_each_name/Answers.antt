use Rattle.ac_meaning.proofs.Walks.{walks}
use Rattle.ac_meaning.proofs.law.loops_meet_each_name.Goals as goal

pub returns : goal.returns
returns g c = walks

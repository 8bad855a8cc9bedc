use Rattle.ac_script.proofs.Buildings.{tried_adds}
use Rattle.ac_script.proofs.build.Building.attempt.Goals as goal

pub returns : goal.returns
returns c = tried_adds c.args.self.now _ c.args.line c.in_ok-enter.ensures

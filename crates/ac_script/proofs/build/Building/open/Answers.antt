use Rattle.ac_script.proofs.Buildings.{entered_adds}
use Rattle.ac_script.proofs.build.Building.open.Goals as goal

pub returns : goal.returns
returns c = entered_adds c.args.self.now _ c.args.head c.in_ok-enter.ensures

use Rattle.std.proofs.Common.{refl}
use Rattle.ac_syntax.specs.Code.{stop}
use Rattle.ac_script.proofs.Buildings.{ran_adds}
use Rattle.ac_script.proofs.build.Building.run.Goals as goal

pub returns : goal.returns
returns c = λ simple is. ran_adds c.args.self.now _ simple c.args.stmt (is stop) refl refl refl refl c.in_ok-push.ensures.items refl

use Rattle.std.proofs.Common.{refl}
use Rattle.ac_script.proofs.Buildings.{declared_adds}
use Rattle.ac_script.proofs.build.Building.declare.Goals as goal

pub returns : goal.returns
returns c = declared_adds c.args.self.now _ c.args.decl refl refl c.in_ok-push.ensures.items refl refl refl

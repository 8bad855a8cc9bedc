use Rattle.std.proofs.Common.{refl}
use Rattle.ac_script.proofs.Buildings.{pragma_adds}
use Rattle.ac_script.proofs.build.Building.propagate.Goals as goal

pub returns : goal.returns
returns c = pragma_adds c.args.self.now _ c.args.line refl refl refl

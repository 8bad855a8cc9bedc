use Rattle.std.proofs.Common.{refl}
use Rattle.ac_objects.proofs.objects.Objects.enter_stable.Goals as goal

pub returns-clause-opened : goal.returns-clause-opened
returns-clause-opened c h there = let is = c.in_ok-open_stable.ensures.opened h there in (refl, is.0, is.1)

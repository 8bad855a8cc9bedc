use Rattle.ac_base.proofs.Powers.{IsLeastPow8-pow8}
use Rattle.ac_base.proofs.law.growths.Goals as goal

pub returns : goal.returns
returns c = record { least = IsLeastPow8-pow8 }

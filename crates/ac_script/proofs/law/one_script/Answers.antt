use Rattle.ac_script.proofs.Readings.{derived_once}
use Rattle.ac_script.proofs.law.one_script.Goals as goal

pub returns : goal.returns
returns c = derived_once

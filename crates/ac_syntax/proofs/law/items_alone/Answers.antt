use Rattle.ac_syntax.proofs.ItemsAlone.{script_alone}
use Rattle.ac_syntax.proofs.law.items_alone.Goals as goal

pub returns : goal.returns
returns c = script_alone

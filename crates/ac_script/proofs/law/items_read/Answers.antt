use Rattle.ac_script.proofs.ReadsItems.{items_read}
use Rattle.ac_script.proofs.law.items_read.Goals as goal

pub returns : goal.returns
returns c = items_read

use Rattle.ac_snapshot.proofs.RowsPrinted.{lists_as_printed}
use Rattle.ac_snapshot.proofs.law.lists_as_printed.Goals as goal

pub returns : goal.returns
returns c = lists_as_printed

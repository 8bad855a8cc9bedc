use Rattle.ac_snapshot.proofs.Filling.{fill_begins, fill_reserves, fill_puts, fill_ends}
use Rattle.ac_snapshot.proofs.fill_law.objects_fill.Goals as goal

pub returns-clause-begins : goal.returns-clause-begins
returns-clause-begins c = fill_begins

pub returns-clause-reserves : goal.returns-clause-reserves
returns-clause-reserves c = fill_reserves

pub returns-clause-puts : goal.returns-clause-puts
returns-clause-puts c = fill_puts

pub returns-clause-ends : goal.returns-clause-ends
returns-clause-ends c = fill_ends

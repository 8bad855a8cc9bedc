use Rattle.ac_snapshot.proofs.Readings.{reads_written, refuses_unended}
use Rattle.ac_snapshot.proofs.law.states_read.Goals as goal

pub returns-clause-written : goal.returns-clause-written
returns-clause-written c = reads_written

pub returns-clause-unended : goal.returns-clause-unended
returns-clause-unended c = refuses_unended

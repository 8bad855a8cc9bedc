use Rattle.ac_snapshot.proofs.EachReading.{each_reading}
use Rattle.ac_snapshot.proofs.OneReading.{begins_with_one, has_one_reading}
use Rattle.ac_snapshot.proofs.law.one_reading.Goals as goal

pub returns-clause-entry : goal.returns-clause-entry
returns-clause-entry c = begins_with_one

pub returns-clause-state : goal.returns-clause-state
returns-clause-state c = has_one_reading

pub returns-clause-some : goal.returns-clause-some
returns-clause-some c = each_reading

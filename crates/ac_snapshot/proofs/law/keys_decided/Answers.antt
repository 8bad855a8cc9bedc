use Rattle.ac_snapshot.proofs.KeyTests.{keys_decided, ascending_differ}
use Rattle.ac_snapshot.proofs.law.keys_decided.Goals as goal

pub returns-clause-keys : goal.returns-clause-keys
returns-clause-keys g c = keys_decided

pub returns-clause-ascending : goal.returns-clause-ascending
returns-clause-ascending g c = ascending_differ

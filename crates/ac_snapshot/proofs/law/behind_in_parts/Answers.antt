use Rattle.ac_snapshot.proofs.Behind.{behind_in_parts}
use Rattle.ac_snapshot.proofs.law.behind_in_parts.Goals as goal

pub returns : goal.returns
returns c = behind_in_parts

use Rattle.ac_history.proofs.LegalHistories.{legal_append, replay_append}
use Rattle.ac_history.proofs.law.in_parts.Goals as goal

pub returns-clause-legal : goal.returns-clause-legal
returns-clause-legal c = λ start first second. legal_append first second start

pub returns-clause-replayed : goal.returns-clause-replayed
returns-clause-replayed c = λ start first second. replay_append first second start

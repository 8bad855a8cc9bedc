use Rattle.ac_history.proofs.LegalHistories.{from_the_start}
use Rattle.ac_history.proofs.law.every_list_of_turns.Goals as goal

pub returns-clause-legal : goal.returns-clause-legal
returns-clause-legal c = λ start tasks. (from_the_start start tasks).legal

pub returns-clause-replayed : goal.returns-clause-replayed
returns-clause-replayed c = λ start tasks. (from_the_start start tasks).leaves

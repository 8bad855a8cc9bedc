use Rattle.ac_plains.proofs.Ending.{ends_declared}
use Rattle.ac_plains.proofs.SoundStates.{saves_valid}
use Rattle.ac_plains.proofs.state_law.saved_states_valid.Goals as goal

pub returns-clause-valid : goal.returns-clause-valid
returns-clause-valid c = saves_valid

pub returns-clause-declared : goal.returns-clause-declared
returns-clause-declared c = ends_declared

use Rattle.ac_plains.proofs.ResumedStates.{declares_fresh, resumes_from}
use Rattle.ac_plains.proofs.law.states_resume.Goals as goal

pub returns-clause-declared : goal.returns-clause-declared
returns-clause-declared c = declares_fresh

pub returns-clause-resumed : goal.returns-clause-resumed
returns-clause-resumed c = resumes_from

use Rattle.ac_meaning.proofs.ScopesFit.{names_found, declared_fits, heads_fit, goes_on_fitting}
use Rattle.ac_meaning.proofs.law.names_fit.Goals as goal

pub returns-clause-found : goal.returns-clause-found
returns-clause-found c = names_found

pub returns-clause-declared : goal.returns-clause-declared
returns-clause-declared c = declared_fits

pub returns-clause-heads : goal.returns-clause-heads
returns-clause-heads c = heads_fit

pub returns-clause-statements : goal.returns-clause-statements
returns-clause-statements c = goes_on_fitting

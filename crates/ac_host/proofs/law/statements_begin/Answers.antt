use Rattle.ac_host.proofs.Starting.{decls_start, starts_again}
use Rattle.ac_host.proofs.law.statements_begin.Goals as goal

pub returns-clause-declared : goal.returns-clause-declared
returns-clause-declared c = decls_start

pub returns-clause-again : goal.returns-clause-again
returns-clause-again c = starts_again

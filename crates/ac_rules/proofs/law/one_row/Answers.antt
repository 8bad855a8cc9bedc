use Rattle.ac_rules.proofs.Found as found
use Rattle.ac_rules.proofs.law.one_row.Goals as goal

pub returns-clause-one : goal.returns-clause-one
returns-clause-one c = found.one_row

pub returns-clause-found : goal.returns-clause-found
returns-clause-found c = found.finds_row

pub returns-clause-means : goal.returns-clause-means
returns-clause-means c = found.means_one

pub returns-clause-kept : goal.returns-clause-kept
returns-clause-kept c = found.call_kept

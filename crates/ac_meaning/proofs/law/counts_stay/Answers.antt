use Rattle.ac_meaning.proofs.CountsStay.{guards_come_and_go, counts_are_the_guards, parts_under, commands_keep_counts, blocks_keep_counts}
use Rattle.ac_meaning.proofs.UpdatesAlone.{updates_keep_counts}
use Rattle.ac_meaning.proofs.law.counts_stay.Goals as goal

pub returns-clause-guards : goal.returns-clause-guards
returns-clause-guards c = guards_come_and_go

pub returns-clause-counts : goal.returns-clause-counts
returns-clause-counts c = counts_are_the_guards

pub returns-clause-parts : goal.returns-clause-parts
returns-clause-parts c = parts_under

pub returns-clause-commands : goal.returns-clause-commands
returns-clause-commands c = commands_keep_counts

pub returns-clause-blocks : goal.returns-clause-blocks
returns-clause-blocks c = blocks_keep_counts

pub returns-clause-updates : goal.returns-clause-updates
returns-clause-updates c = updates_keep_counts

use Rattle.ac_snapshot.proofs.ValueLaws.{numbers_read, integers_read, texts_read, literals_read}
use Rattle.ac_snapshot.proofs.RowsFit.{rows_read}
use Rattle.ac_snapshot.proofs.LineLaws.{entries_read}
use Rattle.ac_snapshot.proofs.law.values_read.Goals as goal

pub returns-clause-numbers : goal.returns-clause-numbers
returns-clause-numbers c = numbers_read

pub returns-clause-integers : goal.returns-clause-integers
returns-clause-integers c = integers_read

pub returns-clause-texts : goal.returns-clause-texts
returns-clause-texts c = texts_read

pub returns-clause-values : goal.returns-clause-values
returns-clause-values c = literals_read

pub returns-clause-rows : goal.returns-clause-rows
returns-clause-rows c = rows_read

pub returns-clause-entries : goal.returns-clause-entries
returns-clause-entries c = entries_read

use Rattle.ac_model.proofs.RowLaws.{cut_of_put, put_of_cut}
use Rattle.ac_model.proofs.row_laws.cut_and_put.Goals as goal

pub returns-clause-cut_of_put : goal.returns-clause-cut_of_put
returns-clause-cut_of_put g c = cut_of_put

pub returns-clause-put_of_cut : goal.returns-clause-put_of_cut
returns-clause-put_of_cut g c = put_of_cut

use Rattle.ac_model.proofs.KeyedLaws.{each_union, each_intersection, each_difference, each_symmetric_difference}
use Rattle.ac_model.proofs.keyed_validity.set_calls.Goals as goal

pub returns-clause-union : goal.returns-clause-union
returns-clause-union g c = each_union

pub returns-clause-intersection : goal.returns-clause-intersection
returns-clause-intersection g c = each_intersection

pub returns-clause-difference : goal.returns-clause-difference
returns-clause-difference g c = each_difference

pub returns-clause-symmetric_difference : goal.returns-clause-symmetric_difference
returns-clause-symmetric_difference g c = each_symmetric_difference

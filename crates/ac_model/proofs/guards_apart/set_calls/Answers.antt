use Rattle.std.specs.Prelude.{refl}
use Rattle.ac_model.proofs.guards_apart.set_calls.Goals as goal

pub returns-clause-union : goal.returns-clause-union
returns-clause-union g c = λ order. λ source others. ((λ o guards. (refl, refl, refl)), (λ o. refl))

pub returns-clause-intersection : goal.returns-clause-intersection
returns-clause-intersection g c = λ order. λ source others. ((λ o guards. (refl, refl, refl)), (λ o. refl))

pub returns-clause-difference : goal.returns-clause-difference
returns-clause-difference g c = λ order. λ source others. ((λ o guards. (refl, refl, refl)), (λ o. refl))

pub returns-clause-symmetric_difference : goal.returns-clause-symmetric_difference
returns-clause-symmetric_difference g c = λ order. λ source others. ((λ o guards. (refl, refl, refl)), (λ o. refl))

use Rattle.std.specs.Prelude.{refl}
use Rattle.ac_model.proofs.guards_apart.common_calls.Goals as goal

pub returns-clause-clear : goal.returns-clause-clear
returns-clause-clear g c = λ o guards. (refl, refl, refl)

pub returns-clause-assign : goal.returns-clause-assign
returns-clause-assign g c = λ source others. ((λ o guards. (refl, refl, refl)), (λ o. refl))

pub returns-clause-assign_self : goal.returns-clause-assign_self
returns-clause-assign_self g c = λ o guards. (refl, refl, refl)

pub returns-clause-move_from : goal.returns-clause-move_from
returns-clause-move_from g c = λ target source guards others. (refl, refl, refl)

pub returns-clause-move_from_self : goal.returns-clause-move_from_self
returns-clause-move_from_self g c = λ o guards. (refl, refl, refl)

pub returns-clause-reserve_capacity : goal.returns-clause-reserve_capacity
returns-clause-reserve_capacity g c = λ count. λ o guards. (refl, refl, refl)

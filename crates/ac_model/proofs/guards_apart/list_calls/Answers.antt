use Rattle.std.specs.Prelude.{refl}
use Rattle.ac_model.proofs.guards_apart.list_calls.Goals as goal

pub returns-clause-reverse_elements : goal.returns-clause-reverse_elements
returns-clause-reverse_elements g c = λ o guards. (refl, refl, refl)

pub returns-clause-sort : goal.returns-clause-sort
returns-clause-sort g c = λ less. λ o guards. (refl, refl, refl)

pub returns-clause-swap_links : goal.returns-clause-swap_links
returns-clause-swap_links g c = λ first second. λ o guards. (refl, refl, refl)

pub returns-clause-splice : goal.returns-clause-splice
returns-clause-splice g c = λ before. λ target source guards others. (refl, refl, refl)

pub returns-clause-splice_self : goal.returns-clause-splice_self
returns-clause-splice_self g c = λ before. λ o guards. (refl, refl, refl)

pub returns-clause-splice_one : goal.returns-clause-splice_one
returns-clause-splice_one g c = λ before position. λ target source guards others. (refl, refl, refl)

pub returns-clause-splice_within : goal.returns-clause-splice_within
returns-clause-splice_within g c = λ before position. λ o guards. (refl, refl, refl)

pub returns-clause-splice_one_self : goal.returns-clause-splice_one_self
returns-clause-splice_one_self g c = λ before position. λ o guards. (refl, refl, refl)

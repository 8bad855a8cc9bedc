use Rattle.std.specs.Prelude.{refl}
use Rattle.ac_model.proofs.guards_apart.keyed_calls.Goals as goal

pub returns-clause-insert : goal.returns-clause-insert
returns-clause-insert g c = λ order v. λ o guards. (refl, refl, refl)

pub returns-clause-insert_pos : goal.returns-clause-insert_pos
returns-clause-insert_pos g c = λ order v. λ o guards. (refl, refl, refl)

pub returns-clause-include : goal.returns-clause-include
returns-clause-include g c = λ order v. λ o guards. (refl, refl, refl)

pub returns-clause-replace : goal.returns-clause-replace
returns-clause-replace g c = λ tampering order v. λ o guards. (refl, refl, refl)

pub returns-clause-exclude : goal.returns-clause-exclude
returns-clause-exclude g c = λ matches. λ o guards. (refl, refl, refl)

pub returns-clause-delete_match : goal.returns-clause-delete_match
returns-clause-delete_match g c = λ matches. λ o guards. (refl, refl, refl)

pub returns-clause-delete : goal.returns-clause-delete
returns-clause-delete g c = λ position. λ o guards. (refl, refl, refl)

pub returns-clause-replace_element : goal.returns-clause-replace_element
returns-clause-replace_element g c = λ order c v. λ o guards. (refl, refl, refl)

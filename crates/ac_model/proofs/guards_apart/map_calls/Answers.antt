use Rattle.std.specs.Prelude.{refl}
use Rattle.ac_model.proofs.guards_apart.map_calls.Goals as goal

pub returns-clause-replace_element : goal.returns-clause-replace_element
returns-clause-replace_element g clauses = λ c element o guards. (refl, refl, refl)

pub returns-clause-write : goal.returns-clause-write
returns-clause-write g clauses = λ c element o guards. (refl, refl, refl)

pub returns-clause-key_replace : goal.returns-clause-key_replace
returns-clause-key_replace g clauses = λ key keys k element o guards. (refl, refl, refl)

use Rattle.ac_model.proofs.FirstNew.{first_new_apart}
use Rattle.ac_model.specs.Letters.{count_of}
use Rattle.std.specs.Prelude.{refl}
use Rattle.ac_model.proofs.guards_apart.sequence_calls.Goals as goal

pub returns-clause-replace_element : goal.returns-clause-replace_element
returns-clause-replace_element g c = λ c element. λ o guards. (refl, refl, refl)

pub returns-clause-write : goal.returns-clause-write
returns-clause-write g c = λ c element. λ o guards. (refl, refl, refl)

pub returns-clause-append : goal.returns-clause-append
returns-clause-append g c = λ element count. λ o guards. (refl, refl, refl)

pub returns-clause-prepend : goal.returns-clause-prepend
returns-clause-prepend g c = λ element count. λ o guards. (refl, refl, refl)

pub returns-clause-insert : goal.returns-clause-insert
returns-clause-insert g c = λ before element count. λ o guards. (refl, refl, refl)

pub returns-clause-delete : goal.returns-clause-delete
returns-clause-delete g c = λ position count. λ o guards. (refl, refl, refl)

pub returns-clause-delete_first : goal.returns-clause-delete_first
returns-clause-delete_first g c = λ count. λ o guards. (refl, refl, refl)

pub returns-clause-delete_last : goal.returns-clause-delete_last
returns-clause-delete_last g c = λ count. λ o guards. (refl, refl, refl)

pub returns-clause-swap : goal.returns-clause-swap
returns-clause-swap g c = λ first second. λ o guards. (refl, refl, refl)

pub returns-clause-merge : goal.returns-clause-merge
returns-clause-merge g c = λ less. λ target source guards others. (refl, refl, refl)

pub returns-clause-merge_self : goal.returns-clause-merge_self
returns-clause-merge_self g c = λ o guards. (refl, refl, refl)

pub returns-clause-insert_pos : goal.returns-clause-insert_pos
returns-clause-insert_pos g c = λ before element count o guards. (refl, first_new_apart o guards before (count_of count), refl)

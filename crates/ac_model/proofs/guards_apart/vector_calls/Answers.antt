use Rattle.ac_model.proofs.FirstNew.{first_new_apart}
use Rattle.ac_model.specs.Objects.{length_of}
use Rattle.std.specs.Prelude.{refl}
use Rattle.ac_model.proofs.guards_apart.vector_calls.Goals as goal

pub returns-clause-reverse_elements : goal.returns-clause-reverse_elements
returns-clause-reverse_elements g c = λ o guards. (refl, refl, refl)

pub returns-clause-sort : goal.returns-clause-sort
returns-clause-sort g c = λ less. λ o guards. (refl, refl, refl)

pub returns-clause-set_length : goal.returns-clause-set_length
returns-clause-set_length g c = λ blank count. λ o guards. (refl, refl, refl)

pub returns-clause-replace_index : goal.returns-clause-replace_index
returns-clause-replace_index g c = λ index element. λ o guards. (refl, refl, refl)

pub returns-clause-swap_index : goal.returns-clause-swap_index
returns-clause-swap_index g c = λ first second. λ o guards. (refl, refl, refl)

pub returns-clause-insert_index : goal.returns-clause-insert_index
returns-clause-insert_index g c = λ index element count. λ o guards. (refl, refl, refl)

pub returns-clause-insert_vector_index : goal.returns-clause-insert_vector_index
returns-clause-insert_vector_index g c = λ index. λ source others. ((λ o guards. (refl, refl, refl)), (λ o. refl))

pub returns-clause-insert_vector : goal.returns-clause-insert_vector
returns-clause-insert_vector g c = λ before. λ source others. ((λ o guards. (refl, refl, refl)), (λ o. refl))

pub returns-clause-append_vector : goal.returns-clause-append_vector
returns-clause-append_vector g c = λ source others. ((λ o guards. (refl, refl, refl)), (λ o. refl))

pub returns-clause-prepend_vector : goal.returns-clause-prepend_vector
returns-clause-prepend_vector g c = λ source others. ((λ o guards. (refl, refl, refl)), (λ o. refl))

pub returns-clause-delete_index : goal.returns-clause-delete_index
returns-clause-delete_index g c = λ index count. λ o guards. (refl, refl, refl)

pub returns-clause-insert_vector_pos : goal.returns-clause-insert_vector_pos
returns-clause-insert_vector_pos g c = λ before source others. ((λ o guards. (refl, first_new_apart o guards before (length_of source), refl)), (λ o. refl))

use Rattle.ac_model.proofs.VectorsKept.{reverse_elements_keeps, sort_keeps, set_length_keeps, replace_index_keeps, swap_index_keeps, insert_index_keeps, insert_vector_index_keeps, insert_vector_keeps, insert_vector_pos_keeps, append_vector_keeps, prepend_vector_keeps, delete_index_keeps}
use Rattle.ac_model.proofs.validity.vector_calls.Goals as goal

pub returns-clause-reverse_elements : goal.returns-clause-reverse_elements
returns-clause-reverse_elements g c = reverse_elements_keeps

pub returns-clause-sort : goal.returns-clause-sort
returns-clause-sort g c = sort_keeps

pub returns-clause-set_length : goal.returns-clause-set_length
returns-clause-set_length g c = set_length_keeps

pub returns-clause-replace_index : goal.returns-clause-replace_index
returns-clause-replace_index g c = replace_index_keeps

pub returns-clause-swap_index : goal.returns-clause-swap_index
returns-clause-swap_index g c = swap_index_keeps

pub returns-clause-insert_index : goal.returns-clause-insert_index
returns-clause-insert_index g c = insert_index_keeps

pub returns-clause-insert_vector_index : goal.returns-clause-insert_vector_index
returns-clause-insert_vector_index g c = insert_vector_index_keeps

pub returns-clause-insert_vector : goal.returns-clause-insert_vector
returns-clause-insert_vector g c = insert_vector_keeps

pub returns-clause-insert_vector_pos : goal.returns-clause-insert_vector_pos
returns-clause-insert_vector_pos g c = insert_vector_pos_keeps

pub returns-clause-append_vector : goal.returns-clause-append_vector
returns-clause-append_vector g c = append_vector_keeps

pub returns-clause-prepend_vector : goal.returns-clause-prepend_vector
returns-clause-prepend_vector g c = prepend_vector_keeps

pub returns-clause-delete_index : goal.returns-clause-delete_index
returns-clause-delete_index g c = delete_index_keeps

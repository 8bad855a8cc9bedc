use Rattle.ac_model.proofs.SequencesKept.{replace_element_keeps, write_keeps, append_keeps, prepend_keeps, insert_keeps, insert_pos_keeps, delete_keeps, delete_first_keeps, delete_last_keeps, swap_keeps, merge_keeps}
use Rattle.ac_model.proofs.validity.sequence_calls.Goals as goal

pub returns-clause-replace_element : goal.returns-clause-replace_element
returns-clause-replace_element g c = replace_element_keeps

pub returns-clause-write : goal.returns-clause-write
returns-clause-write g c = write_keeps

pub returns-clause-append : goal.returns-clause-append
returns-clause-append g c = append_keeps

pub returns-clause-prepend : goal.returns-clause-prepend
returns-clause-prepend g c = prepend_keeps

pub returns-clause-insert : goal.returns-clause-insert
returns-clause-insert g c = insert_keeps

pub returns-clause-insert_pos : goal.returns-clause-insert_pos
returns-clause-insert_pos g c = insert_pos_keeps

pub returns-clause-delete : goal.returns-clause-delete
returns-clause-delete g c = delete_keeps

pub returns-clause-delete_first : goal.returns-clause-delete_first
returns-clause-delete_first g c = delete_first_keeps

pub returns-clause-delete_last : goal.returns-clause-delete_last
returns-clause-delete_last g c = delete_last_keeps

pub returns-clause-swap : goal.returns-clause-swap
returns-clause-swap g c = swap_keeps

pub returns-clause-merge : goal.returns-clause-merge
returns-clause-merge g c = merge_keeps

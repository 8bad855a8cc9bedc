use Rattle.ac_model.proofs.HoldersAndQueues.{replace_element_keeps, write_keeps, clear_keeps, assign_keeps, move_from_keeps, swap_keeps}
use Rattle.ac_model.proofs.plain_validity.holder_calls.Goals as goal

pub returns-clause-replace_element : goal.returns-clause-replace_element
returns-clause-replace_element g c = replace_element_keeps

pub returns-clause-write : goal.returns-clause-write
returns-clause-write g c = write_keeps

pub returns-clause-clear : goal.returns-clause-clear
returns-clause-clear g c = clear_keeps

pub returns-clause-assign : goal.returns-clause-assign
returns-clause-assign g c = assign_keeps

pub returns-clause-move_from : goal.returns-clause-move_from
returns-clause-move_from g c = move_from_keeps

pub returns-clause-swap : goal.returns-clause-swap
returns-clause-swap g c = swap_keeps

use Rattle.ac_model.proofs.SequencesKept.{clear_keeps, assign_keeps, move_from_keeps, reserve_capacity_keeps}
use Rattle.ac_model.proofs.validity.common_calls.Goals as goal

pub returns-clause-clear : goal.returns-clause-clear
returns-clause-clear g c = clear_keeps

pub returns-clause-assign : goal.returns-clause-assign
returns-clause-assign g c = assign_keeps

pub returns-clause-move_from : goal.returns-clause-move_from
returns-clause-move_from g c = move_from_keeps

pub returns-clause-reserve_capacity : goal.returns-clause-reserve_capacity
returns-clause-reserve_capacity g c = reserve_capacity_keeps

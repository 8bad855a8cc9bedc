use Rattle.ac_model.proofs.FirstValid.{empty_is_valid}
use Rattle.ac_model.proofs.Capacity.{nothing_refused, nothing_grown}
use Rattle.ac_model.proofs.validity.first_objects.Goals as goal

pub returns-clause-empty : goal.returns-clause-empty
returns-clause-empty g c = empty_is_valid

pub returns-clause-nothing_refused : goal.returns-clause-nothing_refused
returns-clause-nothing_refused g c = nothing_refused

pub returns-clause-nothing_grown : goal.returns-clause-nothing_grown
returns-clause-nothing_grown g c = nothing_grown

use Rattle.ac_model.proofs.KeyedLaws.{hashed_replace_element_keeps, ordered_replace_element_keeps, hashed_write_keeps, ordered_write_keeps}
use Rattle.ac_model.proofs.keyed_validity.map_calls.Goals as goal

pub returns-clause-hashed_replace_element : goal.returns-clause-hashed_replace_element
returns-clause-hashed_replace_element g c = hashed_replace_element_keeps

pub returns-clause-ordered_replace_element : goal.returns-clause-ordered_replace_element
returns-clause-ordered_replace_element g c = ordered_replace_element_keeps

pub returns-clause-hashed_write : goal.returns-clause-hashed_write
returns-clause-hashed_write g c = hashed_write_keeps

pub returns-clause-ordered_write : goal.returns-clause-ordered_write
returns-clause-ordered_write g c = ordered_write_keeps

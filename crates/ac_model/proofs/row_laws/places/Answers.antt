use Rattle.ac_model.proofs.RowLaws.{at_its_place, found_matches, none_matches}
use Rattle.ac_model.proofs.row_laws.places.Goals as goal

pub returns-clause-at_its_place : goal.returns-clause-at_its_place
returns-clause-at_its_place g c = at_its_place

pub returns-clause-found_matches : goal.returns-clause-found_matches
returns-clause-found_matches g c = found_matches

pub returns-clause-none_matches : goal.returns-clause-none_matches
returns-clause-none_matches g c = none_matches

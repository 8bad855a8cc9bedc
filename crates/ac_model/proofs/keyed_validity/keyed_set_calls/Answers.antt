use Rattle.ac_model.proofs.KeyedLaws.{hashed_key_replace_keeps, ordered_key_replace_keeps, hashed_update_keeps, ordered_update_keeps}
use Rattle.ac_model.proofs.keyed_validity.keyed_set_calls.Goals as goal

pub returns-clause-hashed_key_replace : goal.returns-clause-hashed_key_replace
returns-clause-hashed_key_replace g c = hashed_key_replace_keeps

pub returns-clause-ordered_key_replace : goal.returns-clause-ordered_key_replace
returns-clause-ordered_key_replace g c = ordered_key_replace_keeps

pub returns-clause-hashed_update : goal.returns-clause-hashed_update
returns-clause-hashed_update g c = hashed_update_keeps

pub returns-clause-ordered_update : goal.returns-clause-ordered_update
returns-clause-ordered_update g c = ordered_update_keeps

use Rattle.ac_rules.proofs.NamePlaces.{place_found, place_below, place_stays, place_new}
use Rattle.ac_rules.proofs.law.places.Goals as goal

pub returns-clause-found : goal.returns-clause-found
returns-clause-found c = place_found

pub returns-clause-below : goal.returns-clause-below
returns-clause-below c = place_below

pub returns-clause-stays : goal.returns-clause-stays
returns-clause-stays c = place_stays

pub returns-clause-new : goal.returns-clause-new
returns-clause-new c = place_new

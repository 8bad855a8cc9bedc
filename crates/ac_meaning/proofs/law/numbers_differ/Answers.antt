use Rattle.ac_meaning.proofs.NextRises.{next_rises}
use Rattle.ac_meaning.proofs.NewObjects.{new_objects_are_unguarded}
use Rattle.ac_meaning.proofs.OnePlace.{guards_are_on_one_object}
use Rattle.ac_meaning.proofs.NumbersApart.{numbers_tell, numbers_go_on}
use Rattle.ac_meaning.proofs.law.numbers_differ.Goals as goal

pub returns-clause-tell : goal.returns-clause-tell
returns-clause-tell c = numbers_tell

pub returns-clause-statements : goal.returns-clause-statements
returns-clause-statements c = numbers_go_on

pub returns-clause-next : goal.returns-clause-next
returns-clause-next c = next_rises

pub returns-clause-guards : goal.returns-clause-guards
returns-clause-guards c = new_objects_are_unguarded

pub returns-clause-places : goal.returns-clause-places
returns-clause-places c = guards_are_on_one_object

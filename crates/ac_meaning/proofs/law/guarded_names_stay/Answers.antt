use Rattle.ac_meaning.proofs.UpdatesAlone.{updates_are_alone}
use Rattle.ac_meaning.proofs.ExecKeeps.{resolved_keeps, exec_keeps}
use Rattle.ac_meaning.proofs.GuardedGoesOn.{guarded_stays, designated_stays, elements_stay, views_guard_elements, blocks_guard, turns_keep_names}
use Rattle.ac_meaning.proofs.law.guarded_names_stay.Goals as goal

pub returns-clause-resolved : goal.returns-clause-resolved
returns-clause-resolved c = resolved_keeps

pub returns-clause-statements : goal.returns-clause-statements
returns-clause-statements c = exec_keeps

pub returns-clause-objects : goal.returns-clause-objects
returns-clause-objects c = guarded_stays

pub returns-clause-designated : goal.returns-clause-designated
returns-clause-designated c = designated_stays

pub returns-clause-blocks : goal.returns-clause-blocks
returns-clause-blocks c = blocks_guard

pub returns-clause-turns : goal.returns-clause-turns
returns-clause-turns c = turns_keep_names

pub returns-clause-updates : goal.returns-clause-updates
returns-clause-updates c = updates_are_alone

pub returns-clause-elements : goal.returns-clause-elements
returns-clause-elements c = elements_stay

pub returns-clause-views : goal.returns-clause-views
returns-clause-views c = views_guard_elements

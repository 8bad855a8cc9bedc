use Rattle.ac_model.proofs.ListsKept.{reverse_elements_keeps, sort_keeps, swap_links_keeps, splice_keeps, splice_one_keeps, splice_within_keeps, splice_one_self_keeps}
use Rattle.ac_model.proofs.validity.list_calls.Goals as goal

pub returns-clause-reverse_elements : goal.returns-clause-reverse_elements
returns-clause-reverse_elements g c = reverse_elements_keeps

pub returns-clause-sort : goal.returns-clause-sort
returns-clause-sort g c = sort_keeps

pub returns-clause-swap_links : goal.returns-clause-swap_links
returns-clause-swap_links g c = swap_links_keeps

pub returns-clause-splice : goal.returns-clause-splice
returns-clause-splice g c = splice_keeps

pub returns-clause-splice_one : goal.returns-clause-splice_one
returns-clause-splice_one g c = splice_one_keeps

pub returns-clause-splice_within : goal.returns-clause-splice_within
returns-clause-splice_within g c = splice_within_keeps

pub returns-clause-splice_one_self : goal.returns-clause-splice_one_self
returns-clause-splice_one_self g c = splice_one_self_keeps

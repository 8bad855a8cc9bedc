use Rattle.ac_model.proofs.TreeWithin.{splice_subtree_keeps, splice_subtree_from_self_keeps, splice_children_keeps}
use Rattle.ac_model.proofs.tree_validity.splices_within.Goals as goal

pub returns-clause-splice_subtree : goal.returns-clause-splice_subtree
returns-clause-splice_subtree g c = splice_subtree_keeps

pub returns-clause-splice_subtree_from_self : goal.returns-clause-splice_subtree_from_self
returns-clause-splice_subtree_from_self g c = splice_subtree_from_self_keeps

pub returns-clause-splice_children : goal.returns-clause-splice_children
returns-clause-splice_children g c = splice_children_keeps

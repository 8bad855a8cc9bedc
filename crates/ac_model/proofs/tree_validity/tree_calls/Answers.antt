use Rattle.ac_model.proofs.TreeLaws.{clear_keeps, assign_keeps, move_from_keeps, replace_element_keeps, write_keeps, swap_keeps, insert_child_keeps, insert_child_pos_keeps, append_child_keeps, prepend_child_keeps, delete_leaf_keeps, delete_subtree_keeps, delete_children_keeps, copy_subtree_keeps, splice_subtree_from_keeps, splice_children_from_keeps}
use Rattle.ac_model.proofs.tree_validity.tree_calls.Goals as goal

pub returns-clause-clear : goal.returns-clause-clear
returns-clause-clear g c = clear_keeps

pub returns-clause-assign : goal.returns-clause-assign
returns-clause-assign g c = assign_keeps

pub returns-clause-move_from : goal.returns-clause-move_from
returns-clause-move_from g c = move_from_keeps

pub returns-clause-replace_element : goal.returns-clause-replace_element
returns-clause-replace_element g c = replace_element_keeps

pub returns-clause-write : goal.returns-clause-write
returns-clause-write g c = write_keeps

pub returns-clause-swap : goal.returns-clause-swap
returns-clause-swap g c = swap_keeps

pub returns-clause-insert_child : goal.returns-clause-insert_child
returns-clause-insert_child g c = insert_child_keeps

pub returns-clause-insert_child_pos : goal.returns-clause-insert_child_pos
returns-clause-insert_child_pos g c = insert_child_pos_keeps

pub returns-clause-append_child : goal.returns-clause-append_child
returns-clause-append_child g c = append_child_keeps

pub returns-clause-prepend_child : goal.returns-clause-prepend_child
returns-clause-prepend_child g c = prepend_child_keeps

pub returns-clause-delete_leaf : goal.returns-clause-delete_leaf
returns-clause-delete_leaf g c = delete_leaf_keeps

pub returns-clause-delete_subtree : goal.returns-clause-delete_subtree
returns-clause-delete_subtree g c = delete_subtree_keeps

pub returns-clause-delete_children : goal.returns-clause-delete_children
returns-clause-delete_children g c = delete_children_keeps

pub returns-clause-copy_subtree : goal.returns-clause-copy_subtree
returns-clause-copy_subtree g c = copy_subtree_keeps

pub returns-clause-splice_subtree_from : goal.returns-clause-splice_subtree_from
returns-clause-splice_subtree_from g c = splice_subtree_from_keeps

pub returns-clause-splice_children_from : goal.returns-clause-splice_children_from
returns-clause-splice_children_from g c = splice_children_from_keeps

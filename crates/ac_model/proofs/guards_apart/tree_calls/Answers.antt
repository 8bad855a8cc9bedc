use Rattle.ac_model.proofs.FirstNew.{first_new_apart}
use Rattle.ac_model.specs.Letters.{count_of}
use Rattle.std.specs.Prelude.{refl}
use Rattle.ac_model.proofs.guards_apart.tree_calls.Goals as goal

pub returns-clause-replace_element : goal.returns-clause-replace_element
returns-clause-replace_element g c = λ c element. λ o guards. (refl, refl, refl)

pub returns-clause-write : goal.returns-clause-write
returns-clause-write g c = λ c element. λ o guards. (refl, refl, refl)

pub returns-clause-swap : goal.returns-clause-swap
returns-clause-swap g c = λ first second. λ o guards. (refl, refl, refl)

pub returns-clause-insert_child : goal.returns-clause-insert_child
returns-clause-insert_child g c = λ parent before element count. λ o guards. (refl, refl, refl)

pub returns-clause-append_child : goal.returns-clause-append_child
returns-clause-append_child g c = λ parent element count. λ o guards. (refl, refl, refl)

pub returns-clause-prepend_child : goal.returns-clause-prepend_child
returns-clause-prepend_child g c = λ parent element count. λ o guards. (refl, refl, refl)

pub returns-clause-delete_leaf : goal.returns-clause-delete_leaf
returns-clause-delete_leaf g c = λ position. λ o guards. (refl, refl, refl)

pub returns-clause-delete_subtree : goal.returns-clause-delete_subtree
returns-clause-delete_subtree g c = λ position. λ o guards. (refl, refl, refl)

pub returns-clause-delete_children : goal.returns-clause-delete_children
returns-clause-delete_children g c = λ parent. λ o guards. (refl, refl, refl)

pub returns-clause-copy_subtree : goal.returns-clause-copy_subtree
returns-clause-copy_subtree g c = λ parent before top. λ source others. ((λ o guards. (refl, refl, refl)), (λ o. refl))

pub returns-clause-splice_subtree_from : goal.returns-clause-splice_subtree_from
returns-clause-splice_subtree_from g c = λ parent before top. λ target source guards others. (refl, refl, refl)

pub returns-clause-splice_subtree : goal.returns-clause-splice_subtree
returns-clause-splice_subtree g c = λ parent before top. λ o guards. (refl, refl, refl)

pub returns-clause-splice_subtree_from_self : goal.returns-clause-splice_subtree_from_self
returns-clause-splice_subtree_from_self g c = λ parent before top. λ o guards. (refl, refl, refl)

pub returns-clause-splice_children_from : goal.returns-clause-splice_children_from
returns-clause-splice_children_from g c = λ parent before source_parent. λ target source guards others. (refl, refl, refl)

pub returns-clause-splice_children : goal.returns-clause-splice_children
returns-clause-splice_children g c = λ parent before source_parent. λ o guards. (refl, refl, refl)

pub returns-clause-insert_child_pos : goal.returns-clause-insert_child_pos
returns-clause-insert_child_pos g c = λ parent before element count o guards. (refl, first_new_apart o guards before (count_of count), refl)

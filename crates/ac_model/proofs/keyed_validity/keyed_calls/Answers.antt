use Rattle.ac_model.proofs.KeyedLaws.{each_clear, each_assign, each_move_from, each_insert, each_insert_pos, each_include, each_replace, each_exclude, each_delete_match, each_delete, each_replace_element, each_delete_first, each_delete_last}
use Rattle.ac_model.proofs.keyed_validity.keyed_calls.Goals as goal

pub returns-clause-clear : goal.returns-clause-clear
returns-clause-clear g c = each_clear

pub returns-clause-assign : goal.returns-clause-assign
returns-clause-assign g c = each_assign

pub returns-clause-move_from : goal.returns-clause-move_from
returns-clause-move_from g c = each_move_from

pub returns-clause-insert : goal.returns-clause-insert
returns-clause-insert g c = each_insert

pub returns-clause-insert_pos : goal.returns-clause-insert_pos
returns-clause-insert_pos g c = each_insert_pos

pub returns-clause-include : goal.returns-clause-include
returns-clause-include g c = each_include

pub returns-clause-replace : goal.returns-clause-replace
returns-clause-replace g c = each_replace

pub returns-clause-exclude : goal.returns-clause-exclude
returns-clause-exclude g c = each_exclude

pub returns-clause-delete_match : goal.returns-clause-delete_match
returns-clause-delete_match g c = each_delete_match

pub returns-clause-delete : goal.returns-clause-delete
returns-clause-delete g c = each_delete

pub returns-clause-replace_element : goal.returns-clause-replace_element
returns-clause-replace_element g c = each_replace_element

pub returns-clause-delete_first : goal.returns-clause-delete_first
returns-clause-delete_first g c = each_delete_first

pub returns-clause-delete_last : goal.returns-clause-delete_last
returns-clause-delete_last g c = each_delete_last

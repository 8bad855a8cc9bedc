use Rattle.std.proofs.Common.{refl}
use Rattle.ac_rules.specs.Table.{rows_of, common_rows, counted_rows, sequence_rows, capacity_rows, vector_rows, list_rows, keyed_walk_rows, map_rows, set_rows, keyed_rows, ordered_keyed_rows, ordered_rows, ordered_map_rows, ordered_set_rows, tree_rows, tree_change_rows, queue_rows}
use Rattle.ac_rules.proofs.examples.command_examples.Goals as goal

pub returns-clause-takes_elements : goal.returns-clause-takes_elements
unfolding rows_of common_rows counted_rows sequence_rows list_rows
returns-clause-takes_elements c = refl

pub returns-clause-counts_arguments : goal.returns-clause-counts_arguments
unfolding rows_of common_rows counted_rows sequence_rows list_rows
returns-clause-counts_arguments c = refl

pub returns-clause-splices_of_one_type : goal.returns-clause-splices_of_one_type
unfolding rows_of common_rows counted_rows sequence_rows list_rows
returns-clause-splices_of_one_type c = refl

pub returns-clause-takes_cursors : goal.returns-clause-takes_cursors
unfolding rows_of common_rows counted_rows sequence_rows list_rows
returns-clause-takes_cursors c = refl

pub returns-clause-takes_answers : goal.returns-clause-takes_answers
unfolding rows_of common_rows counted_rows sequence_rows list_rows
returns-clause-takes_answers c = refl

pub returns-clause-sums_integers : goal.returns-clause-sums_integers
returns-clause-sums_integers c = refl

pub returns-clause-calls_by_kind : goal.returns-clause-calls_by_kind
unfolding rows_of common_rows counted_rows sequence_rows capacity_rows vector_rows list_rows keyed_walk_rows map_rows set_rows keyed_rows ordered_keyed_rows ordered_rows ordered_map_rows ordered_set_rows tree_rows tree_change_rows queue_rows
returns-clause-calls_by_kind c = refl

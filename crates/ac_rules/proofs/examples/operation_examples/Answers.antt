use Rattle.std.proofs.Common.{refl}
use Rattle.ac_rules.specs.Table.{rows_of, common_rows, counted_rows, sequence_rows, capacity_rows, vector_rows, list_rows, keyed_walk_rows, map_rows, set_rows, keyed_rows, ordered_keyed_rows, ordered_rows, ordered_map_rows, ordered_set_rows, tree_rows, tree_change_rows, queue_rows}
use Rattle.ac_rules.proofs.examples.operation_examples.Goals as goal

pub returns-clause-by_arguments : goal.returns-clause-by_arguments
unfolding rows_of common_rows counted_rows sequence_rows list_rows
returns-clause-by_arguments c = refl

pub returns-clause-by_kind : goal.returns-clause-by_kind
unfolding rows_of common_rows counted_rows sequence_rows capacity_rows vector_rows list_rows keyed_walk_rows map_rows set_rows keyed_rows ordered_keyed_rows ordered_rows ordered_map_rows ordered_set_rows queue_rows
returns-clause-by_kind c = refl

pub returns-clause-trees : goal.returns-clause-trees
unfolding rows_of common_rows tree_rows tree_change_rows
returns-clause-trees c = refl

use Rattle.std.proofs.Common.{refl}
use Rattle.std.specs.Fmt.{digits}
use Rattle.ac_base.specs.Growth.{pow8}
use Rattle.ac_rules.specs.Table.{capacity_rows, common_rows, counted_rows, holder_rows, keyed_rows, keyed_walk_rows, list_rows, map_rows, ordered_keyed_rows, ordered_map_rows, ordered_rows, ordered_set_rows, priority_queue_rows, queue_rows, rows_of, sequence_rows, set_rows, tree_change_rows, tree_rows, vector_rows}
use Rattle.ac_rules.specs.Resolved.{resolve_simple}
use Rattle.ac_meaning.specs.Execution.{run, run_with}
use Rattle.ac_meaning.proofs.examples.plain_values.Goals as goal

pub returns-clause-vectors_are_plain : goal.returns-clause-vectors_are_plain
unfolding digits pow8 rows_of common_rows counted_rows sequence_rows vector_rows capacity_rows resolve_simple run run_with
returns-clause-vectors_are_plain c = (refl, refl)

pub returns-clause-lists_are_plain : goal.returns-clause-lists_are_plain
unfolding digits rows_of common_rows counted_rows sequence_rows list_rows resolve_simple run run_with
returns-clause-lists_are_plain c = refl

pub returns-clause-maps_are_plain : goal.returns-clause-maps_are_plain
unfolding digits pow8 rows_of common_rows counted_rows capacity_rows keyed_walk_rows map_rows ordered_rows ordered_map_rows resolve_simple run run_with
returns-clause-maps_are_plain c = (refl, refl)

pub returns-clause-sets_are_plain : goal.returns-clause-sets_are_plain
unfolding digits pow8 rows_of common_rows counted_rows capacity_rows keyed_walk_rows set_rows keyed_rows ordered_keyed_rows ordered_rows ordered_set_rows resolve_simple run run_with
returns-clause-sets_are_plain c = (refl, refl)

pub returns-clause-trees_are_plain : goal.returns-clause-trees_are_plain
unfolding digits rows_of common_rows tree_rows tree_change_rows resolve_simple run run_with
returns-clause-trees_are_plain c = refl

pub returns-clause-holders_are_plain : goal.returns-clause-holders_are_plain
unfolding digits rows_of holder_rows resolve_simple run run_with
returns-clause-holders_are_plain c = (refl, refl)

pub returns-clause-queues_are_plain : goal.returns-clause-queues_are_plain
unfolding digits rows_of queue_rows priority_queue_rows resolve_simple run run_with
returns-clause-queues_are_plain c = (refl, refl)

pub returns-clause-variables_are_plain : goal.returns-clause-variables_are_plain
unfolding digits resolve_simple run run_with
returns-clause-variables_are_plain c = refl

use Rattle.std.proofs.Common.{refl}
use Rattle.std.specs.Fmt.{digits}
use Rattle.ac_base.specs.Growth.{pow8}
use Rattle.ac_rules.specs.Table.{rows_of, common_rows, counted_rows, capacity_rows, keyed_walk_rows, map_rows, set_rows, ordered_rows, ordered_map_rows, ordered_set_rows}
use Rattle.ac_rules.specs.Resolved.{resolve_simple}
use Rattle.ac_meaning.specs.Execution.{run, run_with, text_of}
use Rattle.ac_meaning.proofs.examples.keyed_calls.Goals as goal

pub returns-clause-maps_are_walked : goal.returns-clause-maps_are_walked
unfolding digits pow8 rows_of common_rows counted_rows capacity_rows keyed_walk_rows map_rows resolve_simple run run_with text_of
returns-clause-maps_are_walked c = refl

pub returns-clause-sets_are_walked : goal.returns-clause-sets_are_walked
unfolding digits rows_of common_rows counted_rows keyed_walk_rows set_rows ordered_rows ordered_set_rows resolve_simple run run_with text_of
returns-clause-sets_are_walked c = refl

pub returns-clause-elements_are_found : goal.returns-clause-elements_are_found
unfolding digits pow8 rows_of common_rows counted_rows capacity_rows keyed_walk_rows set_rows resolve_simple run run_with text_of
returns-clause-elements_are_found c = refl

pub returns-clause-maps_are_searched : goal.returns-clause-maps_are_searched
unfolding digits rows_of common_rows counted_rows keyed_walk_rows map_rows ordered_rows ordered_map_rows resolve_simple run run_with text_of
returns-clause-maps_are_searched c = refl

pub returns-clause-ordered_sets_have_ends : goal.returns-clause-ordered_sets_have_ends
unfolding digits rows_of common_rows counted_rows keyed_walk_rows set_rows ordered_rows ordered_set_rows resolve_simple run run_with text_of
returns-clause-ordered_sets_have_ends c = refl

pub returns-clause-sets_are_subtracted : goal.returns-clause-sets_are_subtracted
unfolding digits pow8 rows_of common_rows counted_rows capacity_rows keyed_walk_rows set_rows resolve_simple run run_with text_of
returns-clause-sets_are_subtracted c = refl

pub returns-clause-hashed_have_capacity : goal.returns-clause-hashed_have_capacity
unfolding digits pow8 rows_of common_rows counted_rows capacity_rows keyed_walk_rows map_rows set_rows resolve_simple run run_with text_of
returns-clause-hashed_have_capacity c = refl

pub returns-clause-maps_lend_elements : goal.returns-clause-maps_lend_elements
unfolding digits rows_of common_rows counted_rows keyed_walk_rows map_rows ordered_rows ordered_map_rows resolve_simple run run_with text_of
returns-clause-maps_lend_elements c = refl

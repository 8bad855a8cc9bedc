use Rattle.std.proofs.Common.{refl}
use Rattle.std.specs.Fmt.{digits}
use Rattle.ac_base.specs.Growth.{pow8}
use Rattle.ac_rules.specs.Table.{rows_of, common_rows, counted_rows, capacity_rows, keyed_walk_rows, set_rows, keyed_rows, ordered_keyed_rows, ordered_rows, ordered_set_rows}
use Rattle.ac_rules.specs.Resolved.{resolve_simple}
use Rattle.ac_meaning.specs.Execution.{run, run_with, text_of}
use Rattle.ac_meaning.proofs.examples.keyed_set_scripts.Goals as goal

pub returns-clause-keys_are_updated : goal.returns-clause-keys_are_updated
unfolding digits rows_of common_rows counted_rows keyed_walk_rows set_rows keyed_rows ordered_keyed_rows ordered_rows ordered_set_rows resolve_simple run run_with text_of
returns-clause-keys_are_updated c = refl

pub returns-clause-keys_tell_elements : goal.returns-clause-keys_tell_elements
unfolding digits pow8 rows_of common_rows counted_rows capacity_rows keyed_walk_rows set_rows keyed_rows resolve_simple run run_with text_of
returns-clause-keys_tell_elements c = refl

pub returns-clause-keys_are_joined : goal.returns-clause-keys_are_joined
unfolding digits pow8 rows_of common_rows counted_rows capacity_rows keyed_walk_rows set_rows keyed_rows resolve_simple run run_with text_of
returns-clause-keys_are_joined c = refl

pub returns-clause-keys_are_replaced : goal.returns-clause-keys_are_replaced
unfolding digits rows_of common_rows counted_rows keyed_walk_rows set_rows keyed_rows ordered_keyed_rows ordered_rows ordered_set_rows resolve_simple run run_with text_of
returns-clause-keys_are_replaced c = refl

pub returns-clause-keys_are_looked_up : goal.returns-clause-keys_are_looked_up
unfolding digits rows_of common_rows counted_rows keyed_walk_rows set_rows keyed_rows ordered_keyed_rows ordered_rows ordered_set_rows resolve_simple run run_with text_of
returns-clause-keys_are_looked_up c = refl

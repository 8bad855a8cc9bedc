use Rattle.std.proofs.Common.{refl}
use Rattle.std.specs.Fmt.{digits}
use Rattle.ac_rules.specs.Table.{rows_of, common_rows, counted_rows, sequence_rows, list_rows, keyed_walk_rows, set_rows, keyed_rows, ordered_keyed_rows, ordered_rows, ordered_set_rows, queue_rows}
use Rattle.ac_rules.specs.Resolved.{resolve_simple}
use Rattle.ac_meaning.specs.Execution.{run_with, run, text_of}
use Rattle.ac_meaning.proofs.examples.propagation.Goals as goal

pub returns-clause-loop_is_left : goal.returns-clause-loop_is_left
unfolding text_of run run_with digits rows_of common_rows counted_rows sequence_rows list_rows keyed_walk_rows set_rows keyed_rows ordered_keyed_rows ordered_rows ordered_set_rows queue_rows resolve_simple
returns-clause-loop_is_left c = refl

pub returns-clause-goes_on_without : goal.returns-clause-goes_on_without
unfolding text_of run run_with digits rows_of common_rows counted_rows sequence_rows list_rows keyed_walk_rows set_rows keyed_rows ordered_keyed_rows ordered_rows ordered_set_rows queue_rows resolve_simple
returns-clause-goes_on_without c = refl

pub returns-clause-copy_is_dropped : goal.returns-clause-copy_is_dropped
unfolding text_of run run_with digits rows_of common_rows counted_rows sequence_rows list_rows keyed_walk_rows set_rows keyed_rows ordered_keyed_rows ordered_rows ordered_set_rows queue_rows resolve_simple
returns-clause-copy_is_dropped c = refl

pub returns-clause-first_handler_takes : goal.returns-clause-first_handler_takes
unfolding text_of run run_with digits rows_of common_rows counted_rows sequence_rows list_rows keyed_walk_rows set_rows keyed_rows ordered_keyed_rows ordered_rows ordered_set_rows queue_rows resolve_simple
returns-clause-first_handler_takes c = refl

pub returns-clause-ends_the_script : goal.returns-clause-ends_the_script
unfolding text_of run run_with digits rows_of common_rows counted_rows sequence_rows list_rows keyed_walk_rows set_rows keyed_rows ordered_keyed_rows ordered_rows ordered_set_rows queue_rows resolve_simple
returns-clause-ends_the_script c = refl

pub returns-clause-stalled_raises_nothing : goal.returns-clause-stalled_raises_nothing
unfolding text_of run run_with digits rows_of common_rows counted_rows sequence_rows list_rows keyed_walk_rows set_rows keyed_rows ordered_keyed_rows ordered_rows ordered_set_rows queue_rows resolve_simple
returns-clause-stalled_raises_nothing c = refl

pub returns-clause-no_further_turn : goal.returns-clause-no_further_turn
unfolding text_of run run_with digits rows_of common_rows counted_rows sequence_rows list_rows keyed_walk_rows set_rows keyed_rows ordered_keyed_rows ordered_rows ordered_set_rows queue_rows resolve_simple
returns-clause-no_further_turn c = refl

pub returns-clause-end_raises : goal.returns-clause-end_raises
unfolding text_of run run_with digits rows_of common_rows counted_rows sequence_rows list_rows keyed_walk_rows set_rows keyed_rows ordered_keyed_rows ordered_rows ordered_set_rows queue_rows resolve_simple
returns-clause-end_raises c = refl

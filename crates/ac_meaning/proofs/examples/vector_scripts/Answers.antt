use Rattle.std.proofs.Common.{refl}
use Rattle.std.specs.Fmt.{digits}
use Rattle.ac_base.specs.Growth.{pow8}
use Rattle.ac_rules.specs.Table.{rows_of, common_rows, counted_rows, sequence_rows, vector_rows, capacity_rows}
use Rattle.ac_rules.specs.Resolved.{resolve_simple}
use Rattle.ac_meaning.specs.Execution.{run, run_with, text_of}
use Rattle.ac_meaning.proofs.examples.vector_scripts.Goals as goal

pub returns-clause-vector_loops_hold_their_guards : goal.returns-clause-vector_loops_hold_their_guards
unfolding digits rows_of common_rows counted_rows sequence_rows vector_rows capacity_rows resolve_simple run run_with text_of
returns-clause-vector_loops_hold_their_guards c = refl

pub returns-clause-indexes_are_in_range : goal.returns-clause-indexes_are_in_range
unfolding digits pow8 rows_of common_rows counted_rows sequence_rows vector_rows capacity_rows resolve_simple run run_with text_of
returns-clause-indexes_are_in_range c = refl

pub returns-clause-cursors_keep_elements : goal.returns-clause-cursors_keep_elements
unfolding digits rows_of common_rows counted_rows sequence_rows vector_rows capacity_rows resolve_simple run run_with text_of
returns-clause-cursors_keep_elements c = refl

pub returns-clause-bounded_vector_is_full : goal.returns-clause-bounded_vector_is_full
unfolding digits rows_of common_rows counted_rows sequence_rows vector_rows capacity_rows resolve_simple run run_with text_of
returns-clause-bounded_vector_is_full c = refl

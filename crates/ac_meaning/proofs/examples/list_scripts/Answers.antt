use Rattle.std.proofs.Common.{refl}
use Rattle.std.specs.Fmt.{digits}
use Rattle.ac_rules.specs.Table.{rows_of, common_rows, counted_rows, sequence_rows, list_rows}
use Rattle.ac_rules.specs.Resolved.{resolve_simple}
use Rattle.ac_meaning.specs.Execution.{run, run_with, text_of}
use Rattle.ac_meaning.proofs.examples.list_scripts.Goals as goal

pub returns-clause-loop_forbids_append : goal.returns-clause-loop_forbids_append
unfolding digits rows_of common_rows counted_rows sequence_rows list_rows resolve_simple run run_with text_of
returns-clause-loop_forbids_append c = refl

pub returns-clause-dead_cursor_is_refused : goal.returns-clause-dead_cursor_is_refused
unfolding digits rows_of common_rows counted_rows sequence_rows list_rows resolve_simple run run_with text_of
returns-clause-dead_cursor_is_refused c = refl

pub returns-clause-tampering_goes_first : goal.returns-clause-tampering_goes_first
unfolding digits rows_of common_rows counted_rows sequence_rows list_rows resolve_simple run run_with text_of
returns-clause-tampering_goes_first c = refl

pub returns-clause-splices_move : goal.returns-clause-splices_move
unfolding digits rows_of common_rows counted_rows sequence_rows list_rows resolve_simple run run_with text_of
returns-clause-splices_move c = refl

pub returns-clause-refused_sets_nothing : goal.returns-clause-refused_sets_nothing
unfolding digits rows_of common_rows counted_rows sequence_rows list_rows resolve_simple run run_with text_of
returns-clause-refused_sets_nothing c = refl

pub returns-clause-loops_hold_their_guards : goal.returns-clause-loops_hold_their_guards
unfolding digits rows_of common_rows counted_rows sequence_rows list_rows resolve_simple run run_with text_of
returns-clause-loops_hold_their_guards c = refl

pub returns-clause-sums_stay_in_range : goal.returns-clause-sums_stay_in_range
unfolding digits rows_of common_rows counted_rows sequence_rows list_rows resolve_simple run run_with text_of
returns-clause-sums_stay_in_range c = refl

pub returns-clause-strings_are_kept : goal.returns-clause-strings_are_kept
unfolding digits rows_of common_rows counted_rows sequence_rows list_rows resolve_simple run run_with text_of
returns-clause-strings_are_kept c = refl

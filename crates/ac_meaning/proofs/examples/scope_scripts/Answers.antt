use Rattle.std.proofs.Common.{refl}
use Rattle.std.specs.Fmt.{digits}
use Rattle.ac_rules.specs.Table.{rows_of, common_rows, counted_rows, sequence_rows, list_rows}
use Rattle.ac_rules.specs.Resolved.{resolve_simple}
use Rattle.ac_meaning.specs.Execution.{run, run_with, text_of}
use Rattle.ac_meaning.proofs.examples.scope_scripts.Goals as goal

pub returns-clause-stable_lets_write : goal.returns-clause-stable_lets_write
unfolding digits rows_of common_rows counted_rows sequence_rows list_rows resolve_simple run run_with text_of
returns-clause-stable_lets_write c = refl

pub returns-clause-view_writes_element : goal.returns-clause-view_writes_element
unfolding digits rows_of common_rows counted_rows sequence_rows list_rows resolve_simple run run_with text_of
returns-clause-view_writes_element c = refl

pub returns-clause-inner_objects_are_new : goal.returns-clause-inner_objects_are_new
unfolding digits rows_of common_rows counted_rows sequence_rows list_rows resolve_simple run run_with text_of
returns-clause-inner_objects_are_new c = refl

pub returns-clause-spent_number_skips_block : goal.returns-clause-spent_number_skips_block
unfolding digits rows_of common_rows counted_rows sequence_rows list_rows resolve_simple run run_with text_of
returns-clause-spent_number_skips_block c = refl

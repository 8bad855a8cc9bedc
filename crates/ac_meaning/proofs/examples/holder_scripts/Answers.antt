use Rattle.std.proofs.Common.{refl}
use Rattle.std.specs.Fmt.{digits}
use Rattle.ac_rules.specs.Table.{rows_of, holder_rows, common_rows, counted_rows, sequence_rows, list_rows}
use Rattle.ac_rules.specs.Resolved.{resolve_simple}
use Rattle.ac_meaning.specs.Execution.{run, run_with, text_of}
use Rattle.ac_meaning.proofs.examples.holder_scripts.Goals as goal

pub returns-clause-holder_is_bounded : goal.returns-clause-holder_is_bounded
unfolding digits rows_of holder_rows resolve_simple run run_with text_of
returns-clause-holder_is_bounded c = refl

pub returns-clause-views_guard_holders : goal.returns-clause-views_guard_holders
unfolding digits rows_of holder_rows resolve_simple run run_with text_of
returns-clause-views_guard_holders c = refl

pub returns-clause-writes_are_within_limits : goal.returns-clause-writes_are_within_limits
unfolding digits rows_of holder_rows resolve_simple run run_with text_of
returns-clause-writes_are_within_limits c = refl

pub returns-clause-integers_have_eight_bytes : goal.returns-clause-integers_have_eight_bytes
unfolding digits rows_of holder_rows resolve_simple run run_with text_of
returns-clause-integers_have_eight_bytes c = refl

pub returns-clause-empty_strings_have_none : goal.returns-clause-empty_strings_have_none
unfolding digits rows_of holder_rows resolve_simple run run_with text_of
returns-clause-empty_strings_have_none c = refl

pub returns-clause-inner_holders_are_new : goal.returns-clause-inner_holders_are_new
unfolding digits rows_of holder_rows resolve_simple run run_with text_of
returns-clause-inner_holders_are_new c = refl

pub returns-clause-holders_have_no_nodes : goal.returns-clause-holders_have_no_nodes
unfolding digits rows_of holder_rows common_rows counted_rows sequence_rows list_rows resolve_simple run run_with text_of
returns-clause-holders_have_no_nodes c = refl

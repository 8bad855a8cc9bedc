use Rattle.std.proofs.Common.{refl}
use Rattle.ac_rules.specs.Table.{rows_of, common_rows, counted_rows, sequence_rows, list_rows}
use Rattle.ac_rules.proofs.examples.block_examples.Goals as goal

pub returns-clause-keeps_loop_cursor : goal.returns-clause-keeps_loop_cursor
unfolding rows_of common_rows counted_rows sequence_rows list_rows
returns-clause-keeps_loop_cursor c = refl

pub returns-clause-writes_nothing_queried : goal.returns-clause-writes_nothing_queried
returns-clause-writes_nothing_queried c = refl

pub returns-clause-writes_updated : goal.returns-clause-writes_updated
returns-clause-writes_updated c = refl

pub returns-clause-writes_looped : goal.returns-clause-writes_looped
unfolding rows_of common_rows counted_rows sequence_rows list_rows
returns-clause-writes_looped c = refl

pub returns-clause-loops_over_cursors : goal.returns-clause-loops_over_cursors
returns-clause-loops_over_cursors c = refl

pub returns-clause-views_elements : goal.returns-clause-views_elements
returns-clause-views_elements c = refl

pub returns-clause-views_sets : goal.returns-clause-views_sets
returns-clause-views_sets c = refl

pub returns-clause-updates_no_key : goal.returns-clause-updates_no_key
returns-clause-updates_no_key c = refl

pub returns-clause-views_holders : goal.returns-clause-views_holders
returns-clause-views_holders c = refl

pub returns-clause-writes_no_set : goal.returns-clause-writes_no_set
returns-clause-writes_no_set c = refl

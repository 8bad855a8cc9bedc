use Rattle.std.proofs.Common.{refl}
use Rattle.std.specs.Fmt.{digits}
use Rattle.ac_rules.specs.Table.{rows_of, common_rows, counted_rows, sequence_rows, list_rows}
use Rattle.ac_rules.specs.Resolved.{resolve_simple}
use Rattle.ac_meaning.specs.Execution.{run, run_with, text_of}
use Rattle.ac_meaning.proofs.examples.list_calls.Goals as goal

pub returns-clause-elements_come_and_go : goal.returns-clause-elements_come_and_go
unfolding digits rows_of common_rows counted_rows sequence_rows list_rows resolve_simple run run_with text_of
returns-clause-elements_come_and_go c = refl

pub returns-clause-elements_move : goal.returns-clause-elements_move
unfolding digits rows_of common_rows counted_rows sequence_rows list_rows resolve_simple run run_with text_of
returns-clause-elements_move c = refl

pub returns-clause-lists_give_and_take : goal.returns-clause-lists_give_and_take
unfolding digits rows_of common_rows counted_rows sequence_rows list_rows resolve_simple run run_with text_of
returns-clause-lists_give_and_take c = refl

use Rattle.std.proofs.Common.{refl}
use Rattle.std.specs.Fmt.{digits}
use Rattle.ac_base.specs.Growth.{pow8}
use Rattle.ac_rules.specs.Table.{rows_of, common_rows, counted_rows, sequence_rows, vector_rows, capacity_rows}
use Rattle.ac_rules.specs.Resolved.{resolve_simple}
use Rattle.ac_meaning.specs.Execution.{run, run_with, text_of}
use Rattle.ac_meaning.proofs.examples.vector_calls.Goals as goal

pub returns-clause-elements_have_indexes : goal.returns-clause-elements_have_indexes
unfolding digits pow8 rows_of common_rows counted_rows sequence_rows vector_rows capacity_rows resolve_simple run run_with text_of
returns-clause-elements_have_indexes c = refl

pub returns-clause-vectors_take_copies : goal.returns-clause-vectors_take_copies
unfolding digits rows_of common_rows counted_rows sequence_rows vector_rows capacity_rows resolve_simple run run_with text_of
returns-clause-vectors_take_copies c = refl

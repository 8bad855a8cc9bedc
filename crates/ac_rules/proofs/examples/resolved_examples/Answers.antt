use Rattle.std.proofs.Common.{refl}
use Rattle.ac_rules.specs.Table.{rows_of, common_rows, counted_rows, sequence_rows, list_rows}
use Rattle.ac_rules.specs.Resolved.{resolve_simple}
use Rattle.ac_rules.proofs.examples.resolved_examples.Goals as goal

pub returns-clause-places_in_blocks : goal.returns-clause-places_in_blocks
unfolding resolve_simple
returns-clause-places_in_blocks c = refl

pub returns-clause-places_no_name : goal.returns-clause-places_no_name
returns-clause-places_no_name c = refl

pub returns-clause-arguments : goal.returns-clause-arguments
unfolding resolve_simple rows_of common_rows counted_rows sequence_rows list_rows
returns-clause-arguments c = refl

pub returns-clause-by_arguments : goal.returns-clause-by_arguments
unfolding resolve_simple rows_of common_rows counted_rows sequence_rows list_rows
returns-clause-by_arguments c = refl

pub returns-clause-objects : goal.returns-clause-objects
returns-clause-objects c = refl

pub returns-clause-script : goal.returns-clause-script
unfolding resolve_simple rows_of common_rows counted_rows sequence_rows list_rows
returns-clause-script c = refl

use Rattle.std.proofs.Common.{refl}
use Rattle.ac_rules.specs.Resolved.{resolve_simple}
use Rattle.ac_rules.specs.Scopes.{standings}
use Rattle.ac_rules.specs.Table.{rows_of, common_rows, counted_rows, sequence_rows, list_rows}
use Rattle.ac_rules.proofs.examples.handler_examples.Goals as goal

pub returns-clause-takes_handlers : goal.returns-clause-takes_handlers
unfolding standings rows_of common_rows counted_rows sequence_rows list_rows
returns-clause-takes_handlers c = refl

pub returns-clause-twice : goal.returns-clause-twice
unfolding standings rows_of common_rows counted_rows sequence_rows list_rows
returns-clause-twice c = refl

pub returns-clause-twice_behind_another : goal.returns-clause-twice_behind_another
unfolding standings rows_of common_rows counted_rows sequence_rows list_rows
returns-clause-twice_behind_another c = refl

pub returns-clause-in_order : goal.returns-clause-in_order
unfolding standings rows_of common_rows counted_rows sequence_rows list_rows
returns-clause-in_order c = refl

pub returns-clause-inner_handlers : goal.returns-clause-inner_handlers
unfolding standings rows_of common_rows counted_rows sequence_rows list_rows
returns-clause-inner_handlers c = refl

pub returns-clause-unknown_name : goal.returns-clause-unknown_name
unfolding standings rows_of common_rows counted_rows sequence_rows list_rows
returns-clause-unknown_name c = refl

pub returns-clause-name_of_body : goal.returns-clause-name_of_body
unfolding standings rows_of common_rows counted_rows sequence_rows list_rows
returns-clause-name_of_body c = refl

pub returns-clause-name_of_handler : goal.returns-clause-name_of_handler
unfolding standings rows_of common_rows counted_rows sequence_rows list_rows
returns-clause-name_of_handler c = refl

pub returns-clause-frees_names : goal.returns-clause-frees_names
unfolding standings rows_of common_rows counted_rows sequence_rows list_rows
returns-clause-frees_names c = refl

pub returns-clause-in_tasks : goal.returns-clause-in_tasks
unfolding standings rows_of common_rows counted_rows sequence_rows list_rows
returns-clause-in_tasks c = refl

pub returns-clause-resolved : goal.returns-clause-resolved
unfolding resolve_simple rows_of common_rows counted_rows sequence_rows list_rows
returns-clause-resolved c = refl

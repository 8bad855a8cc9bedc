use Rattle.std.proofs.Common.{refl}
use Rattle.ac_rules.specs.Scopes.{standings}
use Rattle.ac_rules.specs.Table.{rows_of, common_rows, counted_rows, sequence_rows, list_rows, queue_rows, priority_queue_rows}
use Rattle.ac_rules.proofs.examples.task_examples.Goals as goal

pub returns-clause-calls_queues : goal.returns-clause-calls_queues
unfolding rows_of queue_rows priority_queue_rows common_rows counted_rows sequence_rows list_rows
returns-clause-calls_queues c = refl

pub returns-clause-sets_locals : goal.returns-clause-sets_locals
unfolding rows_of queue_rows priority_queue_rows common_rows counted_rows sequence_rows list_rows
returns-clause-sets_locals c = refl

pub returns-clause-has_no_blocks : goal.returns-clause-has_no_blocks
unfolding rows_of queue_rows priority_queue_rows common_rows counted_rows sequence_rows list_rows
returns-clause-has_no_blocks c = refl

pub returns-clause-takes_tasks : goal.returns-clause-takes_tasks
unfolding standings rows_of queue_rows
returns-clause-takes_tasks c = refl

pub returns-clause-task_twice : goal.returns-clause-task_twice
unfolding standings rows_of queue_rows
returns-clause-task_twice c = refl

pub returns-clause-local_as_its_task : goal.returns-clause-local_as_its_task
unfolding standings rows_of queue_rows
returns-clause-local_as_its_task c = refl

pub returns-clause-outer_name : goal.returns-clause-outer_name
unfolding standings rows_of queue_rows
returns-clause-outer_name c = refl

pub returns-clause-local_of_another : goal.returns-clause-local_of_another
unfolding standings rows_of queue_rows
returns-clause-local_of_another c = refl

pub returns-clause-outer_variable : goal.returns-clause-outer_variable
unfolding standings rows_of queue_rows
returns-clause-outer_variable c = refl

pub returns-clause-text_local : goal.returns-clause-text_local
unfolding standings rows_of queue_rows
returns-clause-text_local c = refl

pub returns-clause-frees_names : goal.returns-clause-frees_names
unfolding standings rows_of queue_rows
returns-clause-frees_names c = refl

use Rattle.std.proofs.Common.{refl}
use Rattle.std.specs.Fmt.{digits}
use Rattle.ac_rules.specs.Table.{rows_of, common_rows, counted_rows, sequence_rows, list_rows, queue_rows, priority_queue_rows}
use Rattle.ac_rules.specs.Resolved.{resolve_simple}
use Rattle.ac_meaning.specs.Execution.{run, run_with, text_of, text_with}
use Rattle.ac_meaning.proofs.examples.task_scripts.Goals as goal

pub returns-clause-queues_stall : goal.returns-clause-queues_stall
unfolding digits rows_of queue_rows resolve_simple run run_with text_of
returns-clause-queues_stall c = refl

pub returns-clause-priorities_go_first : goal.returns-clause-priorities_go_first
unfolding digits rows_of queue_rows priority_queue_rows resolve_simple run run_with text_of
returns-clause-priorities_go_first c = refl

pub returns-clause-all_tasks_stall : goal.returns-clause-all_tasks_stall
unfolding digits rows_of queue_rows resolve_simple run run_with text_of
returns-clause-all_tasks_stall c = refl

pub returns-clause-one_item_goes_by_turns : goal.returns-clause-one_item_goes_by_turns
unfolding digits rows_of queue_rows resolve_simple run run_with text_of text_with
returns-clause-one_item_goes_by_turns c = (refl, refl)

pub returns-clause-two_items_go_as_ordered : goal.returns-clause-two_items_go_as_ordered
unfolding digits rows_of queue_rows resolve_simple run run_with text_of text_with
returns-clause-two_items_go_as_ordered c = (refl, refl)

pub returns-clause-raised_step_goes_on : goal.returns-clause-raised_step_goes_on
unfolding digits rows_of queue_rows resolve_simple run run_with text_of
returns-clause-raised_step_goes_on c = refl

pub returns-clause-locals_are_own : goal.returns-clause-locals_are_own
unfolding digits rows_of queue_rows priority_queue_rows resolve_simple run run_with text_of
returns-clause-locals_are_own c = refl

pub returns-clause-uses_are_told : goal.returns-clause-uses_are_told
unfolding digits rows_of queue_rows resolve_simple run run_with text_of
returns-clause-uses_are_told c = refl

pub returns-clause-blocks_have_orders : goal.returns-clause-blocks_have_orders
unfolding digits rows_of common_rows counted_rows sequence_rows list_rows queue_rows resolve_simple run_with text_with
returns-clause-blocks_have_orders c = refl

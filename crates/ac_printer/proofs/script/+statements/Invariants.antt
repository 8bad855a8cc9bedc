use Rattle.std.proofs.Common.{◌≡◌, ◌+◌, ◌*◌, drop}
use Rattle.ac_syntax.specs.Code.{code_size, handlers_size, stop, no_handler}
use Rattle.ac_syntax.specs.Items.{items, handler_items}
use Rattle.ac_syntax.specs.Statements.{before, code_of, task_before, tasks_of, handler_before, handlers_of}
use Rattle.ac_printer.specs.Page.{put_items}
use Rattle.ac_printer.proofs.script.+statements.Given as goal

abbrev pub decreases-put_body : goal.decreases-put_body
decreases-put_body l = 4 * code_size l.body.now + 2

abbrev pub decreases-put_statement : goal.decreases-put_statement
decreases-put_statement l = 4 * code_size (before l.stmt.now stop)

abbrev pub decreases-put_statements : goal.decreases-put_statements
decreases-put_statements l = 4 * code_size l.stmts.now + 1

abbrev pub decreases-put_task_block : goal.decreases-put_task_block
decreases-put_task_block l = 4 * code_size l.tasks.now + 3

abbrev pub decreases-put_handled : goal.decreases-put_handled
decreases-put_handled l = 4 * (code_size l.body.now + handlers_size l.handlers.now) + 3

abbrev pub decreases-put_task : goal.decreases-put_task
decreases-put_task l = 4 * code_size (task_before l.task.now stop)

abbrev pub decreases-put_tasks : goal.decreases-put_tasks
decreases-put_tasks l = 4 * code_size l.tasks.now + 1

abbrev pub decreases-put_handler : goal.decreases-put_handler
decreases-put_handler l = 4 * handlers_size (handler_before l.handler.now no_handler)

abbrev pub decreases-put_handlers : goal.decreases-put_handlers
decreases-put_handlers l = 4 * handlers_size l.handlers.now + 1

abbrev pub invariant-put_handlers-loop-handler : goal.invariant-put_handlers-loop-handler
invariant-put_handlers-loop-handler l = put_items l.page (handler_items (handlers_of (drop l.handler-index l.handler-items))) ≡ put_items l.initial.page (handler_items l.handlers)

abbrev pub invariant-put_tasks-loop-task : goal.invariant-put_tasks-loop-task
invariant-put_tasks-loop-task l = put_items l.page (items (tasks_of (drop l.task-index l.task-items))) ≡ put_items l.initial.page (items l.tasks)

abbrev pub invariant-put_statements-loop-stmt : goal.invariant-put_statements-loop-stmt
invariant-put_statements-loop-stmt l = put_items l.page (items (code_of (drop l.stmt-index l.stmt-items))) ≡ put_items l.initial.page (items l.stmts)

use Rattle.std.proofs.Common.{◌≡◌, arith, ap, get_or}
use Rattle.ac_syntax.specs.Code.{stop, no_handler, code_size, handlers_size}
use Rattle.ac_syntax.specs.Statements.{before, task_before, handler_before}
use Rattle.ac_syntax.specs.declared.stmt.Stmt.{Stmt}
use Rattle.ac_syntax.specs.declared.stmt.TaskText.{TaskText}
use Rattle.ac_syntax.specs.declared.stmt.Handler.{Handler}
use Rattle.ac_syntax.proofs.StatementSizes.{size_among, task_among, handler_among}
use Rattle.ac_printer.proofs.script.+statements.Goals as goal

pub put_statements-put_statement-requires : goal.put_statements-put_statement-requires
put_statements-put_statement-requires t c =
    let stmts = c.items-stmt-items.result.now in
    let stmt = c.stmt-item.result in
    let same : code_size (before stmt stop) ≡ code_size (before (get_or stmts c.loop-stmt.stmt-index stmt) stop) = ap (λ (s : Stmt). code_size (before s stop)) c.stmt-item.is in
    (omega (arith, same, size_among stmts c.loop-stmt.stmt-index stmt c.loop-stmt-test.true, ap code_size c.items-stmt-items.ensures), tt)

pub put_tasks-put_task-requires : goal.put_tasks-put_task-requires
put_tasks-put_task-requires t c =
    let tasks = c.items-task-items.result.now in
    let task = c.task-item.result in
    let same : code_size (task_before task stop) ≡ code_size (task_before (get_or tasks c.loop-task.task-index task) stop) = ap (λ (s : TaskText). code_size (task_before s stop)) c.task-item.is in
    (omega (arith, same, task_among tasks c.loop-task.task-index task c.loop-task-test.true, ap code_size c.items-task-items.ensures), tt)

pub put_handlers-put_handler-requires : goal.put_handlers-put_handler-requires
put_handlers-put_handler-requires t c =
    let handlers = c.items-handler-items.result.now in
    let handler = c.handler-item.result in
    let same : handlers_size (handler_before handler no_handler) ≡ handlers_size (handler_before (get_or handlers c.loop-handler.handler-index handler) no_handler) = ap (λ (h : Handler). handlers_size (handler_before h no_handler)) c.handler-item.is in
    (omega (arith, same, handler_among handlers c.loop-handler.handler-index handler c.loop-handler-test.true, ap handlers_size c.items-handler-items.ensures), tt)

use Rattle.std.proofs.Common.{◌≡◌, ap, sym, ◌∙◌, [], take, length, List, Some, get_or, arith}
use Rattle.std.proofs.lemmas.Result.{on_ok_weaker}
use Rattle.ac_syntax.specs.Code.{code_size, handlers_size, stop, no_handler}
use Rattle.ac_syntax.specs.Statements.{before, task_before, handler_before}
use Rattle.ac_syntax.specs.declared.stmt.TaskText.{TaskText}
use Rattle.ac_syntax.specs.declared.stmt.Handler.{Handler}
use Rattle.ac_syntax.specs.declared.stmt.Stmt.{Stmt}
use Rattle.ac_syntax.specs.declared.stmt.Stmt.TheVariants.{Declare}
use Rattle.ac_syntax.proofs.StatementSizes.{size_among, task_among, handler_among}
use Rattle.ac_rules.specs.Scopes.{Scope, first_task, with_decls, Standing, standings_from, handler_standings}
use Rattle.ac_rules.specs.Walks.{outcome}
use Rattle.ac_rules.specs.declared.resolved.ResolvedHandler.{ResolvedHandler}
use Rattle.ac_rules.proofs.Outcomes.{passed_on, gone_on, stopped}
use Rattle.ac_check.specs.NamedHandlers.{named_by}
use Rattle.ac_check.proofs.Blocks.{begins_with, declare_on, declare_stopped, outside_decls, statement_on, statement_stopped, named, same_decls, same_scope, task_on, task_stopped, next_task_on, next_task_stopped, next_task_scope, tasks_left, handler_whole, handler_refused, next_handler_on, next_handler_stopped}
use Rattle.ac_check.proofs.Resolving.{statements_on, statements_done, tasks_resolved_on, tasks_done, handlers_resolved_on, handlers_done, named_on}
use Rattle.ac_rules.proofs.Kept.{unnamed}
use Rattle.ac_check.proofs.TaskScopes.{first_on, task_first, decls_first}
use Rattle.ac_check.proofs.walk.Walk.+statements.Goals as goal

pub walk_statement-returns-in_err-operation-clause-refused :
    goal.walk_statement-returns-in_err-operation-clause-refused
walk_statement-returns-in_err-operation-clause-refused t c =
    let at = c.args.self.now in
    let first = begins_with at.scope c.args.stmt.now in
    passed_on c.from_residual.result c.judge.result c.in_err-operation.field-0.0 _ c.from_residual.ensures.1 c.in_err-operation.was
    (λ line kind e. ap (λ (l : List Standing). outcome at.room l) first.1 ∙ c.judge.ensures.refused first.0 line kind e)

pub walk_statement-returns-in_err-decls-in-Declare-clause-refused :
    goal.walk_statement-returns-in_err-decls-in-Declare-clause-refused
walk_statement-returns-in_err-decls-in-Declare-clause-refused t c =
    let at = c.args.self.now in
    let here = c.in-Declare in
    let exit = c.from_residual-in_err-decls-in-Declare in
    let is : c.args.stmt.now ≡ Declare here.line c.items.result.now here.body = here.is ∙ ap (λ decls. Declare here.line decls here.body) (sym c.items.ensures) in
    passed_on exit.result c.walk_decls.result c.in_err-decls-in-Declare.field-0.0 _ exit.ensures.1 c.in_err-decls-in-Declare.was
    (λ line kind e. declare_stopped at.room at.scope c.args.stmt.now here.line c.items.result.now here.body is c.in_ok-operation.ensures.ok _ kind
    (c.walk_decls.ensures.refused line kind e))

pub walk_statement-returns-in_ok-decls-in-Declare-clause-ok :
    goal.walk_statement-returns-in_ok-decls-in-Declare-clause-ok
walk_statement-returns-in_ok-decls-in-Declare-clause-ok t c =
    let at = c.args.self.now in
    let here = c.in-Declare in
    let behind = c.in_ok-decls-in-Declare.ensures in
    let is : c.args.stmt.now ≡ Declare here.line c.items.result.now here.body = here.is ∙ ap (λ decls. Declare here.line decls here.body) (sym c.items.ensures) in
    on_ok_weaker c.walk_body-in-Declare.result
    (λ ok. declare_on at.room at.scope c.args.stmt.now here.line c.items.result.now here.body is c.in_ok-operation.ensures.ok _ _ behind.ok behind.scope ∙ ok)
    c.walk_body-in-Declare.ensures.ok

pub walk_statement-returns-in_ok-decls-in-Declare-clause-refused :
    goal.walk_statement-returns-in_ok-decls-in-Declare-clause-refused
walk_statement-returns-in_ok-decls-in-Declare-clause-refused t c line kind e =
    let at = c.args.self.now in
    let here = c.in-Declare in
    let behind = c.in_ok-decls-in-Declare.ensures in
    let is : c.args.stmt.now ≡ Declare here.line c.items.result.now here.body = here.is ∙ ap (λ decls. Declare here.line decls here.body) (sym c.items.ensures) in
    declare_on at.room at.scope c.args.stmt.now here.line c.items.result.now here.body is c.in_ok-operation.ensures.ok _ _ behind.ok behind.scope
    ∙ c.walk_body-in-Declare.ensures.refused line kind e

pub walk_statement-returns-in_ok-decls-in-Declare-clause-scope :
    goal.walk_statement-returns-in_ok-decls-in-Declare-clause-scope
walk_statement-returns-in_ok-decls-in-Declare-clause-scope t c =
    let at = c.args.self.now in
    let behind = c.in_ok-decls-in-Declare.ensures in
    on_ok_weaker c.walk_body-in-Declare.result
    (λ ok. ok ∙ ap (λ (s : Scope). take c.len-outside.result s) behind.scope ∙ ap (λ n. take n (with_decls at.scope c.items.result.now)) c.len-outside.ensures ∙ outside_decls at.scope c.items.result.now)
    c.walk_body-in-Declare.ensures.scope

pub walk_statements-walk_statement-requires : goal.walk_statements-walk_statement-requires
walk_statements-walk_statement-requires t c =
    let stmts = c.items-stmt-items.result.now in
    let stmt = c.stmt-item.result in
    let same : code_size (before stmt stop) ≡ code_size (before (get_or stmts c.loop-stmt.stmt-index stmt) stop) = ap (λ (s : Stmt). code_size (before s stop)) c.stmt-item.is in
    (omega (arith, same, size_among stmts c.loop-stmt.stmt-index stmt c.loop-stmt-test.true, ap code_size c.items-stmt-items.ensures), c.requires ∙ ap first_task (sym c.loop-stmt.invariant.1))

pub walk_statements-returns-in_err-resolved-clause-refused :
    goal.walk_statements-returns-in_err-resolved-clause-refused
walk_statements-returns-in_err-resolved-clause-refused t c =
    let at = c.loop-stmt.self in
    let stmts = c.items-stmt-items.result.now in
    passed_on c.from_residual.result c.walk_statement.result c.in_err-resolved.field-0.0 _ c.from_residual.ensures.1 c.in_err-resolved.was
    (λ line kind e.
    sym c.loop-stmt.invariant.0
    ∙ statement_stopped at.room at.scope stmts c.loop-stmt.stmt-index c.stmt-item.result c.loop-stmt-test.true c.stmt-item.is _ kind
    (c.walk_statement.ensures.refused line kind e))

pub walk_statements-loop-stmt-preserved : goal.walk_statements-loop-stmt-preserved
walk_statements-loop-stmt-preserved t c =
    let at = c.loop-stmt.self in
    let stmts = c.items-stmt-items.result.now in
    let behind = c.in_ok-resolved.ensures in (
      statement_on at.room at.scope stmts c.loop-stmt.stmt-index c.stmt-item.result c.loop-stmt-test.true c.stmt-item.is _ _ behind.ok behind.scope ∙ c.loop-stmt.invariant.0,
      behind.scope ∙ c.loop-stmt.invariant.1,
      statements_on at.scope _ stmts c.loop-stmt.stmt-index c.stmt-item.result c.loop-stmt-test.true c.stmt-item.is behind.scope
          c.loop-stmt.made.items c.keep.new.items.items c.in_ok-resolved.resolved c.in_ok-keep.ensures behind.resolved
          ∙ c.loop-stmt.invariant.2,
    )

pub walk_statements-returns-clause-resolved : goal.walk_statements-returns-clause-resolved
walk_statements-returns-clause-resolved t c =
    c.from_vec.ensures
    ∙ statements_done c.loop-stmt.self.scope c.items-stmt-items.result.now c.loop-stmt.stmt-index _ c.loop-stmt-test.false c.loop-stmt.made.items
    c.loop-stmt.invariant.2

pub walk_task-declare-requires : goal.walk_task-declare-requires
walk_task-declare-requires t c =
    let at = c.args.self.now in
    let task = c.args.task.now in
    unnamed at.room at.scope task.line task.name (sym (c.task_fault.ensures task.line) ∙ c.in_ok-refuse.ensures.ok)

pub walk_task-walk_decls-requires : goal.walk_task-walk_decls-requires
walk_task-walk_decls-requires t c =
    let at = c.args.self.now in
    ap Some c.requires ∙ sym (task_first at.scope c.args.task.now.name) ∙ sym (ap first_task c.in_ok-declare.ensures)

pub walk_task-returns-in_err-walk_decls-clause-refused :
    goal.walk_task-returns-in_err-walk_decls-clause-refused
walk_task-returns-in_err-walk_decls-clause-refused t c =
    let at = c.args.self.now in
    let task = c.args.task.now in
    let exit = c.from_residual-in_err-walk_decls in
    passed_on exit.result c.walk_decls.result c.in_err-walk_decls.field-0.0 _ exit.ensures.1 c.in_err-walk_decls.was
    (λ line kind e.
    task_stopped at.room at.scope task (sym (c.task_fault.ensures task.line) ∙ c.in_ok-refuse.ensures.ok) _ kind
    (same_decls at.room c.declare.new.scope (named at.scope task.name) c.items.result.now task.locals c.in_ok-declare.ensures c.items.ensures
    ∙ c.walk_decls.ensures.refused line kind e))

pub walk_task-walk_statements-requires : goal.walk_task-walk_statements-requires
walk_task-walk_statements-requires t c =
    let at = c.args.self.now in
    let task = c.args.task.now in
    let behind = named at.scope task.name in
    let moved = c.in_ok-walk_decls.ensures.scope ∙ same_scope c.declare.new.scope behind c.items.result.now task.locals c.in_ok-declare.ensures c.items.ensures in
    (omega arith, ap Some c.requires ∙ sym (task_first at.scope task.name) ∙ sym (decls_first behind task.locals) ∙ sym (ap first_task moved))

pub walk_task-returns-in_err-steps-clause-refused :
    goal.walk_task-returns-in_err-steps-clause-refused
walk_task-returns-in_err-steps-clause-refused t c =
    let at = c.args.self.now in
    let task = c.args.task.now in
    let behind = named at.scope task.name in
    let exit = c.from_residual-in_err-steps in
    passed_on exit.result c.walk_statements.result c.in_err-steps.field-0.0 _ exit.ensures.1 c.in_err-steps.was
    (λ line kind e.
    task_on at.room at.scope task (sym (c.task_fault.ensures task.line) ∙ c.in_ok-refuse.ensures.ok) c.walk_decls.new.self.room c.walk_decls.new.self.scope
    (same_decls at.room c.declare.new.scope behind c.items.result.now task.locals c.in_ok-declare.ensures c.items.ensures ∙ c.in_ok-walk_decls.ensures.ok)
    (c.in_ok-walk_decls.ensures.scope ∙ same_scope c.declare.new.scope behind c.items.result.now task.locals c.in_ok-declare.ensures c.items.ensures)
    ∙ c.walk_statements.ensures.refused line kind e)

pub walk_task-returns-clause-ok : goal.walk_task-returns-clause-ok
walk_task-returns-clause-ok t c =
    let at = c.args.self.now in
    let task = c.args.task.now in
    let behind = named at.scope task.name in
    task_on at.room at.scope task (sym (c.task_fault.ensures task.line) ∙ c.in_ok-refuse.ensures.ok) c.walk_decls.new.self.room c.walk_decls.new.self.scope
    (same_decls at.room c.declare.new.scope behind c.items.result.now task.locals c.in_ok-declare.ensures c.items.ensures ∙ c.in_ok-walk_decls.ensures.ok)
    (c.in_ok-walk_decls.ensures.scope ∙ same_scope c.declare.new.scope behind c.items.result.now task.locals c.in_ok-declare.ensures c.items.ensures)
    ∙ c.in_ok-steps.ensures.ok

pub walk_task-returns-clause-scope : goal.walk_task-returns-clause-scope
walk_task-returns-clause-scope t c =
    let task = c.args.task.now in
    let behind = named c.args.self.now.scope task.name in
    let moved = c.in_ok-walk_decls.ensures.scope ∙ same_scope c.declare.new.scope behind c.items.result.now task.locals c.in_ok-declare.ensures c.items.ensures in
    c.leave.ensures
    ∙ ap (λ (s : Scope). take c.len-named.result s) (c.in_ok-steps.ensures.scope ∙ moved)
    ∙ ap (λ n. take n (with_decls behind task.locals)) (c.len-named.ensures ∙ ap length c.in_ok-declare.ensures)
    ∙ outside_decls behind task.locals

pub walk_tasks-walk_task-requires : goal.walk_tasks-walk_task-requires
walk_tasks-walk_task-requires t c =
    let tasks = c.items-task-items.result.now in
    let task = c.task-item.result in
    let same : code_size (task_before task stop) ≡ code_size (task_before (get_or tasks c.loop-task.task-index task) stop) = ap (λ (s : TaskText). code_size (task_before s stop)) c.task-item.is in
    (omega (arith, same, task_among tasks c.loop-task.task-index task c.loop-task-test.true, ap code_size c.items-task-items.ensures), c.loop-task.invariant.first_is)

pub walk_tasks-returns-in_err-resolved-clause-refused :
    goal.walk_tasks-returns-in_err-resolved-clause-refused
walk_tasks-returns-in_err-resolved-clause-refused t c =
    let at = c.loop-task.self in
    let tasks = c.items-task-items.result.now in
    passed_on c.from_residual.result c.walk_task.result c.in_err-resolved.field-0.0 _ c.from_residual.ensures.1 c.in_err-resolved.was
    (λ line kind e.
    sym c.loop-task.invariant.outcome_is
    ∙ next_task_stopped at.room at.scope tasks c.loop-task.task-index c.task-item.result c.loop-task-test.true c.task-item.is _ kind
    (c.walk_task.ensures.refused line kind e))

pub walk_tasks-loop-task-preserved : goal.walk_tasks-loop-task-preserved
walk_tasks-loop-task-preserved t c =
    let at = c.loop-task.self in
    let tasks = c.items-task-items.result.now in
    let inv = c.loop-task.invariant in
    let behind = c.in_ok-resolved.ensures in
    record {
      outcome_is = next_task_on at.room at.scope tasks c.loop-task.task-index c.task-item.result c.loop-task-test.true c.task-item.is _ _ behind.ok behind.scope ∙ inv.outcome_is;
      scope_is = next_task_scope at.room at.scope tasks c.loop-task.task-index c.task-item.result c.loop-task-test.true c.task-item.is _ behind.scope ∙ inv.scope_is;
      made_is = tasks_resolved_on at.scope _ tasks c.loop-task.task-index c.task-item.result c.loop-task-test.true c.task-item.is behind.scope
          c.loop-task.made.items c.keep.new.items.items c.in_ok-resolved.resolved c.in_ok-keep.ensures behind.resolved
          ∙ inv.made_is;
      first_is = inv.first_is ∙ sym (first_on at.scope _ c.task-item.result.name behind.scope);
    }

pub walk_tasks-returns-clause-resolved : goal.walk_tasks-returns-clause-resolved
walk_tasks-returns-clause-resolved t c =
    c.from_vec.ensures
    ∙ tasks_done c.loop-task.self.scope c.items-task-items.result.now c.loop-task.task-index _ c.loop-task-test.false c.loop-task.made.items
    c.loop-task.invariant.made_is

pub walk_tasks-returns-clause-scope : goal.walk_tasks-returns-clause-scope
walk_tasks-returns-clause-scope t c =
    c.leave.ensures
    ∙ ap (λ n. take n c.loop-task.self.scope) c.len-before.ensures
    ∙ tasks_left c.args.self.now.scope c.loop-task.self.scope c.items-task-items.result.now c.loop-task.task-index c.args.tasks.now c.loop-task-test.false c.loop-task.invariant.scope_is

pub walk_handled-returns-in_err-body-clause-refused :
    goal.walk_handled-returns-in_err-body-clause-refused
walk_handled-returns-in_err-body-clause-refused t c =
    let at = c.args.self.now in
    passed_on c.from_residual.result c.walk_statements.result c.in_err-body.field-0.0 _ c.from_residual.ensures.1 c.in_err-body.was
    (λ line kind e. stopped at.room (Some line) kind (standings_from at.scope c.args.body.now) (handler_standings at.scope [] c.args.handlers.now)
    (c.walk_statements.ensures.refused line kind e))

pub walk_handled-returns-in_err-handlers-clause-refused :
    goal.walk_handled-returns-in_err-handlers-clause-refused
walk_handled-returns-in_err-handlers-clause-refused t c =
    let at = c.args.self.now in
    let behind = c.walk_statements.new.self in
    let exit = c.from_residual-in_err-handlers in
    passed_on exit.result c.walk_handlers.result c.in_err-handlers.field-0.0 _ exit.ensures.1 c.in_err-handlers.was
    (λ line kind e.
    gone_on at.room behind.room (standings_from at.scope c.args.body.now) (handler_standings at.scope [] c.args.handlers.now) c.in_ok-body.ensures.ok
    ∙ ap (λ (s : Scope). outcome behind.room (handler_standings s [] c.args.handlers.now)) (sym c.in_ok-body.ensures.scope)
    ∙ c.walk_handlers.ensures.refused line kind e)

pub walk_handled-returns-clause-ok : goal.walk_handled-returns-clause-ok
walk_handled-returns-clause-ok t c =
    let at = c.args.self.now in
    let behind = c.walk_statements.new.self in
    gone_on at.room behind.room (standings_from at.scope c.args.body.now) (handler_standings at.scope [] c.args.handlers.now) c.in_ok-body.ensures.ok
    ∙ ap (λ (s : Scope). outcome behind.room (handler_standings s [] c.args.handlers.now)) (sym c.in_ok-body.ensures.scope)
    ∙ c.in_ok-handlers.ensures.ok

pub walk_handler-returns-in_err-refuse-clause-refused :
    goal.walk_handler-returns-in_err-refuse-clause-refused
walk_handler-returns-in_err-refuse-clause-refused t c =
    let at = c.args.self.now in
    let own = c.args.handler.now in
    passed_on c.from_residual.result c.refuse.result c.in_err-refuse.field-0.0 _ c.from_residual.ensures.1 c.in_err-refuse.was
    (λ line kind e.
    let r = c.refuse.ensures.refused line kind e in
    handler_refused at.room at.scope (named_by c.args.before.now) own line kind r.0 (sym (c.handler_fault.ensures own.line) ∙ r.1))

pub walk_handler-returns-in_err-body-clause-refused :
    goal.walk_handler-returns-in_err-body-clause-refused
walk_handler-returns-in_err-body-clause-refused t c =
    let at = c.args.self.now in
    let own = c.args.handler.now in
    let exit = c.from_residual-in_err-body in
    passed_on exit.result c.walk_statements.result c.in_err-body.field-0.0 _ exit.ensures.1 c.in_err-body.was
    (λ line kind e.
    handler_whole at.room at.scope (named_by c.args.before.now) own (sym (c.handler_fault.ensures own.line) ∙ c.in_ok-refuse.ensures.ok)
    ∙ c.walk_statements.ensures.refused line kind e)

pub walk_handler-returns-clause-ok : goal.walk_handler-returns-clause-ok
walk_handler-returns-clause-ok t c =
    let at = c.args.self.now in
    let own = c.args.handler.now in
    handler_whole at.room at.scope (named_by c.args.before.now) own (sym (c.handler_fault.ensures own.line) ∙ c.in_ok-refuse.ensures.ok)
    ∙ c.in_ok-body.ensures.ok

pub walk_handlers-walk_handler-requires : goal.walk_handlers-walk_handler-requires
walk_handlers-walk_handler-requires t c =
    let handlers = c.items-handler-items.result.now in
    let own = c.handler-item.result in
    let same : handlers_size (handler_before own no_handler) ≡ handlers_size (handler_before (get_or handlers c.loop-handler.handler-index own) no_handler) =
    ap (λ (h : Handler). handlers_size (handler_before h no_handler)) c.handler-item.is in
    (omega (arith, same, handler_among handlers c.loop-handler.handler-index own c.loop-handler-test.true, ap handlers_size c.items-handler-items.ensures), c.requires ∙ ap first_task (sym c.loop-handler.invariant.scope_is))

pub walk_handlers-returns-in_err-resolved-clause-refused :
    goal.walk_handlers-returns-in_err-resolved-clause-refused
walk_handlers-returns-in_err-resolved-clause-refused t c =
    let at = c.loop-handler.self in
    let handlers = c.items-handler-items.result.now in
    let own = c.handler-item.result in
    passed_on c.from_residual.result c.walk_handler.result c.in_err-resolved.field-0.0 _ c.from_residual.ensures.1 c.in_err-resolved.was
    (λ line kind e.
    sym c.loop-handler.invariant.outcome_is
    ∙ next_handler_stopped at.room at.scope (named_by c.loop-handler.made.items) handlers c.loop-handler.handler-index own c.loop-handler-test.true c.handler-item.is _ kind
    (ap (λ (l : List ResolvedHandler). outcome at.room (handler_standings at.scope (named_by l) (handler_before own no_handler))) (sym c.deref.ensures.value)
    ∙ c.walk_handler.ensures.refused line kind e))

pub walk_handlers-loop-handler-preserved : goal.walk_handlers-loop-handler-preserved
walk_handlers-loop-handler-preserved t c =
    let at = c.loop-handler.self in
    let handlers = c.items-handler-items.result.now in
    let own = c.handler-item.result in
    let i = c.loop-handler.handler-index in
    let old = c.loop-handler.made.items in
    let inv = c.loop-handler.invariant in
    let behind = c.in_ok-resolved.ensures in
    record {
      outcome_is = next_handler_on at.room at.scope (named_by old) handlers i own c.loop-handler-test.true c.handler-item.is _ _ (named_by c.keep.new.items.items)
          (ap (λ (l : List ResolvedHandler). outcome at.room (handler_standings at.scope (named_by l) (handler_before own no_handler))) (sym c.deref.ensures.value)
          ∙ behind.ok)
          behind.scope (named_on old c.keep.new.items.items c.in_ok-resolved.resolved own.catches c.in_ok-keep.ensures behind.catches)
          ∙ inv.outcome_is;
      scope_is = behind.scope ∙ inv.scope_is;
      made_is = handlers_resolved_on at.scope _ handlers i own c.loop-handler-test.true c.handler-item.is behind.scope
          old c.keep.new.items.items c.in_ok-resolved.resolved c.in_ok-keep.ensures behind.resolved
          ∙ inv.made_is;
    }

pub walk_handlers-returns-clause-resolved : goal.walk_handlers-returns-clause-resolved
walk_handlers-returns-clause-resolved t c =
    c.from_vec.ensures
    ∙ handlers_done c.loop-handler.self.scope c.items-handler-items.result.now c.loop-handler.handler-index _ c.loop-handler-test.false c.loop-handler.made.items
    c.loop-handler.invariant.made_is

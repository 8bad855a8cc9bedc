use Rattle.std.proofs.Common.{◌≡◌, ◌+◌, ◌*◌, [], drop, length}
use Rattle.std.specs.Prelude.{unwrap_or}
use Rattle.ac_syntax.specs.Code.{code_size, handlers_size, stop, no_handler}
use Rattle.ac_syntax.specs.Statements.{before, code_of, task_before, tasks_of, handler_before, handlers_of}
use Rattle.ac_rules.specs.Scopes.{first_task, standings_from, handler_standings, behind_code}
use Rattle.ac_rules.specs.Resolved.{resolve, resolve_handlers}
use Rattle.ac_rules.specs.Walks.{outcome}
use Rattle.ac_check.specs.NamedHandlers.{named_by}
use Rattle.ac_check.proofs.Resolving.{listed_before, tasks_before, handlers_before}
use Rattle.ac_check.proofs.walk.Walk.+statements.Given as goal

abbrev pub decreases-walk_body : goal.decreases-walk_body
decreases-walk_body l = 3 * code_size l.body.now + 2

abbrev pub decreases-walk_statement : goal.decreases-walk_statement
decreases-walk_statement l = 3 * code_size (before l.stmt.now stop)

abbrev pub decreases-walk_statements : goal.decreases-walk_statements
decreases-walk_statements l = 3 * code_size l.stmts.now + 1

abbrev pub invariant-walk_statements-loop-stmt : goal.invariant-walk_statements-loop-stmt
invariant-walk_statements-loop-stmt l =
    (outcome l.self.room (standings_from l.self.scope (code_of (drop l.stmt-index l.stmt-items))) ≡ outcome l.initial.self.room (standings_from l.initial.self.scope l.stmts))
    × (l.self.scope ≡ l.initial.self.scope)
    × (listed_before l.made.items (resolve l.self.scope (code_of (drop l.stmt-index l.stmt-items))) ≡ resolve l.initial.self.scope l.stmts)

abbrev pub decreases-walk_task : goal.decreases-walk_task
decreases-walk_task l = 3 * code_size (task_before l.task.now stop)

abbrev pub decreases-walk_tasks : goal.decreases-walk_tasks
decreases-walk_tasks l = 3 * code_size l.tasks.now + 1

abbrev pub invariant-walk_tasks-loop-task : goal.invariant-walk_tasks-loop-task
invariant-walk_tasks-loop-task l = record {
  outcome_is : outcome l.self.room (standings_from l.self.scope (tasks_of (drop l.task-index l.task-items))) ≡ outcome l.initial.self.room (standings_from l.initial.self.scope l.tasks);
  scope_is : behind_code l.self.scope (tasks_of (drop l.task-index l.task-items)) ≡ behind_code l.initial.self.scope l.tasks;
  made_is : tasks_before l.made.items (resolve l.self.scope (tasks_of (drop l.task-index l.task-items))) ≡ resolve l.initial.self.scope l.tasks;
  first_is : l.first ≡ unwrap_or (first_task l.self.scope) (length l.self.scope);
}

abbrev pub decreases-walk_handled : goal.decreases-walk_handled
decreases-walk_handled l = 3 * (code_size l.body.now + handlers_size l.handlers.now) + 2

abbrev pub decreases-walk_handler : goal.decreases-walk_handler
decreases-walk_handler l = 3 * handlers_size (handler_before l.handler.now no_handler)

abbrev pub decreases-walk_handlers : goal.decreases-walk_handlers
decreases-walk_handlers l = 3 * handlers_size l.handlers.now + 1

abbrev pub invariant-walk_handlers-loop-handler : goal.invariant-walk_handlers-loop-handler
invariant-walk_handlers-loop-handler l = record {
  outcome_is : outcome l.self.room (handler_standings l.self.scope (named_by l.made.items) (handlers_of (drop l.handler-index l.handler-items)))
      ≡ outcome l.initial.self.room (handler_standings l.initial.self.scope [] l.handlers);
  scope_is : l.self.scope ≡ l.initial.self.scope;
  made_is : handlers_before l.made.items (resolve_handlers l.self.scope (handlers_of (drop l.handler-index l.handler-items))) ≡ resolve_handlers l.initial.self.scope l.handlers;
}

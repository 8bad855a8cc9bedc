use Rattle.std.proofs.Common.{◌≡◌, ◌+◌, ◌*◌, drop}
use Rattle.ac_rules.specs.HasTasks.{has_tasks}
use Rattle.ac_rules.specs.Resolved.{no_statement, resolved_size}
use Rattle.ac_rules.specs.ResolvedStatements.{resolved_before, resolved_of, resolved_handlers_of}
use Rattle.ac_check.proofs.having.+having.Given as goal

abbrev pub decreases-has_tasks : goal.decreases-has_tasks
decreases-has_tasks l = 2 * resolved_size l.stmts.now + 1

abbrev pub decreases-one_has_tasks : goal.decreases-one_has_tasks
decreases-one_has_tasks l = 2 * resolved_size (resolved_before l.stmt.now no_statement)

abbrev pub invariant-has_tasks-loop-stmt : goal.invariant-has_tasks-loop-stmt
invariant-has_tasks-loop-stmt l = has_tasks (resolved_of (drop l.stmt-index l.stmt-items)) ≡ has_tasks l.stmts

abbrev pub decreases-some_has_tasks : goal.decreases-some_has_tasks
decreases-some_has_tasks l = 2 * resolved_size l.handlers.now + 2

abbrev pub invariant-some_has_tasks-loop-handler : goal.invariant-some_has_tasks-loop-handler
invariant-some_has_tasks-loop-handler l = has_tasks (resolved_handlers_of (drop l.handler-index l.handler-items)) ≡ has_tasks l.handlers

-- Resolved statements in a list, as contracts see them.
use Rattle.std.specs.Prelude.{List, [], ◌∷◌}
use Rattle.ac_rules.specs.Resolved.{ResolvedCode, calls_at, sets_at, sums_at, loops_at, views_at, stables_at, declares_at, gathers_at, works_at, begins_at, tries_at, handles_at, no_statement, a_command, a_block}
use Rattle.ac_rules.specs.declared.resolved.ResolvedStmt.{ResolvedStmt}
use Rattle.ac_rules.specs.declared.resolved.ResolvedStmt.TheVariants.{Call, Set, Sum, Loop, View, Stable, Declare, Tasks, Handled}
use Rattle.ac_rules.specs.declared.resolved.ResolvedTask.{ResolvedTask}
use Rattle.ac_rules.specs.declared.resolved.ResolvedHandler.{ResolvedHandler}

-- a statement and what follows it
abbrev pub resolved_before : ResolvedStmt → ResolvedCode → ResolvedCode
resolved_before (Call line target object operation args) rest = a_command (calls_at line target object operation args) rest
resolved_before (Set line target from) rest = a_command (sets_at line target from) rest
resolved_before (Sum line target from minus number) rest = a_command (sums_at line target from minus number) rest
resolved_before (Loop line elements backward object body) rest = a_block (loops_at line elements backward object) body rest
resolved_before (View line kind object at body) rest = a_block (views_at line kind object at) body rest
resolved_before (Stable line object body) rest = a_block (stables_at line object) body rest
resolved_before (Declare line decls body) rest = a_block (declares_at line decls) body rest
resolved_before (Tasks line tasks) rest = a_block (gathers_at line) tasks rest
resolved_before (Handled body handlers) rest = a_block begins_at (a_block tries_at body handlers) rest

abbrev pub resolved_of : List ResolvedStmt → ResolvedCode
resolved_of [] = no_statement
resolved_of (stmt ∷ stmts) = resolved_before stmt (resolved_of stmts)

-- a task and those that follow it
abbrev pub resolved_task_before : ResolvedTask → ResolvedCode → ResolvedCode
resolved_task_before task rest = a_block (works_at task.line task.name task.locals) task.steps rest

-- the tasks of a block
abbrev pub resolved_tasks_of : List ResolvedTask → ResolvedCode
resolved_tasks_of [] = no_statement
resolved_tasks_of (task ∷ tasks) = resolved_task_before task (resolved_tasks_of tasks)

-- a handler and those that follow it
abbrev pub resolved_handler_before : ResolvedHandler → ResolvedCode → ResolvedCode
resolved_handler_before handler rest = a_block (handles_at handler.catches) handler.body rest

-- the handlers of a block
abbrev pub resolved_handlers_of : List ResolvedHandler → ResolvedCode
resolved_handlers_of [] = no_statement
resolved_handlers_of (handler ∷ handlers) = resolved_handler_before handler (resolved_handlers_of handlers)

-- Statements in a list, as contracts see them.
use Rattle.std.specs.Prelude.{List, [], ◌∷◌}
use Rattle.ac_syntax.specs.Code.{Code, call_at, set_at, sum_at, loop_at, view_at, stable_at, declare_at, tasks_at, task_at, stop, one, block, handled, HandlerCode, no_handler, handler}
use Rattle.ac_syntax.specs.declared.stmt.Stmt.{Stmt}
use Rattle.ac_syntax.specs.declared.stmt.Stmt.TheVariants.{Call, Set, Sum, Loop, View, Stable, Declare, Tasks, Handled}
use Rattle.ac_syntax.specs.declared.stmt.TaskText.{TaskText}
use Rattle.ac_syntax.specs.declared.stmt.Handler.{Handler}

-- a statement and what follows it
abbrev pub before : Stmt → Code → Code
before (Call line target object op args) rest = one (call_at line target object op args) rest
before (Set line target from) rest = one (set_at line target from) rest
before (Sum line target from minus number) rest = one (sum_at line target from minus number) rest
before (Loop line name elements backward object body) rest = block (loop_at line name elements backward object) body rest
before (View line kind object at name body) rest = block (view_at line kind object at name) body rest
before (Stable line object body) rest = block (stable_at line object) body rest
before (Declare line decls body) rest = block (declare_at line decls) body rest
before (Tasks line tasks) rest = block (tasks_at line) tasks rest
before (Handled line body handlers) rest = handled line body handlers rest

abbrev pub code_of : List Stmt → Code
code_of [] = stop
code_of (stmt ∷ stmts) = before stmt (code_of stmts)

-- a task and those that follow it
abbrev pub task_before : TaskText → Code → Code
task_before task rest = block (task_at task.line task.name task.locals) task.steps rest

-- the tasks of a block
abbrev pub tasks_of : List TaskText → Code
tasks_of [] = stop
tasks_of (task ∷ tasks) = task_before task (tasks_of tasks)

-- a handler and those behind it
abbrev pub handler_before : Handler → HandlerCode → HandlerCode
handler_before own more = handler own.line own.catches own.body more

-- the handlers of a block
abbrev pub handlers_of : List Handler → HandlerCode
handlers_of [] = no_handler
handlers_of (first ∷ handlers) = handler_before first (handlers_of handlers)

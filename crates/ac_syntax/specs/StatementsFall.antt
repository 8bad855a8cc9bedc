-- The statements inside a block are fewer than those that it is among.
use Rattle.std.specs.Prelude.{◌≤◌, max, List, [], ◌∷◌}
use Rattle.std.proofs.Common.{arith}
use denote.Param.Weighed.{most}
use Rattle.ac_syntax.specs.Code.{code_size, handlers_size}
use Rattle.ac_syntax.specs.Statements.{code_of, tasks_of, handlers_of}
use Rattle.ac_syntax.specs.declared.stmt.Stmt.{Stmt}
use Rattle.ac_syntax.specs.declared.stmt.Stmt.TheVariants.{Call, Set, Sum, Loop, View, Stable, Declare, Tasks, Handled}
use Rattle.ac_syntax.specs.declared.stmt.TaskText.{TaskText}
use Rattle.ac_syntax.specs.declared.stmt.Handler.{Handler}
use Rattle.ac_syntax.specs.declared.stmt.Handlers.TheDeep.{deep-Stmt, deep-TaskText, deep-Handler}

-- no body has more statements than all around it together
pub bodies_fall : (stmts : List Stmt) → max (most deep-Stmt stmts) 0 ≤ code_size (code_of stmts)
bodies_fall [] = omega arith
bodies_fall (Call _ _ _ _ _ ∷ stmts) = omega (arith, bodies_fall stmts)
bodies_fall (Set _ _ _ ∷ stmts) = omega (arith, bodies_fall stmts)
bodies_fall (Sum _ _ _ _ _ ∷ stmts) = omega (arith, bodies_fall stmts)
bodies_fall (Loop _ _ _ _ _ body ∷ stmts) = omega (arith, bodies_fall stmts)
bodies_fall (View _ _ _ _ _ body ∷ stmts) = omega (arith, bodies_fall stmts)
bodies_fall (Stable _ _ body ∷ stmts) = omega (arith, bodies_fall stmts)
bodies_fall (Declare _ _ body ∷ stmts) = omega (arith, bodies_fall stmts)
bodies_fall (Tasks _ tasks ∷ stmts) = omega (arith, bodies_fall stmts)
bodies_fall (Handled _ body handlers ∷ stmts) = omega (arith, bodies_fall stmts)

-- and no task's commands
pub tasks_fall : (tasks : List TaskText) → max (most deep-TaskText tasks) 0 ≤ code_size (tasks_of tasks)
tasks_fall [] = omega arith
tasks_fall (task ∷ tasks) = omega (arith, tasks_fall tasks)

-- and no handler's statements
pub handlers_fall : (handlers : List Handler) → max (most deep-Handler handlers) 0 ≤ handlers_size (handlers_of handlers)
handlers_fall [] = omega arith
handlers_fall (first ∷ handlers) = omega (arith, handlers_fall handlers)

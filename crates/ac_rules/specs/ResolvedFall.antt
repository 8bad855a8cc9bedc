-- The resolved statements inside a block are fewer than those that it is among.
use Rattle.std.specs.Prelude.{◌≤◌, max, List, [], ◌∷◌}
use Rattle.std.proofs.Common.{arith}
use denote.Param.Weighed.{most}
use Rattle.ac_rules.specs.Resolved.{resolved_size}
use Rattle.ac_rules.specs.ResolvedStatements.{resolved_of, resolved_tasks_of, resolved_handlers_of}
use Rattle.ac_rules.specs.declared.resolved.ResolvedStmt.{ResolvedStmt}
use Rattle.ac_rules.specs.declared.resolved.ResolvedStmt.TheVariants.{Call, Set, Sum, Loop, View, Stable, Declare, Tasks, Handled}
use Rattle.ac_rules.specs.declared.resolved.ResolvedTask.{ResolvedTask}
use Rattle.ac_rules.specs.declared.resolved.ResolvedHandler.{ResolvedHandler}
use Rattle.ac_rules.specs.declared.resolved.ResolvedHandlers.TheDeep.{deep-ResolvedStmt, deep-ResolvedTask, deep-ResolvedHandler}

-- no body has more statements than all around it together
pub resolved_bodies_fall : (stmts : List ResolvedStmt) → max (most deep-ResolvedStmt stmts) 0 ≤ resolved_size (resolved_of stmts)
resolved_bodies_fall [] = omega arith
resolved_bodies_fall (Call _ _ _ _ _ ∷ stmts) = omega (arith, resolved_bodies_fall stmts)
resolved_bodies_fall (Set _ _ _ ∷ stmts) = omega (arith, resolved_bodies_fall stmts)
resolved_bodies_fall (Sum _ _ _ _ _ ∷ stmts) = omega (arith, resolved_bodies_fall stmts)
resolved_bodies_fall (Loop _ _ _ _ body ∷ stmts) = omega (arith, resolved_bodies_fall stmts)
resolved_bodies_fall (View _ _ _ _ body ∷ stmts) = omega (arith, resolved_bodies_fall stmts)
resolved_bodies_fall (Stable _ _ body ∷ stmts) = omega (arith, resolved_bodies_fall stmts)
resolved_bodies_fall (Declare _ _ body ∷ stmts) = omega (arith, resolved_bodies_fall stmts)
resolved_bodies_fall (Tasks _ tasks ∷ stmts) = omega (arith, resolved_bodies_fall stmts)
resolved_bodies_fall (Handled body handlers ∷ stmts) = omega (arith, resolved_bodies_fall stmts)

-- and no task's commands
pub resolved_tasks_fall : (tasks : List ResolvedTask) → max (most deep-ResolvedTask tasks) 0 ≤ resolved_size (resolved_tasks_of tasks)
resolved_tasks_fall [] = omega arith
resolved_tasks_fall (task ∷ tasks) = omega (arith, resolved_tasks_fall tasks)

-- and no handler's statements
pub resolved_handlers_fall : (handlers : List ResolvedHandler) → max (most deep-ResolvedHandler handlers) 0 ≤ resolved_size (resolved_handlers_of handlers)
resolved_handlers_fall [] = omega arith
resolved_handlers_fall (handler ∷ handlers) = omega (arith, resolved_handlers_fall handlers)

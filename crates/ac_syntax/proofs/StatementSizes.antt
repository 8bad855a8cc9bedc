-- A statement among others.
use Rattle.std.proofs.Common.{◌≡◌, ◌+◌, ◌<◌, ◌≤◌, ℕ, zero, suc, List, [], ◌∷◌, length, get_or, arith}
use Rattle.ac_syntax.specs.Code.{Code, code_size, handlers_size, stop, no_handler}
use Rattle.ac_syntax.specs.Statements.{before, code_of, task_before, tasks_of, handler_before, handlers_of}
use Rattle.ac_syntax.specs.declared.stmt.TaskText.{TaskText}
use Rattle.ac_syntax.specs.declared.stmt.Handler.{Handler}
use Rattle.ac_syntax.specs.declared.stmt.Stmt.{Stmt}
use Rattle.ac_syntax.specs.declared.stmt.Stmt.TheVariants.{Call, Set, Sum, Loop, View, Stable, Declare, Tasks, Handled}

size_before : (stmt : Stmt) (rest : Code) → code_size (before stmt rest) ≡ code_size (before stmt stop) + code_size rest
size_before (Call _ _ _ _ _) rest = omega arith
size_before (Set _ _ _) rest = omega arith
size_before (Sum _ _ _ _ _) rest = omega arith
size_before (Loop _ _ _ _ _ _) rest = omega arith
size_before (View _ _ _ _ _ _) rest = omega arith
size_before (Stable _ _ _) rest = omega arith
size_before (Declare _ _ _) rest = omega arith
size_before (Tasks _ _) rest = omega arith
size_before (Handled _ _ _) rest = omega arith

-- it isn't larger than all together
pub size_among : (stmts : List Stmt) (i : ℕ) (d : Stmt) → i < length stmts → code_size (before (get_or stmts i d) stop) ≤ code_size (code_of stmts)
size_among [] i d within = absurd (omega arith)
size_among (stmt ∷ stmts) zero d within = omega (arith, size_before stmt (code_of stmts))
size_among (stmt ∷ stmts) (suc i) d within =
    let further : i < length stmts = omega arith in
    omega (arith, size_before stmt (code_of stmts), size_among stmts i d further)

-- nor is a task
pub task_among : (tasks : List TaskText) (i : ℕ) (d : TaskText) → i < length tasks → code_size (task_before (get_or tasks i d) stop) ≤ code_size (tasks_of tasks)
task_among [] i d within = absurd (omega arith)
task_among (task ∷ tasks) zero d within = omega arith
task_among (task ∷ tasks) (suc i) d within =
    let further : i < length tasks = omega arith in
    omega (arith, task_among tasks i d further)

-- nor is a handler
pub handler_among : (handlers : List Handler) (i : ℕ) (d : Handler)
    → i < length handlers → handlers_size (handler_before (get_or handlers i d) no_handler) ≤ handlers_size (handlers_of handlers)
handler_among [] i d within = absurd (omega arith)
handler_among (first ∷ handlers) zero d within = omega arith
handler_among (first ∷ handlers) (suc i) d within =
    let further : i < length handlers = omega arith in
    omega (arith, handler_among handlers i d further)

-- Items resolved one after another.
use Rattle.std.proofs.Common.{◌≡◌, ◌+◌, ◌<◌, ◌≤◌, ℕ, List, [], ◌∷◌, ◌++◌, length, drop, get_or, Option, Some, None, refl, sym, ap, ◌∙◌}
use Rattle.std.proofs.lemmas.List.{append_assoc, at_drop_all}
use Rattle.ac_base.specs.declared.reason.Exception.{Exception}
use Rattle.ac_syntax.specs.Code.{Code, stop, no_handler}
use Rattle.ac_syntax.specs.Items.{declares}
use Rattle.ac_syntax.specs.Statements.{before, code_of, task_before, tasks_of, handler_before, handlers_of}
use Rattle.ac_syntax.specs.declared.decl.Decl.{Decl}
use Rattle.ac_syntax.specs.declared.stmt.Stmt.{Stmt}
use Rattle.ac_syntax.specs.declared.stmt.Stmt.TheVariants.{Call, Set, Sum, Loop, View, Stable, Declare, Tasks, Handled}
use Rattle.ac_syntax.specs.declared.stmt.TaskText.{TaskText}
use Rattle.ac_syntax.specs.declared.stmt.Handler.{Handler}
use Rattle.ac_rules.specs.declared.resolved.ResolvedDecl.{ResolvedDecl}
use Rattle.ac_rules.specs.declared.resolved.ResolvedStmt.{ResolvedStmt}
use Rattle.ac_rules.specs.declared.resolved.ResolvedStmt.TheVariants as made
use Rattle.ac_rules.specs.Scopes.{Scope, entry, a_task, with_named, standing, with_entry, with_decls, decl_entry, standing_decls}
use Rattle.ac_rules.specs.Walks.{goes_on, outcome}
use Rattle.ac_rules.specs.Resolved.{ResolvedCode, no_statement, a_command, a_block, resolve_decl, resolve_decls, resolve, resolve_handlers}
use Rattle.ac_rules.specs.ResolvedStatements.{resolved_before, resolved_of, resolved_task_before, resolved_tasks_of, resolved_handler_before, resolved_handlers_of}
use Rattle.ac_rules.specs.declared.resolved.ResolvedTask.{ResolvedTask}
use Rattle.ac_rules.specs.declared.resolved.ResolvedHandler.{ResolvedHandler}
use Rattle.ac_rules.proofs.Outcomes.{gone_on, next_item}
use Rattle.ac_check.specs.NamedHandlers.{named_before, named_by}

-- behind the next of some declarations
module _ (scope now : Scope) (decls : List Decl) (i : ℕ) (decl : Decl) (within : i < length decls) (is : decl ≡ get_or decls i decl)
    (moved : now ≡ with_entry scope (decl_entry scope decl)) where
  front : drop i decls ≡ decl ∷ drop (i + 1) decls
  front = next_item decls i decl within is

  pub outcome_on : (room after : ℕ) → outcome room (standing (declares decl) scope ∷ []) ≡ goes_on after
      → outcome after (standing_decls now (drop (i + 1) decls)) ≡ outcome room (standing_decls scope (drop i decls))
  outcome_on room after known =
      ap (λ s. outcome after (standing_decls s (drop (i + 1) decls))) moved
      ∙ sym (gone_on room after (standing (declares decl) scope ∷ []) (standing_decls (with_entry scope (decl_entry scope decl)) (drop (i + 1) decls)) known)
      ∙ sym (ap (λ (l : List Decl). outcome room (standing_decls scope l)) front)

  pub scope_on : with_decls now (drop (i + 1) decls) ≡ with_decls scope (drop i decls)
  scope_on = ap (λ (s : Scope). with_decls s (drop (i + 1) decls)) moved ∙ sym (ap (λ (l : List Decl). with_decls scope l) front)

  pub resolved_on : (kept more : List ResolvedDecl) (made : ResolvedDecl) → more ≡ kept ++ made ∷ [] → made ≡ resolve_decl scope decl
      → more ++ resolve_decls now (drop (i + 1) decls) ≡ kept ++ resolve_decls scope (drop i decls)
  resolved_on kept more made grown one =
      ap (λ (l : List ResolvedDecl). l ++ resolve_decls now (drop (i + 1) decls)) grown
      ∙ append_assoc kept (made ∷ []) (resolve_decls now (drop (i + 1) decls))
      ∙ ap (λ (d : ResolvedDecl). kept ++ d ∷ resolve_decls now (drop (i + 1) decls)) one
      ∙ ap (λ (s : Scope). kept ++ resolve_decl scope decl ∷ resolve_decls s (drop (i + 1) decls)) moved
      ∙ sym (ap (λ (l : List Decl). kept ++ resolve_decls scope l) front)

-- statements behind others
abbrev followed : ResolvedCode → ResolvedCode → ResolvedCode
followed no_statement more = more
followed (a_command simple rest) more = a_command simple (followed rest more)
followed (a_block head body rest) more = a_block head body (followed rest more)

resolve_before : (scope : Scope) (stmt : Stmt) (rest : Code) → resolve scope (before stmt rest) ≡ followed (resolve scope (before stmt stop)) (resolve scope rest)
resolve_before scope (Call _ _ _ _ _) rest = refl
resolve_before scope (Set _ _ _) rest = refl
resolve_before scope (Sum _ _ _ _ _) rest = refl
resolve_before scope (Loop _ _ _ _ _ _) rest = refl
resolve_before scope (View _ _ _ _ _ _) rest = refl
resolve_before scope (Stable _ _ _) rest = refl
resolve_before scope (Declare _ _ _) rest = refl
resolve_before scope (Tasks _ _) rest = refl
resolve_before scope (Handled _ _ _) rest = refl

before_followed : (stmt : ResolvedStmt) (rest : ResolvedCode) → resolved_before stmt rest ≡ followed (resolved_before stmt no_statement) rest
before_followed (made.Call _ _ _ _ _) rest = refl
before_followed (made.Set _ _ _) rest = refl
before_followed (made.Sum _ _ _ _ _) rest = refl
before_followed (made.Loop _ _ _ _ _) rest = refl
before_followed (made.View _ _ _ _ _) rest = refl
before_followed (made.Stable _ _ _) rest = refl
before_followed (made.Declare _ _ _) rest = refl
before_followed (made.Tasks _ _) rest = refl
before_followed (made.Handled _ _) rest = refl

-- statements in a list before others
abbrev pub listed_before : List ResolvedStmt → ResolvedCode → ResolvedCode
listed_before [] rest = rest
listed_before (stmt ∷ stmts) rest = resolved_before stmt (listed_before stmts rest)

pub listed_all : (stmts : List ResolvedStmt) → listed_before stmts no_statement ≡ resolved_of stmts
listed_all [] = refl
listed_all (stmt ∷ stmts) = ap (resolved_before stmt) (listed_all stmts)

listed_push : (stmts : List ResolvedStmt) (stmt : ResolvedStmt) (rest : ResolvedCode)
    → listed_before (stmts ++ stmt ∷ []) rest ≡ listed_before stmts (resolved_before stmt rest)
listed_push [] stmt rest = refl
listed_push (first ∷ stmts) stmt rest = ap (resolved_before first) (listed_push stmts stmt rest)

-- behind the next of some statements
pub statements_on : (scope now : Scope) (stmts : List Stmt) (i : ℕ) (stmt : Stmt) (within : i < length stmts) (is : stmt ≡ get_or stmts i stmt) → now ≡ scope
    → (kept more : List ResolvedStmt) (made : ResolvedStmt) → more ≡ kept ++ made ∷ [] → resolved_before made no_statement ≡ resolve scope (before stmt stop)
    → listed_before more (resolve now (code_of (drop (i + 1) stmts))) ≡ listed_before kept (resolve scope (code_of (drop i stmts)))
statements_on scope now stmts i stmt within is same kept more made grown one =
    let rest = code_of (drop (i + 1) stmts) in
    ap (λ (s : Scope). listed_before more (resolve s rest)) same
    ∙ ap (λ (l : List ResolvedStmt). listed_before l (resolve scope rest)) grown
    ∙ listed_push kept made (resolve scope rest)
    ∙ ap (listed_before kept) (
    before_followed made (resolve scope rest)
    ∙ ap (λ c. followed c (resolve scope rest)) one
    ∙ sym (resolve_before scope stmt rest)
    ∙ sym (ap (λ (l : List Stmt). resolve scope (code_of l)) (next_item stmts i stmt within is)))

-- behind all of them
pub statements_done : (scope : Scope) (stmts : List Stmt) (i : ℕ) (all : ResolvedCode) → length stmts ≤ i → (kept : List ResolvedStmt)
    → listed_before kept (resolve scope (code_of (drop i stmts))) ≡ all → resolved_of kept ≡ all
statements_done scope stmts i all end kept h =
    sym (listed_all kept)
    ∙ sym (at_drop_all (λ (l : List Stmt). listed_before kept (resolve scope (code_of l))) stmts i end)
    ∙ h

-- ---- tasks

-- in a list before others
abbrev pub tasks_before : List ResolvedTask → ResolvedCode → ResolvedCode
tasks_before [] rest = rest
tasks_before (task ∷ tasks) rest = resolved_task_before task (tasks_before tasks rest)

tasks_all : (tasks : List ResolvedTask) → tasks_before tasks no_statement ≡ resolved_tasks_of tasks
tasks_all [] = refl
tasks_all (task ∷ tasks) = ap (resolved_task_before task) (tasks_all tasks)

tasks_push : (tasks : List ResolvedTask) (task : ResolvedTask) (rest : ResolvedCode) → tasks_before (tasks ++ task ∷ []) rest ≡ tasks_before tasks (resolved_task_before task rest)
tasks_push [] task rest = refl
tasks_push (first ∷ tasks) task rest = ap (resolved_task_before first) (tasks_push tasks task rest)

-- behind the next of some tasks
pub tasks_resolved_on : (scope now : Scope) (tasks : List TaskText) (i : ℕ) (task : TaskText) (within : i < length tasks) (is : task ≡ get_or tasks i task) → now ≡ scope ++ entry task.name a_task ∷ []
    → (kept more : List ResolvedTask) (made : ResolvedTask) → more ≡ kept ++ made ∷ [] → resolved_task_before made no_statement ≡ resolve scope (task_before task stop)
    → tasks_before more (resolve now (tasks_of (drop (i + 1) tasks))) ≡ tasks_before kept (resolve scope (tasks_of (drop i tasks)))
tasks_resolved_on scope now tasks i task within is same kept more made grown one =
    let rest = tasks_of (drop (i + 1) tasks) in
    let behind = scope ++ entry task.name a_task ∷ [] in
    ap (λ (s : Scope). tasks_before more (resolve s rest)) same
    ∙ ap (λ (l : List ResolvedTask). tasks_before l (resolve behind rest)) grown
    ∙ tasks_push kept made (resolve behind rest)
    ∙ ap (tasks_before kept) (
    ap (λ c. followed c (resolve behind rest)) one
    ∙ sym (ap (λ (l : List TaskText). resolve scope (tasks_of l)) (next_item tasks i task within is)))

-- behind all of them
pub tasks_done : (scope : Scope) (tasks : List TaskText) (i : ℕ) (all : ResolvedCode) → length tasks ≤ i → (kept : List ResolvedTask)
    → tasks_before kept (resolve scope (tasks_of (drop i tasks))) ≡ all → resolved_tasks_of kept ≡ all
tasks_done scope tasks i all end kept h =
    sym (tasks_all kept)
    ∙ sym (at_drop_all (λ (l : List TaskText). tasks_before kept (resolve scope (tasks_of l))) tasks i end)
    ∙ h

-- ---- handlers

-- in a list before others
abbrev pub handlers_before : List ResolvedHandler → ResolvedCode → ResolvedCode
handlers_before [] rest = rest
handlers_before (first ∷ handlers) rest = resolved_handler_before first (handlers_before handlers rest)

handlers_all : (handlers : List ResolvedHandler) → handlers_before handlers no_statement ≡ resolved_handlers_of handlers
handlers_all [] = refl
handlers_all (first ∷ handlers) = ap (resolved_handler_before first) (handlers_all handlers)

handlers_push : (handlers : List ResolvedHandler) (own : ResolvedHandler) (rest : ResolvedCode) →
    handlers_before (handlers ++ own ∷ []) rest ≡ handlers_before handlers (resolved_handler_before own rest)
handlers_push [] own rest = refl
handlers_push (first ∷ handlers) own rest = ap (resolved_handler_before first) (handlers_push handlers own rest)

-- behind the next of some handlers
pub handlers_resolved_on : (scope now : Scope) (handlers : List Handler) (i : ℕ) (own : Handler) (within : i < length handlers) (is : own ≡ get_or handlers i own) → now ≡ scope
    → (kept more : List ResolvedHandler) (made : ResolvedHandler) → more ≡ kept ++ made ∷ []
    → resolved_handler_before made no_statement ≡ resolve_handlers scope (handler_before own no_handler)
    → handlers_before more (resolve_handlers now (handlers_of (drop (i + 1) handlers))) ≡ handlers_before kept (resolve_handlers scope (handlers_of (drop i handlers)))
handlers_resolved_on scope now handlers i own within is same kept more made grown one =
    let rest = handlers_of (drop (i + 1) handlers) in
    ap (λ (s : Scope). handlers_before more (resolve_handlers s rest)) same
    ∙ ap (λ (l : List ResolvedHandler). handlers_before l (resolve_handlers scope rest)) grown
    ∙ handlers_push kept made (resolve_handlers scope rest)
    ∙ ap (handlers_before kept) (
    ap (λ c. followed c (resolve_handlers scope rest)) one
    ∙ sym (ap (λ (l : List Handler). resolve_handlers scope (handlers_of l)) (next_item handlers i own within is)))

-- behind all of them
pub handlers_done : (scope : Scope) (handlers : List Handler) (i : ℕ) (all : ResolvedCode) → length handlers ≤ i → (kept : List ResolvedHandler)
    → handlers_before kept (resolve_handlers scope (handlers_of (drop i handlers))) ≡ all → resolved_handlers_of kept ≡ all
handlers_done scope handlers i all end kept h =
    sym (handlers_all kept)
    ∙ sym (at_drop_all (λ (l : List Handler). handlers_before kept (resolve_handlers scope (handlers_of l))) handlers i end)
    ∙ h

-- the exceptions that they name, with that of one more

before_more : (first : Option Exception) (named : List Exception) (own : Option Exception) →
    named_before first (with_named named own) ≡ with_named (named_before first named) own
before_more None named own = refl
before_more (Some exception) named None = refl
before_more (Some exception) named (Some own) = refl

one_named : (own : Option Exception) → named_before own [] ≡ with_named [] own
one_named None = refl
one_named (Some own) = refl

named_push : (handlers : List ResolvedHandler) (made : ResolvedHandler) → named_by (handlers ++ made ∷ []) ≡ with_named (named_by handlers) made.catches
named_push [] made = one_named made.catches
named_push (first ∷ handlers) made = ap (named_before first.catches) (named_push handlers made) ∙ before_more first.catches (named_by handlers) made.catches

pub named_on : (kept more : List ResolvedHandler) (made : ResolvedHandler) (own : Option Exception) → more ≡ kept ++ made ∷ [] → made.catches ≡ own →
    named_by more ≡ with_named (named_by kept) own
named_on kept more made own grown same = ap (λ (l : List ResolvedHandler). named_by l) grown ∙ named_push kept made ∙ ap (with_named (named_by kept)) same

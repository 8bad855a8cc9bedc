-- The items of statements among others, and of a block.
use Rattle.std.proofs.Common.{◌≡◌, ◌+◌, ◌<◌, ◌≤◌, ℕ, List, [], ◌∷◌, ◌++◌, length, take, drop, get_or, Option, Some, None, refl, sym, ap, ◌∙◌, arith}
use Rattle.std.proofs.lemmas.List.{append_assoc, append-nil, at_drop_all}
use Rattle.ac_base.specs.declared.reason.Exception.{Exception}
use Rattle.ac_syntax.specs.Code.{Code, Head, loop_at, view_at, stable_at, declare_at, tasks_at, task_at, stop, one, block, handled, HandlerCode, no_handler}
use Rattle.ac_syntax.specs.Items.{opens, tries, bare}
use Rattle.ac_syntax.specs.Statements.{before, code_of, task_before, tasks_of, handler_before, handlers_of}
use Rattle.ac_syntax.specs.declared.decl.Decl.{Decl}
use Rattle.ac_syntax.specs.declared.refusal.RefusalKind.{RefusalKind}
use Rattle.ac_syntax.specs.declared.stmt.Stmt.{Stmt}
use Rattle.ac_syntax.specs.declared.stmt.Stmt.TheVariants.{Call, Set, Sum, Loop, View, Stable, Declare, Tasks, Handled}
use Rattle.ac_syntax.specs.declared.stmt.TaskText.{TaskText}
use Rattle.ac_syntax.specs.declared.stmt.Handler.{Handler}
use Rattle.ac_rules.specs.Scopes.{Scope, Entry, entry, a_task, Standing, standing, standing_handler, with_named, with_entry, with_decls, decl_entry, decls_in, behind_words, inside, behind_block, behind_code, standing_decls, standings_from, handler_standings}
use Rattle.ac_rules.specs.Walks.{goes_on, refused, step, outcome, fault_with, stmt_item}
use Rattle.ac_rules.proofs.Outcomes.{gone_on, stopped, head_on, next_item}

-- a block's items, with none behind it
block_end : (scope : Scope) (head : Head) (body rest : Code)
    → standings_from scope (block head body rest) ≡ standings_from scope (block head body stop) ++ standings_from (behind_block scope head) rest
block_end scope head body rest =
    let first = standing (opens (bare head)) scope in
    let decls = standing_decls (behind_words scope head) (decls_in head) in
    let within = standings_from (inside scope head) body in
    let later = standings_from (behind_block scope head) rest in
    ap (λ (l : List Standing). first ∷ (decls ++ (l ++ later))) (sym (append-nil within))
    ∙ ap (λ (l : List Standing). first ∷ l) (sym (append_assoc decls (within ++ []) later))

-- the same of a block with handlers
handled_end : (scope : Scope) (line : ℕ) (body : Code) (handlers : HandlerCode) (rest : Code)
    → standings_from scope (handled line body handlers rest) ≡ standings_from scope (handled line body handlers stop) ++ standings_from scope rest
handled_end scope line body handlers rest =
    let tried = standings_from scope body in
    let taken = handler_standings scope [] handlers in
    let later = standings_from scope rest in
    ap (λ (l : List Standing). standing (tries line) scope ∷ (tried ++ (l ++ later))) (sym (append-nil taken))
    ∙ ap (λ (l : List Standing). standing (tries line) scope ∷ l) (sym (append_assoc tried (taken ++ []) later))

-- a statement's items, and those behind it
pub standings_before : (scope : Scope) (stmt : Stmt) (rest : Code)
    → standings_from scope (before stmt rest) ≡ standings_from scope (before stmt stop) ++ standings_from scope rest
standings_before scope (Call _ _ _ _ _) rest = refl
standings_before scope (Set _ _ _) rest = refl
standings_before scope (Sum _ _ _ _ _) rest = refl
standings_before scope (Loop line name elements backward object body) rest = block_end scope (loop_at line name elements backward object) body rest
standings_before scope (View line kind object at name body) rest = block_end scope (view_at line kind object at name) body rest
standings_before scope (Stable line object body) rest = block_end scope (stable_at line object) body rest
standings_before scope (Declare line decls body) rest = block_end scope (declare_at line decls) body rest
standings_before scope (Tasks line tasks) rest = block_end scope (tasks_at line) tasks rest
standings_before scope (Handled line body handlers) rest = handled_end scope line body handlers rest

-- a statement's first item
pub begins_with : (scope : Scope) (stmt : Stmt) → (later : List Standing) × (standings_from scope (before stmt stop) ≡ standing (stmt_item stmt) scope ∷ later)
begins_with scope (Call _ _ _ _ _) = ([], refl)
begins_with scope (Set _ _ _) = ([], refl)
begins_with scope (Sum _ _ _ _ _) = ([], refl)
begins_with scope (Loop _ _ _ _ _ _) = (_, refl)
begins_with scope (View _ _ _ _ _ _) = (_, refl)
begins_with scope (Stable _ _ _) = (_, refl)
begins_with scope (Declare _ _ _) = (_, refl)
begins_with scope (Tasks _ _) = (_, refl)
begins_with scope (Handled _ _ _) = (_, refl)

module _ (room : ℕ) (scope : Scope) (stmt : Stmt) (line : ℕ) (decls : List Decl) (body : Code) (is : stmt ≡ Declare line decls body)
    (judged : fault_with room (standing (stmt_item stmt) scope) ≡ None) where
  head_judged : fault_with room (standing (opens (declare_at line [])) scope) ≡ None
  head_judged = ap (λ s. fault_with room (standing (stmt_item s) scope)) (sym is) ∙ judged

  whole : outcome room (standings_from scope (before stmt stop)) ≡ outcome room (standing_decls scope decls ++ (standings_from (with_decls scope decls) body ++ []))
  whole =
      ap (λ s. outcome room (standings_from scope (before s stop))) is
      ∙ head_on room (declare_at line []) scope (standing_decls scope decls ++ (standings_from (with_decls scope decls) body ++ [])) head_judged

  -- behind the declarations of a block
  pub declare_on : (after : ℕ) (within : Scope) → outcome room (standing_decls scope decls) ≡ goes_on after → within ≡ with_decls scope decls
      → outcome room (standings_from scope (before stmt stop)) ≡ outcome after (standings_from within body)
  declare_on after within known now =
      whole
      ∙ gone_on room after (standing_decls scope decls) (standings_from (with_decls scope decls) body ++ []) known
      ∙ ap (outcome after) (append-nil (standings_from (with_decls scope decls) body))
      ∙ ap (λ s. outcome after (standings_from s body)) (sym now)

  -- one of them is refused
  pub declare_stopped : (at : Option ℕ) (kind : RefusalKind) → outcome room (standing_decls scope decls) ≡ refused at kind
      → outcome room (standings_from scope (before stmt stop)) ≡ refused at kind
  declare_stopped at kind bad = whole ∙ stopped room at kind (standing_decls scope decls) (standings_from (with_decls scope decls) body ++ []) bad

-- declarations leave the names before them in scope
longer : (scope : Scope) (o : Option Entry) → (more : List Entry) × (with_entry scope o ≡ scope ++ more)
longer scope None = ([], sym (append-nil scope))
longer scope (Some e) = (e ∷ [], refl)

decls_longer : (scope : Scope) (decls : List Decl) → (more : List Entry) × (with_decls scope decls ≡ scope ++ more)
decls_longer scope [] = ([], sym (append-nil scope))
decls_longer scope (decl ∷ decls) =
    let one = longer scope (decl_entry scope decl) in
    let all = decls_longer (with_entry scope (decl_entry scope decl)) decls in
    (one.0 ++ all.0, all.1 ∙ ap (λ (l : List Entry). l ++ all.0) one.1 ∙ append_assoc scope one.0 all.0)

take_front : (front more : Scope) → take (length front) (front ++ more) ≡ front
take_front [] more = refl
take_front (e ∷ front) more = ap (λ (l : Scope). e ∷ l) (take_front front more)

pub outside_decls : (scope : Scope) (decls : List Decl) → take (length scope) (with_decls scope decls) ≡ scope
outside_decls scope decls =
    let p = decls_longer scope decls in
    ap (λ (l : Scope). take (length scope) l) p.1 ∙ take_front scope p.0

module _ (room : ℕ) (scope : Scope) (stmts : List Stmt) (i : ℕ) (stmt : Stmt) (within : i < length stmts) (is : stmt ≡ get_or stmts i stmt) where
  front : outcome room (standings_from scope (code_of (drop i stmts)))
      ≡ outcome room (standings_from scope (before stmt stop) ++ standings_from scope (code_of (drop (i + 1) stmts)))
  front =
      ap (λ (l : List Stmt). outcome room (standings_from scope (code_of l))) (next_item stmts i stmt within is)
      ∙ ap (outcome room) (standings_before scope stmt (code_of (drop (i + 1) stmts)))

  -- behind the next of some statements
  pub statement_on : (after : ℕ) (now : Scope) → outcome room (standings_from scope (before stmt stop)) ≡ goes_on after → now ≡ scope
      → outcome after (standings_from now (code_of (drop (i + 1) stmts))) ≡ outcome room (standings_from scope (code_of (drop i stmts)))
  statement_on after now known same =
      ap (λ s. outcome after (standings_from s (code_of (drop (i + 1) stmts)))) same
      ∙ sym (front ∙ gone_on room after (standings_from scope (before stmt stop)) (standings_from scope (code_of (drop (i + 1) stmts))) known)

  -- it is refused
  pub statement_stopped : (at : Option ℕ) (kind : RefusalKind) → outcome room (standings_from scope (before stmt stop)) ≡ refused at kind
      → outcome room (standings_from scope (code_of (drop i stmts))) ≡ refused at kind
  statement_stopped at kind bad = front ∙ stopped room at kind (standings_from scope (before stmt stop)) (standings_from scope (code_of (drop (i + 1) stmts))) bad

-- ---- tasks

abbrev pub named : Scope → List ℕ → Scope
named scope name = scope ++ entry name a_task ∷ []

-- the tasks of a block leave the names before them in scope
code_longer : (scope : Scope) (code : Code) → (more : List Entry) × (behind_code scope code ≡ scope ++ more)
code_longer scope stop = ([], sym (append-nil scope))
code_longer scope (one _ rest) = code_longer scope rest
code_longer scope (handled _ _ _ rest) = code_longer scope rest
code_longer scope (block (loop_at _ _ _ _ _) _ rest) = code_longer scope rest
code_longer scope (block (view_at _ _ _ _ _) _ rest) = code_longer scope rest
code_longer scope (block (stable_at _ _) _ rest) = code_longer scope rest
code_longer scope (block (declare_at _ _) _ rest) = code_longer scope rest
code_longer scope (block (tasks_at _) _ rest) = code_longer scope rest
code_longer scope (block (task_at _ name _) _ rest) =
    let all = code_longer (named scope name) rest in
    (entry name a_task ∷ all.0, all.1 ∙ append_assoc scope (entry name a_task ∷ []) all.0)

pub outside_tasks : (scope : Scope) (tasks : Code) → take (length scope) (behind_code scope tasks) ≡ scope
outside_tasks scope tasks =
    let p = code_longer scope tasks in
    ap (λ (l : Scope). take (length scope) l) p.1 ∙ take_front scope p.0

-- a task's locals as the walk has them
pub same_decls : (room : ℕ) (scope now : Scope) (decls locals : List Decl) → scope ≡ now → decls ≡ locals → outcome room (standing_decls now locals) ≡ outcome room (standing_decls scope decls)
same_decls room scope now decls locals moved same =
    ap (λ s. outcome room (standing_decls s locals)) (sym moved) ∙ ap (λ (l : List Decl). outcome room (standing_decls scope l)) (sym same)

pub same_scope : (scope now : Scope) (decls locals : List Decl) → scope ≡ now → decls ≡ locals → with_decls scope decls ≡ with_decls now locals
same_scope scope now decls locals moved same = ap (λ (l : List Decl). with_decls scope l) same ∙ ap (λ (s : Scope). with_decls s locals) moved

module _ (room : ℕ) (scope : Scope) (task : TaskText) (judged : fault_with room (standing (opens (task_at task.line task.name [])) scope) ≡ None) where
  task_whole : outcome room (standings_from scope (task_before task stop))
      ≡ outcome room (standing_decls (named scope task.name) task.locals ++ (standings_from (with_decls (named scope task.name) task.locals) task.steps ++ []))
  task_whole = head_on room (task_at task.line task.name []) scope (standing_decls (named scope task.name) task.locals ++ (standings_from (with_decls (named scope task.name) task.locals) task.steps ++ [])) judged

  -- behind its locals
  pub task_on : (after : ℕ) (within : Scope) → outcome room (standing_decls (named scope task.name) task.locals) ≡ goes_on after → within ≡ with_decls (named scope task.name) task.locals
      → outcome room (standings_from scope (task_before task stop)) ≡ outcome after (standings_from within task.steps)
  task_on after within known now =
      task_whole
      ∙ gone_on room after (standing_decls (named scope task.name) task.locals) (standings_from (with_decls (named scope task.name) task.locals) task.steps ++ []) known
      ∙ ap (outcome after) (append-nil (standings_from (with_decls (named scope task.name) task.locals) task.steps))
      ∙ ap (λ s. outcome after (standings_from s task.steps)) (sym now)

  -- one of them is refused
  pub task_stopped : (at : Option ℕ) (kind : RefusalKind) → outcome room (standing_decls (named scope task.name) task.locals) ≡ refused at kind
      → outcome room (standings_from scope (task_before task stop)) ≡ refused at kind
  task_stopped at kind bad =
      task_whole ∙ stopped room at kind (standing_decls (named scope task.name) task.locals) (standings_from (with_decls (named scope task.name) task.locals) task.steps ++ []) bad

module _ (room : ℕ) (scope : Scope) (tasks : List TaskText) (i : ℕ) (task : TaskText) (within : i < length tasks) (is : task ≡ get_or tasks i task) where
  front_tasks : outcome room (standings_from scope (tasks_of (drop i tasks)))
      ≡ outcome room (standings_from scope (task_before task stop) ++ standings_from (named scope task.name) (tasks_of (drop (i + 1) tasks)))
  front_tasks =
      ap (λ (l : List TaskText). outcome room (standings_from scope (tasks_of l))) (next_item tasks i task within is)
      ∙ ap (outcome room) (block_end scope (task_at task.line task.name task.locals) task.steps (tasks_of (drop (i + 1) tasks)))

  -- behind the next of some tasks
  pub next_task_on : (after : ℕ) (now : Scope) → outcome room (standings_from scope (task_before task stop)) ≡ goes_on after → now ≡ named scope task.name
      → outcome after (standings_from now (tasks_of (drop (i + 1) tasks))) ≡ outcome room (standings_from scope (tasks_of (drop i tasks)))
  next_task_on after now known same =
      ap (λ s. outcome after (standings_from s (tasks_of (drop (i + 1) tasks)))) same
      ∙ sym (front_tasks ∙ gone_on room after (standings_from scope (task_before task stop)) (standings_from (named scope task.name) (tasks_of (drop (i + 1) tasks))) known)

  -- it is refused
  pub next_task_stopped : (at : Option ℕ) (kind : RefusalKind) → outcome room (standings_from scope (task_before task stop)) ≡ refused at kind
      → outcome room (standings_from scope (tasks_of (drop i tasks))) ≡ refused at kind
  next_task_stopped at kind bad =
      front_tasks ∙ stopped room at kind (standings_from scope (task_before task stop)) (standings_from (named scope task.name) (tasks_of (drop (i + 1) tasks))) bad

  -- and the scope behind all of them
  pub next_task_scope : (now : Scope) → now ≡ named scope task.name → behind_code now (tasks_of (drop (i + 1) tasks)) ≡ behind_code scope (tasks_of (drop i tasks))
  next_task_scope now same =
      ap (λ s. behind_code s (tasks_of (drop (i + 1) tasks))) same
      ∙ sym (ap (λ (l : List TaskText). behind_code scope (tasks_of l)) (next_item tasks i task within is))

-- what is left of the scope behind the last
pub tasks_left : (scope now : Scope) (tasks : List TaskText) (i : ℕ) (code : Code) → length tasks ≤ i → behind_code now (tasks_of (drop i tasks)) ≡ behind_code scope code → take (length scope) now ≡ scope
tasks_left scope now tasks i code end h =
    ap (λ (s : Scope). take (length scope) s) (sym (at_drop_all (λ (l : List TaskText). behind_code now (tasks_of l)) tasks i end) ∙ h)
    ∙ outside_tasks scope code

-- ---- handlers

-- a handler whose head isn't faulty: its statements
pub handler_whole : (room : ℕ) (scope : Scope) (named : List Exception) (own : Handler)
    → fault_with room (standing_handler own.line own.catches scope named) ≡ None
    → outcome room (handler_standings scope named (handler_before own no_handler)) ≡ outcome room (standings_from scope own.body)
handler_whole room scope named own judged =
    let none : room + 0 ≡ room = omega arith in
    ap (λ f. step f (Some own.line) (outcome (room + 0) (standings_from scope own.body ++ []))) judged
    ∙ ap (λ r. outcome r (standings_from scope own.body ++ [])) none
    ∙ ap (outcome room) (append-nil (standings_from scope own.body))

-- and one whose head is
pub handler_refused : (room : ℕ) (scope : Scope) (named : List Exception) (own : Handler) (line : ℕ) (kind : RefusalKind) → own.line ≡ line
    → fault_with room (standing_handler own.line own.catches scope named) ≡ Some kind
    → outcome room (handler_standings scope named (handler_before own no_handler)) ≡ refused (Some line) kind
handler_refused room scope named own line kind stands judged =
    ap (λ f. step f (Some own.line) (outcome (room + 0) (standings_from scope own.body ++ []))) judged ∙ ap (λ l. refused (Some l) kind) stands

-- a handler's items, and those of the handlers behind it
handler_end : (scope : Scope) (named : List Exception) (own : Handler) (more : HandlerCode)
    → handler_standings scope named (handler_before own more)
    ≡ handler_standings scope named (handler_before own no_handler) ++ handler_standings scope (with_named named own.catches) more
handler_end scope named own more =
    let taken = standings_from scope own.body in
    let later = handler_standings scope (with_named named own.catches) more in
    ap (λ (l : List Standing). standing_handler own.line own.catches scope named ∷ (l ++ later)) (sym (append-nil taken))

module _ (room : ℕ) (scope : Scope) (named : List Exception) (handlers : List Handler) (i : ℕ) (own : Handler) (within : i < length handlers) (is : own ≡ get_or handlers i own) where
  front_handlers : outcome room (handler_standings scope named (handlers_of (drop i handlers)))
      ≡ outcome room (handler_standings scope named (handler_before own no_handler) ++ handler_standings scope (with_named named own.catches) (handlers_of (drop (i + 1) handlers)))
  front_handlers =
      ap (λ (l : List Handler). outcome room (handler_standings scope named (handlers_of l))) (next_item handlers i own within is)
      ∙ ap (outcome room) (handler_end scope named own (handlers_of (drop (i + 1) handlers)))

  -- behind the next of some handlers
  pub next_handler_on : (after : ℕ) (now : Scope) (more : List Exception) → outcome room (handler_standings scope named (handler_before own no_handler)) ≡ goes_on after
      → now ≡ scope → more ≡ with_named named own.catches
      → outcome after (handler_standings now more (handlers_of (drop (i + 1) handlers))) ≡ outcome room (handler_standings scope named (handlers_of (drop i handlers)))
  next_handler_on after now more known same grown =
      ap (λ s. outcome after (handler_standings s more (handlers_of (drop (i + 1) handlers)))) same
      ∙ ap (λ (l : List Exception). outcome after (handler_standings scope l (handlers_of (drop (i + 1) handlers)))) grown
      ∙ sym (front_handlers ∙ gone_on room after (handler_standings scope named (handler_before own no_handler))
      (handler_standings scope (with_named named own.catches) (handlers_of (drop (i + 1) handlers))) known)

  -- it is refused
  pub next_handler_stopped : (at : Option ℕ) (kind : RefusalKind) → outcome room (handler_standings scope named (handler_before own no_handler)) ≡ refused at kind
      → outcome room (handler_standings scope named (handlers_of (drop i handlers))) ≡ refused at kind
  next_handler_stopped at kind bad =
      front_handlers
      ∙ stopped room at kind (handler_standings scope named (handler_before own no_handler))
      (handler_standings scope (with_named named own.catches) (handlers_of (drop (i + 1) handlers))) bad

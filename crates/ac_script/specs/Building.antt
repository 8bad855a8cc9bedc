-- A script that is built from its items, as far as they came.
use Rattle.std.specs.Prelude.{◌≡◌, ℕ, Bool, true, false, List, [], ◌∷◌, ◌++◌, map, flat_map, reverse, Option, Some, None, if◌then◌else◌}
use Rattle.ac_syntax.specs.Code as code
use Rattle.ac_syntax.specs.declared.closing.Closing.{Closing}
use Rattle.ac_syntax.specs.declared.closing.Closing.TheVariants.{EndTried, EndHandlers}
use Rattle.ac_syntax.specs.declared.decl.Decl.{Decl}
use Rattle.ac_syntax.specs.declared.stmt.Stmt.{Stmt}
use Rattle.ac_syntax.specs.declared.stmt.TaskText.{TaskText}
use Rattle.ac_syntax.specs.declared.stmt.Handler.{Handler}
use Rattle.ac_syntax.specs.Items.{Item, declares, opens, begins, closes, tries, catches, items, handler_items, pragma_items, ending, handler_end}
use Rattle.ac_syntax.specs.Statements.{before, code_of, task_before, tasks_of, handlers_of}
use Rattle.ac_syntax.specs.Order.{Stage, fronting, listing, heading, running, tasking, tasked, preparing, stepping, catching, Context, next_after}
use Rattle.ac_script.specs.declared.item.Head.{Head}
use Rattle.ac_script.specs.declared.item.Head.TheVariants.{Loop, View, Stable, Declare, Tasks, Task}
use Rattle.ac_script.specs.declared.build.Level.{Level}
use Rattle.ac_script.specs.declared.build.Catching.{Catching}
use Rattle.ac_script.specs.declared.build.Opening.{Opening}
use Rattle.ac_script.specs.declared.build.Opening.TheVariants.{Block, Tried, Awaiting, Handling}
use Rattle.ac_script.specs.declared.build.Enclosing.{Enclosing}
use Rattle.ac_script.specs.declared.build.Building.{Building}
use Rattle.ac_script.specs.declared.build.Ended.{Ended}
use Rattle.ac_script.specs.declared.build.Ended.TheVariants as ended
use Rattle.ac_script.specs.Views.{head_view}

abbrev pub begun_items : Bool → List Item
begun_items begun = if begun then begins ∷ [] else []

-- statements, or tasks where there are some
abbrev pub body_of : List Stmt → List TaskText → code.Code
body_of stmts [] = code_of stmts
body_of stmts (task ∷ tasks) = tasks_of (task ∷ tasks)

abbrev pub level_code : Level → code.Code
level_code level = body_of level.stmts.items level.tasks.items

-- the items of a level so far
abbrev pub level_items : Level → List Item
level_items level = map declares level.decls.items ++ (begun_items level.begun ++ items (level_code level))

-- the open handler with these statements, behind those before it

abbrev pub own_handler : Catching → List Stmt → Handler
own_handler last stmts = record { line = last.line; catches = last.catches; body = code_of stmts }

abbrev pub all_handlers : Catching → List Stmt → List Handler
all_handlers last stmts = last.before.items ++ own_handler last stmts ∷ []

-- the items of what is opened, up to what stands in it
abbrev pub opened_items : Opening → List Item
opened_items (Block head) = opens (head_view head) ∷ []
opened_items (Tried line) = tries line ∷ []
opened_items (Awaiting line tried) = tries line ∷ (items tried ++ closes EndTried ∷ [])
opened_items (Handling line tried last) =
    tries line ∷ (items tried ++ closes EndTried ∷ (handler_items (handlers_of last.before.items) ++ catches last.line last.catches ∷ []))

-- the words that end it, the first ones first
abbrev pub opened_ends : Opening → List Closing
opened_ends (Block head) = ending (head_view head) ∷ []
opened_ends (Tried _) = EndTried ∷ EndHandlers ∷ []
opened_ends (Awaiting _ _) = EndHandlers ∷ []
opened_ends (Handling _ _ last) = handler_end last.catches ∷ []

abbrev pub enclosing_items : Enclosing → List Item
enclosing_items e = level_items e.level ++ opened_items e.opening

abbrev pub items_so_far : Building → List Item
items_so_far b = pragma_items b.pragma ++ (flat_map enclosing_items b.around.items ++ level_items b.level)

-- what stands around a level
pub data Inside : Type 0 where
  no_block : Inside
  -- a block without declarations, what is tried, or a handler
  bare_block : Inside
  -- a block with declarations, or a task
  declaring : Inside
  -- a block of tasks
  gathering : Inside
  -- a block before its first handler
  awaiting : Inside

-- what a level has, past its declarations
pub data Content : Type 0 where
  of_statements : Content
  of_tasks : Content
  -- a handler comes next
  of_nothing : Content

abbrev pub inside_head : Head → Inside
inside_head (Loop _ _ _ _ _) = bare_block
inside_head (View _ _ _ _ _) = bare_block
inside_head (Stable _ _) = bare_block
inside_head (Declare _) = declaring
inside_head (Tasks _) = gathering
inside_head (Task _ _) = declaring

abbrev pub inside_of : Opening → Inside
inside_of (Block head) = inside_head head
inside_of (Tried _) = bare_block
inside_of (Awaiting _ _) = awaiting
inside_of (Handling _ _ _) = bare_block

abbrev pub innermost : List Enclosing → Inside
innermost [] = no_block
innermost (e ∷ _) = inside_of e.opening

abbrev pub content : Inside → Content
content no_block = of_statements
content bare_block = of_statements
content declaring = of_statements
content gathering = of_tasks
content awaiting = of_nothing

-- among what a block with this head stands
abbrev pub content_in : Head → Content
content_in (Loop _ _ _ _ _) = of_statements
content_in (View _ _ _ _ _) = of_statements
content_in (Stable _ _) = of_statements
content_in (Declare _) = of_statements
content_in (Tasks _) = of_statements
content_in (Task _ _) = of_tasks

abbrev pub stands_in : Opening → Content
stands_in (Block head) = content_in head
stands_in (Tried _) = of_statements
stands_in (Awaiting _ _) = of_statements
stands_in (Handling _ _ _) = of_statements

-- nothing stands in a level
abbrev pub IsEmpty : Level → Type 0
IsEmpty level = (level.decls.items ≡ []) × (level.begun ≡ false) × (level.stmts.items ≡ []) × (level.tasks.items ≡ [])

-- what a level has there, past its declarations: statements, or tasks
abbrev pub Suits : Inside → Level → Type 0
Suits no_block level = (level.begun ≡ false) × (level.tasks.items ≡ [])
Suits bare_block level = (level.decls.items ≡ []) × (level.begun ≡ false) × (level.tasks.items ≡ [])
Suits declaring level = (level.begun ≡ true) × (level.tasks.items ≡ [])
Suits gathering level = (level.decls.items ≡ []) × (level.begun ≡ false) × (level.stmts.items ≡ [])
Suits awaiting level = IsEmpty level

-- the level is inside these blocks, the innermost first; tasks stand in blocks of tasks, and nothing else does
abbrev pub Nests : List Enclosing → Level → Type 0
Nests [] level = Suits no_block level
Nests (e ∷ outer) level = Suits (inside_of e.opening) level × (content (innermost outer) ≡ stands_in e.opening) × Nests outer e.level

-- the front of a block with declarations, or of a task
pub record IsHeading (around : List Enclosing) (level : Level) : Type 0 where
  pub block : Enclosing
  pub outer : List Enclosing
  pub is : around ≡ block ∷ outer
  pub declares : inside_of block.opening ≡ declaring
  pub unbegun : level.begun ≡ false
  pub empty : level.stmts.items ≡ []
  pub taskless : level.tasks.items ≡ []
  pub stands : content (innermost outer) ≡ stands_in block.opening
  pub nests : Nests outer block.level

-- inside what has this content
abbrev pub IsAmong : Content → List Enclosing → Level → Type 0
IsAmong own around level = (content (innermost around) ≡ own) × Nests around level

abbrev pub IsStaged : Stage → (pragma : Option ℕ) → List Enclosing → Level → Type 0
IsStaged fronting pragma around level = (around ≡ []) × IsEmpty level × (pragma ≡ None)
IsStaged listing pragma around level = (around ≡ []) × (level.stmts.items ≡ []) × (level.begun ≡ false) × (level.tasks.items ≡ [])
IsStaged heading pragma around level = IsHeading around level
IsStaged running pragma around level = IsAmong of_statements around level
IsStaged tasking pragma around level = IsAmong of_tasks around level
IsStaged tasked pragma around level = IsAmong of_tasks around level
IsStaged preparing pragma around level = IsHeading around level
IsStaged stepping pragma around level = IsAmong of_statements around level
IsStaged catching pragma around level = IsAmong of_nothing around level

-- what was built stands for the context behind its items
pub record IsBuilding (b : Building) (context : Context) : Type 0 where
  pub blocks : context.blocks ≡ flat_map (λ (e : Enclosing). opened_ends e.opening) (reverse b.around.items)
  pub staged : IsStaged context.stage b.pragma (reverse b.around.items) b.level

-- the statement is this command
abbrev pub Runs : Stmt → code.Simple → Type 0
Runs stmt simple = (rest : code.Code) → before stmt rest ≡ code.one simple rest

-- a block's head with its declarations
abbrev pub full_head : Head → List Decl → code.Head
full_head (Loop line name elements backward object) decls = code.loop_at line name elements backward object
full_head (View line kind object at name) decls = code.view_at line kind object at name
full_head (Stable line object) decls = code.stable_at line object
full_head (Declare line) decls = code.declare_at line decls
full_head (Tasks line) decls = code.tasks_at line
full_head (Task line name) decls = code.task_at line name decls

-- what stands in a block with this head: its statements, or its tasks
abbrev pub body_by : Head → (statements tasks : code.Code) → code.Code
body_by (Loop _ _ _ _ _) statements tasks = statements
body_by (View _ _ _ _ _) statements tasks = statements
body_by (Stable _ _) statements tasks = statements
body_by (Declare _) statements tasks = statements
body_by (Tasks _) statements tasks = tasks
body_by (Task _ _) statements tasks = statements

-- what has ended, and what follows it
abbrev pub ended_before : Ended → code.Code → code.Code
ended_before (ended.Statement stmt) rest = before stmt rest
ended_before (ended.OfBlock task) rest = task_before task rest

abbrev pub ended_content : Ended → Content
ended_content (ended.Statement stmt) = of_statements
ended_content (ended.OfBlock task) = of_tasks

-- a level takes what has ended
abbrev pub Takes : Ended → Level → Level → Type 0
Takes (ended.Statement stmt) old new =
    (new.decls ≡ old.decls) × (new.begun ≡ old.begun) × (new.tasks ≡ old.tasks) × (new.stmts.items ≡ old.stmts.items ++ stmt ∷ [])
Takes (ended.OfBlock task) old new =
    (new.decls ≡ old.decls) × (new.begun ≡ old.begun) × (new.stmts ≡ old.stmts) × (new.tasks.items ≡ old.tasks.items ++ task ∷ [])

-- a level is begun in what is opened
pub record Enters (opening : Opening) (old new : Building) : Type 0 where
  pub pragma : new.pragma ≡ old.pragma
  pub around : new.around.items ≡ old.around.items ++ record { level = old.level; opening = opening } ∷ []
  pub empty : IsEmpty new.level

-- an item that may come is added, and the context follows
abbrev pub Adds : Item → Building → Building → Type 0
Adds item old new =
    (context next : Context) → IsBuilding old context → next_after context.propagating context.blocks context.stage item ≡ Some next
    → (items_so_far new ≡ items_so_far old ++ item ∷ []) × IsBuilding new next

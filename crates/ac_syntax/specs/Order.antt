-- In which order items come, from the front on: what may come next is told by the blocks that are open.
use Rattle.std.specs.Prelude.{◌≡◌, Bool, true, false, List, [], ◌∷◌, Option, Some, None, option_and_then, if◌then◌else◌}
use denote.Enum.Bare.{sameb}
use Rattle.ac_base.specs.declared.reason.Exception.{Exception}
use Rattle.ac_syntax.specs.contracts.closing.Closing.{the_type}
use Rattle.ac_syntax.specs.declared.closing.Closing.{Closing}
use Rattle.ac_syntax.specs.declared.closing.Closing.TheVariants.{EndLoop, End, EndTasks, EndTask, EndTried, EndHandlers, EndOthers}
use Rattle.ac_syntax.specs.declared.decl.Decl.{Decl}
use Rattle.ac_syntax.specs.declared.decl.Decl.TheVariants.{TypeDecl, Object, CursorVar, IntVar, TextVar}
use Rattle.ac_syntax.specs.Code.{Head, loop_at, view_at, stable_at, declare_at, tasks_at, task_at}
use Rattle.ac_syntax.specs.Items.{Item, declares, commands, opens, begins, closes, propagates, tries, catches, handler_end}

pub data Stage : Type 0 where
  -- at the front of a script: the pragma, declarations or statements
  fronting : Stage
  -- in a script's declarations: more of them, or statements
  listing : Stage
  -- at the front of a block with declarations: these or `begin`
  heading : Stage
  running : Stage
  -- at the front of a block of tasks: the first of them
  tasking : Stage
  -- behind a task of a block: another one, or the end of the block
  tasked : Stage
  -- at the front of a task: its locals or `begin`
  preparing : Stage
  -- in a task: its commands, or its end
  stepping : Stage
  -- behind `exception`: the first handler
  catching : Stage

-- where an item stands
pub record Context : Type 0 where
  -- the script began with the pragma
  pub propagating : Bool
  -- the words that end each open block, those of the innermost first
  pub blocks : List Closing
  pub stage : Stage

abbrev pub reach : (propagating : Bool) → List Closing → Stage → Option Context
reach propagating blocks stage = Some (record { propagating = propagating; blocks = blocks; stage = stage })

-- in the block with this head
abbrev pub entered : (propagating : Bool) → List Closing → Head → Option Context
entered propagating blocks (loop_at _ _ _ _ _) = reach propagating (EndLoop ∷ blocks) running
entered propagating blocks (view_at _ _ _ _ _) = reach propagating (End ∷ blocks) running
entered propagating blocks (stable_at _ _) = reach propagating (End ∷ blocks) running
entered propagating blocks (declare_at _ []) = reach propagating (End ∷ blocks) heading
entered propagating blocks (declare_at _ (_ ∷ _)) = None
entered propagating blocks (tasks_at _) = reach propagating (EndTasks ∷ blocks) tasking
entered propagating blocks (task_at _ _ _) = None

-- in the task with this head
abbrev pub task_entered : (propagating : Bool) → List Closing → Head → Option Context
task_entered propagating blocks (loop_at _ _ _ _ _) = None
task_entered propagating blocks (view_at _ _ _ _ _) = None
task_entered propagating blocks (stable_at _ _) = None
task_entered propagating blocks (declare_at _ _) = None
task_entered propagating blocks (tasks_at _) = None
task_entered propagating blocks (task_at _ _ []) = reach propagating (EndTask ∷ blocks) preparing
task_entered propagating blocks (task_at _ _ (_ ∷ _)) = None

-- a task's locals are integers
abbrev pub prepared : (propagating : Bool) → List Closing → Decl → Option Context
prepared propagating blocks (TypeDecl _ _ _) = None
prepared propagating blocks (Object _ _ _ _) = None
prepared propagating blocks (CursorVar _ _ _) = None
prepared propagating blocks (IntVar _ _) = reach propagating blocks preparing
prepared propagating blocks (TextVar _ _) = None

-- in a block with handlers, which is there only where exceptions propagate
abbrev pub tried : (propagating : Bool) → List Closing → Option Context
tried true blocks = reach true (EndTried ∷ EndHandlers ∷ blocks) running
tried false blocks = None

-- in a handler; none stands behind that of all others
abbrev pub caught : (propagating : Bool) → Option Exception → List Closing → Option Context
caught propagating exception [] = None
caught propagating exception (EndLoop ∷ _) = None
caught propagating exception (End ∷ _) = None
caught propagating exception (EndTasks ∷ _) = None
caught propagating exception (EndTask ∷ _) = None
caught propagating exception (EndTried ∷ _) = None
caught propagating exception (EndHandlers ∷ blocks) = reach propagating (handler_end exception ∷ blocks) running
caught propagating exception (EndOthers ∷ _) = None

-- behind a task the block goes on with tasks, and behind what is tried with handlers
abbrev pub stage_behind : Closing → Stage
stage_behind EndLoop = running
stage_behind End = running
stage_behind EndTasks = running
stage_behind EndTask = tasked
stage_behind EndTried = catching
stage_behind EndHandlers = running
stage_behind EndOthers = running

-- behind the innermost block, where these words end it
abbrev pub left_behind : (propagating : Bool) → Closing → List Closing → Option Context
left_behind propagating closing [] = None
left_behind propagating closing (innermost ∷ blocks) =
    if sameb the_type innermost closing then reach propagating blocks (stage_behind closing) else None

-- what an item leads to, where it may come
abbrev pub next_after : (propagating : Bool) → List Closing → Stage → Item → Option Context
next_after propagating blocks fronting (declares _) = reach propagating blocks listing
next_after propagating blocks listing (declares _) = reach propagating blocks listing
next_after propagating blocks heading (declares _) = reach propagating blocks heading
next_after propagating blocks running (declares _) = None
next_after propagating blocks tasking (declares _) = None
next_after propagating blocks tasked (declares _) = None
next_after propagating blocks preparing (declares decl) = prepared propagating blocks decl
next_after propagating blocks stepping (declares _) = None
next_after propagating blocks catching (declares _) = None
next_after propagating blocks fronting (commands _) = reach propagating blocks running
next_after propagating blocks listing (commands _) = reach propagating blocks running
next_after propagating blocks heading (commands _) = None
next_after propagating blocks running (commands _) = reach propagating blocks running
next_after propagating blocks tasking (commands _) = None
next_after propagating blocks tasked (commands _) = None
next_after propagating blocks preparing (commands _) = None
next_after propagating blocks stepping (commands _) = reach propagating blocks stepping
next_after propagating blocks catching (commands _) = None
next_after propagating blocks fronting (opens head) = entered propagating blocks head
next_after propagating blocks listing (opens head) = entered propagating blocks head
next_after propagating blocks heading (opens _) = None
next_after propagating blocks running (opens head) = entered propagating blocks head
next_after propagating blocks tasking (opens head) = task_entered propagating blocks head
next_after propagating blocks tasked (opens head) = task_entered propagating blocks head
next_after propagating blocks preparing (opens _) = None
next_after propagating blocks stepping (opens _) = None
next_after propagating blocks catching (opens _) = None
next_after propagating blocks fronting begins = None
next_after propagating blocks listing begins = None
next_after propagating blocks heading begins = reach propagating blocks running
next_after propagating blocks running begins = None
next_after propagating blocks tasking begins = None
next_after propagating blocks tasked begins = None
next_after propagating blocks preparing begins = reach propagating blocks stepping
next_after propagating blocks stepping begins = None
next_after propagating blocks catching begins = None
next_after propagating blocks fronting (closes closing) = left_behind propagating closing blocks
next_after propagating blocks listing (closes closing) = left_behind propagating closing blocks
next_after propagating blocks heading (closes _) = None
next_after propagating blocks running (closes closing) = left_behind propagating closing blocks
next_after propagating blocks tasking (closes _) = None
next_after propagating blocks tasked (closes closing) = left_behind propagating closing blocks
next_after propagating blocks preparing (closes _) = None
next_after propagating blocks stepping (closes closing) = left_behind propagating closing blocks
next_after propagating blocks catching (closes _) = None
next_after propagating blocks fronting (propagates _) = reach true blocks listing
next_after propagating blocks listing (propagates _) = None
next_after propagating blocks heading (propagates _) = None
next_after propagating blocks running (propagates _) = None
next_after propagating blocks tasking (propagates _) = None
next_after propagating blocks tasked (propagates _) = None
next_after propagating blocks preparing (propagates _) = None
next_after propagating blocks stepping (propagates _) = None
next_after propagating blocks catching (propagates _) = None
next_after propagating blocks fronting (tries _) = tried propagating blocks
next_after propagating blocks listing (tries _) = tried propagating blocks
next_after propagating blocks heading (tries _) = None
next_after propagating blocks running (tries _) = tried propagating blocks
next_after propagating blocks tasking (tries _) = None
next_after propagating blocks tasked (tries _) = None
next_after propagating blocks preparing (tries _) = None
next_after propagating blocks stepping (tries _) = None
next_after propagating blocks catching (tries _) = None
next_after propagating blocks fronting (catches _ _) = None
next_after propagating blocks listing (catches _ _) = None
next_after propagating blocks heading (catches _ _) = None
next_after propagating blocks running (catches _ exception) = caught propagating exception blocks
next_after propagating blocks tasking (catches _ _) = None
next_after propagating blocks tasked (catches _ _) = None
next_after propagating blocks preparing (catches _ _) = None
next_after propagating blocks stepping (catches _ _) = None
next_after propagating blocks catching (catches _ exception) = caught propagating exception blocks

-- what items lead to, one after another
abbrev pub context_after : Context → List Item → Option Context
context_after context [] = Some context
context_after context (item ∷ items) =
    option_and_then (λ next. context_after next items) (next_after context.propagating context.blocks context.stage item)

abbrev pub at_front : Context
at_front = record { propagating = false; blocks = []; stage = fronting }

-- something has to come
abbrev pub is_heading : Stage → Bool
is_heading fronting = false
is_heading listing = false
is_heading heading = true
is_heading running = false
is_heading tasking = false
is_heading tasked = false
is_heading preparing = true
is_heading stepping = false
is_heading catching = true

-- a script may end here
pub record IsEnd (context : Context) : Type 0 where
  pub closed : context.blocks ≡ []
  pub begun : is_heading context.stage ≡ false

-- each of these items may come where it stands, and a script may end behind the last
pub record AreInOrder (items : List Item) : Type 0 where
  pub last : Context
  pub leads : context_after at_front items ≡ Some last
  pub ends : IsEnd last

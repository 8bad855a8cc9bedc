-- A script as its items in the order of the text: its pragma, declarations, commands, what begins a block and what closes it, and the heads of handlers.
use Rattle.std.specs.Prelude.{ℕ, List, [], ◌∷◌, ◌++◌, map, Option, Some, None}
use Rattle.ac_syntax.specs.Code.{Simple, call_at, set_at, sum_at, Head, loop_at, view_at, stable_at, declare_at, tasks_at, task_at, Code, stop, one, block, handled, HandlerCode, no_handler, handler}
use Rattle.ac_base.specs.declared.reason.Exception.{Exception}
use Rattle.ac_syntax.specs.declared.closing.Closing.{Closing}
use Rattle.ac_syntax.specs.declared.closing.Closing.TheVariants.{EndLoop, End, EndTasks, EndTask, EndTried, EndHandlers, EndOthers}
use Rattle.ac_syntax.specs.declared.decl.Decl.{Decl}
use Rattle.ac_syntax.specs.declared.decl.Decl.TheVariants.{TypeDecl, Object, CursorVar, IntVar, TextVar}
use Rattle.ac_syntax.specs.declared.script.Script.{Script}

pub data Item : Type 0 where
  declares : Decl → Item
  commands : Simple → Item
  -- the words that begin a block, without any declarations
  opens : Head → Item
  -- the word `begin` after the declarations of a block
  begins : Item
  -- the words that end a block, or what is tried in one
  closes : Closing → Item
  -- the pragma, on this line
  propagates : ℕ → Item
  -- the word `begin` of a block with handlers, on this line
  tries : ℕ → Item
  -- a handler's head, on this line
  catches : ℕ → Option Exception → Item

-- a head without its declarations
abbrev pub bare : Head → Head
bare (loop_at line name elements backward object) = loop_at line name elements backward object
bare (view_at line kind object at name) = view_at line kind object at name
bare (stable_at line object) = stable_at line object
bare (declare_at line _) = declare_at line []
bare (tasks_at line) = tasks_at line
bare (task_at line name _) = task_at line name []

-- the words that end a block with this head
abbrev pub ending : Head → Closing
ending (loop_at _ _ _ _ _) = EndLoop
ending (view_at _ _ _ _ _) = End
ending (stable_at _ _) = End
ending (declare_at _ _) = End
ending (tasks_at _) = EndTasks
ending (task_at _ _ _) = EndTask

-- what stands between the head of a block and its body
abbrev pub declared : Head → List Item
declared (loop_at _ _ _ _ _) = []
declared (view_at _ _ _ _ _) = []
declared (stable_at _ _) = []
declared (declare_at _ decls) = map declares decls ++ begins ∷ []
declared (tasks_at _) = []
declared (task_at _ _ locals) = map declares locals ++ begins ∷ []

-- what begins a block, up to its body
abbrev pub opening : Head → List Item
opening head = opens (bare head) ∷ declared head

-- what ends a block, behind its body
abbrev pub closing : Head → List Item
closing head = closes (ending head) ∷ []

-- the end of a block whose last handler takes this
abbrev pub handler_end : Option Exception → Closing
handler_end None = EndOthers
handler_end (Some _) = EndHandlers

-- the end of a block with these handlers, where the one before them takes this
abbrev pub end_behind : Option Exception → HandlerCode → Closing
end_behind before no_handler = handler_end before
end_behind before (handler _ own _ more) = end_behind own more

-- the end of a block with these handlers
abbrev pub handlers_end : HandlerCode → Closing
handlers_end no_handler = EndHandlers
handlers_end (handler _ own _ more) = end_behind own more

abbrev mutual
  pub items : Code → List Item
  items stop = []
  items (one simple rest) = commands simple ∷ items rest
  items (block head body rest) = opening head ++ (items body ++ (closing head ++ items rest))
  items (handled line body handlers rest) =
      tries line ∷ (items body ++ (closes EndTried ∷ (handler_items handlers ++ (closes (handlers_end handlers) ∷ items rest))))

  pub handler_items : HandlerCode → List Item
  handler_items no_handler = []
  handler_items (handler line exception body more) = catches line exception ∷ (items body ++ handler_items more)

-- the pragma's item, where there is one
abbrev pub pragma_items : Option ℕ → List Item
pragma_items None = []
pragma_items (Some line) = propagates line ∷ []

abbrev pub script_items : Script → List Item
script_items script = pragma_items script.pragma ++ (map declares script.decls ++ items script.stmts)

abbrev pub decl_line : Decl → ℕ
decl_line (TypeDecl line _ _) = line
decl_line (Object line _ _ _) = line
decl_line (CursorVar line _ _) = line
decl_line (IntVar line _) = line
decl_line (TextVar line _) = line

abbrev pub simple_line : Simple → ℕ
simple_line (call_at line _ _ _ _) = line
simple_line (set_at line _ _) = line
simple_line (sum_at line _ _ _ _) = line

abbrev pub head_line : Head → ℕ
head_line (loop_at line _ _ _ _) = line
head_line (view_at line _ _ _ _) = line
head_line (stable_at line _) = line
head_line (declare_at line _) = line
head_line (tasks_at line) = line
head_line (task_at line _ _) = line

-- the line of an item, of those that keep one
abbrev pub item_line : Item → Option ℕ
item_line (declares decl) = Some (decl_line decl)
item_line (commands simple) = Some (simple_line simple)
item_line (opens head) = Some (head_line head)
item_line begins = None
item_line (closes _) = None
item_line (propagates line) = Some line
item_line (tries line) = Some line
item_line (catches line _) = Some line

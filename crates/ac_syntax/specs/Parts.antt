-- The parts of each item, in order. A part is one token, or a literal, which may have two.
use Rattle.std.specs.Prelude.{ℕ, codes, List, [], ◌∷◌, ◌++◌, Option, Some, None, if◌then◌else◌}
use Rattle.ac_syntax.specs.Code.{Simple, call_at, set_at, sum_at, Head, loop_at, view_at, stable_at, declare_at, tasks_at, task_at}
use Rattle.ac_syntax.specs.Items.{Item, declares, commands, opens, begins, closes, propagates, tries, catches}
use Rattle.ac_syntax.specs.Keywords.{caught_keyword}
use Rattle.ac_base.specs.declared.value.Value.{Value}
use Rattle.ac_syntax.specs.declared.arg.Arg.{Arg}
use Rattle.ac_syntax.specs.declared.arg.Arg.TheVariants.{Lit, NoElement, Var}
use Rattle.ac_syntax.specs.declared.closing.Closing.{Closing}
use Rattle.ac_syntax.specs.declared.closing.Closing.TheVariants.{EndLoop, End, EndTasks, EndTask, EndTried, EndHandlers, EndOthers}
use Rattle.ac_syntax.specs.declared.decl.Decl.{Decl}
use Rattle.ac_syntax.specs.declared.decl.Decl.TheVariants.{TypeDecl, Object, CursorVar, IntVar, TextVar}
use Rattle.ac_syntax.specs.declared.kind.Kind.{Kind}
use Rattle.ac_syntax.specs.declared.kind.Kind.TheVariants as kind
use Rattle.ac_syntax.specs.declared.kind.ElemKind.{ElemKind}
use Rattle.ac_syntax.specs.declared.kind.ElemKind.TheVariants.{Integer, Str}
use Rattle.ac_syntax.specs.declared.view_kind.ViewKind.{ViewKind}
use Rattle.ac_syntax.specs.declared.view_kind.ViewKind.TheVariants.{Query, Update, Reference, UpdateKey}
use Rattle.ac_syntax.specs.declared.type_def.TypeDef.{TypeDef}
use Rattle.ac_syntax.specs.declared.token.Keyword.{Keyword}
use Rattle.ac_syntax.specs.declared.token.Keyword.TheVariants as keyword
use Rattle.ac_syntax.specs.declared.token.Mark.{Mark}
use Rattle.ac_syntax.specs.declared.token.Mark.TheVariants.{Colon, Semicolon, Comma, Open, Close, Dot, Assign, Plus, Minus, Arrow}

pub data Part : Type 0 where
  -- a reserved word
  says : List ℕ → Part
  -- a word that is reserved where exceptions propagate
  keywords : Keyword → Part
  marks : Mark → Part
  -- an identifier
  names : List ℕ → Part
  -- a number that isn't a literal
  counts : ℕ → Part
  writes : Value → Part
  -- what no tokens spell
  lacks : Part

abbrev pub kind_word : Kind → List ℕ
kind_word kind.Vector = codes "vector"
kind_word kind.List = codes "list"
kind_word kind.HashedMap = codes "hashed_map"
kind_word kind.OrderedMap = codes "ordered_map"
kind_word kind.HashedSet = codes "hashed_set"
kind_word kind.OrderedSet = codes "ordered_set"
kind_word kind.Tree = codes "tree"
kind_word kind.Holder = codes "holder"
kind_word kind.Queue = codes "queue"
kind_word kind.PriorityQueue = codes "priority_queue"

abbrev pub elem_word : ElemKind → List ℕ
elem_word Integer = codes "integer"
elem_word Str = codes "string"

-- `, integer` where there is a second element
abbrev pub second_parts : Option ElemKind → List Part
second_parts None = []
second_parts (Some elem) = marks Comma ∷ says (elem_word elem) ∷ []

-- `bounded list (integer) keyed`
abbrev pub type_parts : TypeDef → List Part
type_parts def =
    (if def.bounded then says (codes "bounded") ∷ [] else [])
    ++ says (kind_word def.kind) ∷ marks Open ∷ says (elem_word def.first) ∷ (second_parts def.second
    ++ marks Close ∷ (if def.keyed then says (codes "keyed") ∷ [] else []))

-- `(8)` where there is a capacity
abbrev pub capacity_parts : Option ℕ → List Part
capacity_parts None = []
capacity_parts (Some capacity) = marks Open ∷ counts capacity ∷ marks Close ∷ []

-- `X : integer;`, with this word for the type
abbrev pub variable_parts : List ℕ → List ℕ → List Part
variable_parts name word = names name ∷ marks Colon ∷ says word ∷ marks Semicolon ∷ []

abbrev pub decl_parts : Decl → List Part
decl_parts (TypeDecl line name def) = says (codes "type") ∷ names name ∷ says (codes "is") ∷ (type_parts def ++ marks Semicolon ∷ [])
decl_parts (Object line name of capacity) = names name ∷ marks Colon ∷ names of ∷ (capacity_parts capacity ++ marks Semicolon ∷ [])
decl_parts (CursorVar line name of) = names name ∷ marks Colon ∷ names of ∷ marks Dot ∷ says (codes "cursor") ∷ marks Semicolon ∷ []
decl_parts (IntVar line name) = variable_parts name (codes "integer")
decl_parts (TextVar line name) = variable_parts name (codes "string")

abbrev pub arg_part : Arg → Part
arg_part (Lit literal) = writes literal
arg_part NoElement = says (codes "no_element")
arg_part (Var name) = names name

-- each with a comma before it
abbrev pub more_args : List Arg → List Part
more_args [] = []
more_args (arg ∷ args) = marks Comma ∷ arg_part arg ∷ more_args args

-- arguments in parentheses, where there are any
abbrev pub args_parts : List Arg → List Part
args_parts [] = []
args_parts (arg ∷ args) = marks Open ∷ arg_part arg ∷ (more_args args ++ marks Close ∷ [])

-- `X :=` where there is a target
abbrev pub target_parts : Option (List ℕ) → List Part
target_parts None = []
target_parts (Some target) = names target ∷ marks Assign ∷ []

abbrev pub simple_parts : Simple → List Part
simple_parts (call_at line target object operation args) =
    target_parts target ++ names object ∷ marks Dot ∷ names operation ∷ (args_parts args ++ marks Semicolon ∷ [])
simple_parts (set_at line target from) = names target ∷ marks Assign ∷ arg_part from ∷ marks Semicolon ∷ []
simple_parts (sum_at line target from minus number) =
    names target ∷ marks Assign ∷ names from ∷ marks (if minus then Minus else Plus) ∷ counts number ∷ marks Semicolon ∷ []

-- `at C` where there is a cursor
abbrev pub place_parts : Option (List ℕ) → List Part
place_parts None = []
place_parts (Some cursor) = says (codes "at") ∷ names cursor ∷ []

-- `at C`, which has to be there
abbrev pub needed_place : Option (List ℕ) → List Part
needed_place None = lacks ∷ []
needed_place (Some cursor) = says (codes "at") ∷ names cursor ∷ []

-- `query A at C as X`, with this first word
abbrev pub query_parts : List ℕ → List ℕ → Option (List ℕ) → List ℕ → List Part
query_parts word object at name = says word ∷ names object ∷ (place_parts at ++ says (codes "as") ∷ names name ∷ [])

-- the same where the cursor has to be there
abbrev pub keyed_parts : List ℕ → List ℕ → Option (List ℕ) → List ℕ → List Part
keyed_parts word object at name = says word ∷ names object ∷ (needed_place at ++ says (codes "as") ∷ names name ∷ [])

-- the words of a view's head; `reference` has the new name first, the others last
abbrev pub view_parts : ViewKind → List ℕ → Option (List ℕ) → List ℕ → List Part
view_parts Query object at name = query_parts (codes "query") object at name
view_parts Update object at name = query_parts (codes "update") object at name
view_parts UpdateKey object at name = keyed_parts (codes "update_key") object at name
view_parts Reference object at name = says (codes "reference") ∷ names name ∷ says (codes "of") ∷ names object ∷ place_parts at

abbrev pub head_parts : Head → List Part
head_parts (loop_at line name elements backward object) =
    says (codes "for") ∷ names name ∷ says (if elements then codes "of" else codes "in")
    ∷ ((if backward then says (codes "reverse") ∷ [] else []) ++ names object ∷ says (codes "loop") ∷ [])
head_parts (view_at line kind object at name) = view_parts kind object at name ++ says (codes "do") ∷ []
head_parts (stable_at line object) = says (codes "stable") ∷ names object ∷ says (codes "do") ∷ []
head_parts (declare_at line decls) = says (codes "declare") ∷ []
head_parts (tasks_at line) = says (codes "tasks") ∷ []
head_parts (task_at line name locals) = says (codes "task") ∷ names name ∷ says (codes "is") ∷ []

abbrev pub closing_parts : Closing → List Part
closing_parts EndLoop = says (codes "end") ∷ says (codes "loop") ∷ marks Semicolon ∷ []
closing_parts End = says (codes "end") ∷ marks Semicolon ∷ []
closing_parts EndTasks = says (codes "end") ∷ says (codes "tasks") ∷ marks Semicolon ∷ []
closing_parts EndTask = says (codes "end") ∷ marks Semicolon ∷ []
closing_parts EndTried = keywords keyword.Exception ∷ []
closing_parts EndHandlers = says (codes "end") ∷ marks Semicolon ∷ []
closing_parts EndOthers = says (codes "end") ∷ marks Semicolon ∷ []

unfoldable pub item_parts : Item → List Part
item_parts (declares decl) = decl_parts decl
item_parts (commands simple) = simple_parts simple
item_parts (opens head) = head_parts head
item_parts begins = says (codes "begin") ∷ []
item_parts (closes closing) = closing_parts closing
item_parts (propagates line) = keywords keyword.Pragma ∷ keywords keyword.Propagate ∷ marks Semicolon ∷ []
item_parts (tries line) = says (codes "begin") ∷ []
item_parts (catches line exception) = keywords keyword.When ∷ keywords (caught_keyword exception) ∷ marks Arrow ∷ []

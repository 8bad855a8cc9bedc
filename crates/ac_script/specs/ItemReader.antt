-- The reader of one item, where it may come.
use Rattle.std.specs.Prelude.{ℕ, codes, Bool, true, false, List, [], ◌∷◌, Option, Some, None}
use Rattle.ac_base.specs.declared.reason.Exception.{Exception}
use Rattle.ac_base.specs.declared.reason.Exception.TheVariants as exception
use Rattle.ac_syntax.specs.Items.{Item, declares, commands, opens, begins, closes, propagates, tries, catches}
use Rattle.ac_syntax.specs.declared.closing.Closing.{Closing}
use Rattle.ac_syntax.specs.declared.closing.Closing.TheVariants.{EndLoop, End, EndTasks, EndTask, EndTried, EndHandlers, EndOthers}
use Rattle.ac_syntax.specs.Order.{Stage, fronting, listing, heading, running, tasking, tasked, preparing, stepping, catching}
use Rattle.ac_syntax.specs.declared.token.Keyword.{Keyword}
use Rattle.ac_syntax.specs.declared.token.Keyword.TheVariants as own
use Rattle.ac_syntax.specs.declared.token.Token.{Token}
use Rattle.ac_syntax.specs.declared.token.Mark.TheVariants.{Colon, Semicolon, Arrow}
use Rattle.ac_script.specs.declared.head.Lead.{Lead}
use Rattle.ac_script.specs.Outcomes.{stopped, Reader, ◌>>=◌, gives, fork, one}
use Rattle.ac_script.specs.Readers.{as_word, as_keyword, as_keyword_of, word, keyword, mark, name}
use Rattle.ac_script.specs.Declarations.{type_declaration, declared, integer_end}
use Rattle.ac_script.specs.Heads.{first_word, head, task_head}
use Rattle.ac_script.specs.Commands.{command}

-- the first word of what ends a block: `end`, or of what is tried `exception`
abbrev pub end_word : Closing → Token → Option (Unit {0})
end_word EndLoop = as_word (codes "end")
end_word End = as_word (codes "end")
end_word EndTasks = as_word (codes "end")
end_word EndTask = as_word (codes "end")
end_word EndTried = as_keyword own.Exception
end_word EndHandlers = as_word (codes "end")
end_word EndOthers = as_word (codes "end")

abbrev pub end : Closing → Reader (Unit {0})
end words = one (end_word words)

-- what stands behind that word
unfoldable pub closing : Closing → Reader Item
closing EndLoop = word (codes "loop") >>= λ _. mark Semicolon >>= λ _. gives (closes EndLoop)
closing End = mark Semicolon >>= λ _. gives (closes End)
closing EndTasks = word (codes "tasks") >>= λ _. mark Semicolon >>= λ _. gives (closes EndTasks)
closing EndTask = mark Semicolon >>= λ _. gives (closes EndTask)
closing EndTried = gives (closes EndTried)
closing EndHandlers = mark Semicolon >>= λ _. gives (closes EndHandlers)
closing EndOthers = mark Semicolon >>= λ _. gives (closes EndOthers)

unfoldable pub type_item : ℕ → Reader Item
type_item line = type_declaration line >>= λ decl. gives (declares decl)

unfoldable pub declared_item : ℕ → List ℕ → Reader Item
declared_item line n = declared line n >>= λ decl. gives (declares decl)

unfoldable pub command_item : ℕ → List ℕ → Reader Item
command_item line n = command line n >>= λ simple. gives (commands simple)

unfoldable pub head_item : Lead → ℕ → Reader Item
head_item lead line = head lead line >>= λ h. gives (opens h)

-- what stands behind the name with which an item begins
unfoldable pub behind_name : Stage → ℕ → List ℕ → Reader Item
behind_name fronting line n = command_item line n
behind_name listing line n = fork (mark Colon) (λ _. declared_item line n) (command_item line n)
behind_name heading line n = mark Colon >>= λ _. declared_item line n
behind_name running line n = command_item line n
behind_name tasking line n = command_item line n
behind_name tasked line n = command_item line n
behind_name preparing line n = command_item line n
behind_name stepping line n = command_item line n
behind_name catching line n = command_item line n

unfoldable pub named : Stage → ℕ → Reader Item
named stage line = name >>= λ n. behind_name stage line n

-- the end of the innermost block, where one is open
unfoldable pub ended : Stage → Option Closing → ℕ → Reader Item
ended stage None line = named stage line
ended stage (Some words) line = fork (end words) (λ _. closing words) (named stage line)

-- what isn't a type and doesn't begin the statements of a block
unfoldable pub statement : Stage → Option Closing → ℕ → Reader Item
statement stage innermost line = fork first_word (λ lead. head_item lead line) (ended stage innermost line)

-- the same, or `begin` of a block with handlers, where exceptions propagate
unfoldable pub tried : (propagating : Bool) → Stage → Option Closing → ℕ → Reader Item
tried true stage innermost line = fork (word (codes "begin")) (λ _. gives (tries line)) (statement stage innermost line)
tried false stage innermost line = statement stage innermost line

unfoldable pub in_listing : (propagating : Bool) → Option Closing → ℕ → Reader Item
in_listing propagating innermost line = fork (word (codes "type")) (λ _. type_item line) (tried propagating listing innermost line)

-- what stands behind `pragma`
unfoldable pub pragma_item : ℕ → Reader Item
pragma_item line = keyword own.Propagate >>= λ _. mark Semicolon >>= λ _. gives (propagates line)

unfoldable pub in_fronting : (propagating : Bool) → Option Closing → ℕ → Reader Item
in_fronting propagating innermost line = fork (keyword own.Pragma) (λ _. pragma_item line) (in_listing propagating innermost line)

-- what a handler of this keyword takes
abbrev pub caught_of : Keyword → Option (Option Exception)
caught_of own.Pragma = None
caught_of own.Propagate = None
caught_of own.Exception = None
caught_of own.When = None
caught_of own.Others = Some None
caught_of own.ProgramError = Some (Some exception.ProgramError)
caught_of own.ConstraintError = Some (Some exception.ConstraintError)
caught_of own.CapacityError = Some (Some exception.CapacityError)

abbrev pub caught : Reader (Option Exception)
caught = one (as_keyword_of caught_of)

-- what stands behind `when`
unfoldable pub handler_item : ℕ → Reader Item
handler_item line = caught >>= λ e. mark Arrow >>= λ _. gives (catches line e)

-- a handler
unfoldable pub in_catching : ℕ → Reader Item
in_catching line = keyword own.When >>= λ _. handler_item line

-- a handler may stand in the innermost block
abbrev pub may_catch : Option Closing → Bool
may_catch None = false
may_catch (Some EndLoop) = false
may_catch (Some End) = false
may_catch (Some EndTasks) = false
may_catch (Some EndTask) = false
may_catch (Some EndTried) = false
may_catch (Some EndHandlers) = true
may_catch (Some EndOthers) = false

-- a statement, or another handler where one may come
unfoldable pub handled : (another : Bool) (propagating : Bool) → Option Closing → ℕ → Reader Item
handled true propagating innermost line = fork (keyword own.When) (λ _. handler_item line) (tried propagating running innermost line)
handled false propagating innermost line = tried propagating running innermost line

abbrev pub in_running : (propagating : Bool) → Option Closing → ℕ → Reader Item
in_running propagating innermost line = handled (may_catch innermost) propagating innermost line

unfoldable pub type_or_named : ℕ → Reader Item
type_or_named line = fork (word (codes "type")) (λ _. type_item line) (named heading line)

unfoldable pub in_heading : ℕ → Reader Item
in_heading line = fork (word (codes "begin")) (λ _. gives begins) (type_or_named line)

unfoldable pub task_item : ℕ → Reader Item
task_item line = task_head line >>= λ h. gives (opens h)

-- a task
unfoldable pub in_tasking : ℕ → Reader Item
in_tasking line = word (codes "task") >>= λ _. task_item line

-- the end of a block with these words
abbrev pub end_of : Closing → Reader Item
end_of words = end words >>= λ _. closing words

-- a task, or the end of the innermost block
unfoldable pub in_tasked : Option Closing → ℕ → Reader Item
in_tasked None line = in_tasking line
in_tasked (Some words) line = fork (word (codes "task")) (λ _. task_item line) (end_of words)

-- what stands behind a local's name and `:`
unfoldable pub local_item : ℕ → List ℕ → Reader Item
local_item line n = integer_end line n >>= λ decl. gives (declares decl)

-- a local of a task
unfoldable pub local : ℕ → Reader Item
local line = do
  n ← name
  _ ← mark Colon
  _ ← word (codes "integer")
  local_item line n

unfoldable pub in_preparing : ℕ → Reader Item
in_preparing line = fork (word (codes "begin")) (λ _. gives begins) (local line)

-- an item whose first token stands on this line
abbrev pub item_on : (propagating : Bool) → Stage → Option Closing → ℕ → Reader Item
item_on propagating fronting innermost line = in_fronting propagating innermost line
item_on propagating listing innermost line = in_listing propagating innermost line
item_on propagating heading innermost line = in_heading line
item_on propagating running innermost line = in_running propagating innermost line
item_on propagating tasking innermost line = in_tasking line
item_on propagating tasked innermost line = in_tasked innermost line
item_on propagating preparing innermost line = in_preparing line
item_on propagating stepping innermost line = ended running innermost line
item_on propagating catching innermost line = in_catching line

-- an item where this is how far the script has come, and the words that end the innermost open block
abbrev pub item : (propagating : Bool) → Stage → Option Closing → Reader Item
item propagating stage innermost [] = stopped []
item propagating stage innermost (first ∷ rest) = item_on propagating stage innermost first.line (first ∷ rest)

-- the words that end the innermost of the open blocks
abbrev pub innermost_of : List Closing → Option Closing
innermost_of [] = None
innermost_of (closing ∷ _) = Some closing

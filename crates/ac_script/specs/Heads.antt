-- Readers of what begins a block.
use Rattle.std.specs.Prelude.{ℕ, codes, Bool, true, false, List, [], Option, Some, None, if◌then◌else◌}
use Rattle.std.specs.Str.{bytes_eq}
use Rattle.ac_syntax.specs.Code.{Head, loop_at, view_at, stable_at, declare_at, tasks_at, task_at}
use Rattle.ac_syntax.specs.declared.view_kind.ViewKind.{ViewKind}
use Rattle.ac_syntax.specs.declared.view_kind.ViewKind.TheVariants as view
use Rattle.ac_script.specs.declared.head.Lead.{Lead}
use Rattle.ac_script.specs.declared.head.Lead.TheVariants as lead
use Rattle.ac_script.specs.Outcomes.{Reader, ◌>>=◌, gives, fork, one}
use Rattle.ac_script.specs.Readers.{as_word_of, word, name}

unfoldable pub other_lead : List ℕ → Option Lead
other_lead found =
    if bytes_eq found (codes "reference") then Some lead.Reference
    else if bytes_eq found (codes "stable") then Some lead.Stable
    else if bytes_eq found (codes "declare") then Some lead.Declare
    else if bytes_eq found (codes "tasks") then Some lead.Tasks
    else None

unfoldable pub lead_of : List ℕ → Option Lead
lead_of found =
    if bytes_eq found (codes "for") then Some lead.For
    else if bytes_eq found (codes "query") then Some lead.Query
    else if bytes_eq found (codes "update") then Some lead.Update
    else if bytes_eq found (codes "update_key") then Some lead.UpdateKey
    else other_lead found

-- the first word of a block
abbrev pub first_word : Reader Lead
first_word = one (as_word_of lead_of)

abbrev pub elements_of : List ℕ → Option Bool
elements_of found = if bytes_eq found (codes "of") then Some true else if bytes_eq found (codes "in") then Some false else None

-- whether the loop goes over the elements
abbrev pub elements : Reader Bool
elements = one (as_word_of elements_of)

-- `X loop`
unfoldable pub object_loop : Bool → Reader (Bool × List ℕ)
object_loop backward = do
  object ← name
  _ ← word (codes "loop")
  gives (backward, object)

-- `reverse` where there is that word, and `X loop`
unfoldable pub loop_end : Reader (Bool × List ℕ)
loop_end = fork (word (codes "reverse")) (λ _. object_loop true) (object_loop false)

unfoldable pub loop_head : ℕ → Reader Head
loop_head line = do
  n ← name
  e ← elements
  r ← loop_end
  gives (loop_at line n e r.0 r.1)

-- `at C` where there is a cursor, and this word
unfoldable pub place_end : List ℕ → Reader (Option (List ℕ))
place_end last =
    fork (word (codes "at"))
    (λ _. name >>= λ c. word last >>= λ _. gives (Some c))
    (word last >>= λ _. gives None)

-- what stands behind `query` or `update`
unfoldable pub view_head : ViewKind → ℕ → Reader Head
view_head kind line = do
  object ← name
  place ← place_end (codes "as")
  n ← name
  _ ← word (codes "do")
  gives (view_at line kind object place n)

unfoldable pub key_head : ℕ → Reader Head
key_head line = do
  object ← name
  _ ← word (codes "at")
  c ← name
  _ ← word (codes "as")
  n ← name
  _ ← word (codes "do")
  gives (view_at line view.UpdateKey object (Some c) n)

unfoldable pub reference_head : ℕ → Reader Head
reference_head line = do
  n ← name
  _ ← word (codes "of")
  object ← name
  place ← place_end (codes "do")
  gives (view_at line view.Reference object place n)

unfoldable pub stable_head : ℕ → Reader Head
stable_head line = do
  object ← name
  _ ← word (codes "do")
  gives (stable_at line object)

-- what stands behind the first word of a block
abbrev pub head : Lead → ℕ → Reader Head
head lead.For line = loop_head line
head lead.Query line = view_head view.Query line
head lead.Update line = view_head view.Update line
head lead.UpdateKey line = key_head line
head lead.Reference line = reference_head line
head lead.Stable line = stable_head line
head lead.Declare line = gives (declare_at line [])
head lead.Tasks line = gives (tasks_at line)

-- what stands behind `task`
unfoldable pub task_head : ℕ → Reader Head
task_head line = do
  n ← name
  _ ← word (codes "is")
  gives (task_at line n [])

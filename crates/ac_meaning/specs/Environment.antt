-- The environment of a script: what each name in scope holds, the number of the next object, and how many blocks of tasks have begun.
--
-- A place is that of a name among the names in scope. Which these are is told by the text alone (the scope of `ac_rules`), so that what they hold is a list beside it.
use Rattle.std.specs.Prelude.{ℕ, ◌+◌, pos, nat_lt, List, [], ◌∷◌, ◌++◌, map, take, slice_get, slice_set, Option, Some, None, if◌then◌else◌}
use Rattle.std.specs.List.{sum_by}
use Rattle.ac_base.specs.Limits.{numbers_end}
use Rattle.ac_base.specs.declared.value.Value.{Value}
use Rattle.ac_base.specs.declared.value.Value.TheVariants as value
use Rattle.ac_model.specs.Letters.{Mark, no_mark}
use Rattle.ac_rules.specs.declared.resolved.ResolvedDecl.{ResolvedDecl}
use Rattle.ac_rules.specs.declared.resolved.ResolvedDecl.TheVariants as decl
use Rattle.ac_calls.specs.Holdings.{Held, takes_guards, Guards, held_under, held_at_rest, new_held, nodes_of, element_value}

-- what a name holds
pub data Bound : Type 0 where
  binds_type : Bound
  binds_object : Held → Bound
  -- a cursor variable, or a loop's cursor
  binds_cursor : Mark → Bound
  -- a variable, or the copy of an update of a key
  binds_value : Value → Bound
  -- the element itself that the cursor designates in the object at this place
  binds_element : (object : ℕ) → (at : Mark) → Bound

pub record State : Type 0 where
  -- by the places of their names
  pub bounds : List Bound
  -- the number of the next object
  pub next : ℕ
  -- how many blocks of tasks have begun
  pub blocks : ℕ

abbrev pub first_state : State
first_state = record { bounds = []; next = 1; blocks = 0 }

-- under these guards, and at rest

module _ (f : Held → Held) where
  abbrev pub bound_by : Bound → Bound
  bound_by binds_type = binds_type
  bound_by (binds_object h) = binds_object (f h)
  bound_by (binds_cursor mark) = binds_cursor mark
  bound_by (binds_value v) = binds_value v
  bound_by (binds_element object at) = binds_element object at

  abbrev pub objects_by : State → State
  objects_by e = record e { bounds = map bound_by e.bounds }

-- the environment as a command finds it while these guards are held
abbrev pub under : Guards → State → State
under guards e = objects_by (held_under guards) e

-- and as it is kept
abbrev pub at_rest : State → State
at_rest e = objects_by held_at_rest e

-- what stands at a place: past the end there is no name
abbrev pub bound_in : Option Bound → Bound
bound_in None = binds_type
bound_in (Some bound) = bound

abbrev pub bound_at : State → ℕ → Bound
bound_at e place = bound_in (slice_get e.bounds place)

abbrev pub with_bound : State → ℕ → Bound → State
with_bound e place bound = record e { bounds = slice_set e.bounds place bound }

abbrev pub object_in : Bound → Option Held
object_in binds_type = None
object_in (binds_object h) = Some h
object_in (binds_cursor _) = None
object_in (binds_value _) = None
object_in (binds_element _ _) = None

abbrev pub object_at : State → ℕ → Option Held
object_at e place = object_in (bound_at e place)

-- that a block can guard: on a queue no guard is held
abbrev pub only_guarded : Option Held → Option Held
only_guarded None = None
only_guarded (Some h) = if takes_guards h then Some h else None

abbrev pub guarded_at : State → ℕ → Option Held
guarded_at e place = only_guarded (object_at e place)

-- the mark of a cursor: what holds none is at no element
abbrev pub mark_in : Bound → Mark
mark_in binds_type = no_mark
mark_in (binds_object _) = no_mark
mark_in (binds_cursor mark) = mark
mark_in (binds_value _) = no_mark
mark_in (binds_element _ _) = no_mark

abbrev pub mark_at : State → Option ℕ → Mark
mark_at e None = no_mark
mark_at e (Some place) = mark_in (bound_at e place)

abbrev pub value_or_zero : Option Value → Value
value_or_zero None = value.Int (pos 0)
value_or_zero (Some v) = v

abbrev pub element_in : Option Held → Mark → Option Value
element_in None at = None
element_in (Some h) at = (element_value h at).answer

-- the present value of a variable, or of the element that a name stands for
abbrev pub value_in : State → Bound → Value
value_in e binds_type = value_or_zero None
value_in e (binds_object _) = value_or_zero None
value_in e (binds_cursor _) = value_or_zero None
value_in e (binds_value v) = v
value_in e (binds_element object at) = value_or_zero (element_in (object_at e object) at)

abbrev pub value_at : State → ℕ → Value
value_at e place = value_in e (bound_at e place)

-- Scopes

-- with one name more
abbrev pub with_name : State → Bound → State
with_name e bound = record e { bounds = e.bounds ++ bound ∷ [] }

-- back to so many names
abbrev pub leaving : ℕ → State → State
leaving count e = record e { bounds = take count e.bounds }

-- after declarations: each new object takes the next number, unless none is left, and then this is the declaration's line
pub record Declared : Type 0 where
  pub after : State
  pub spent : Option ℕ

abbrev pub declared : State → Declared
declared e = record { after = e; spent = None }

abbrev pub number_taken : State → State
number_taken e = record e { next = e.next + 1 }

abbrev pub after_decl : State → ResolvedDecl → Declared
after_decl e decl.TypeDecl = declared (with_name e binds_type)
after_decl e (decl.Object line def capacity) =
    if nat_lt e.next numbers_end then declared (number_taken (with_name e (binds_object (new_held def e.next capacity))))
    else record { after = e; spent = Some line }
after_decl e decl.Cursor = declared (with_name e (binds_cursor no_mark))
after_decl e decl.Integer = declared (with_name e (binds_value (value.Int (pos 0))))
after_decl e decl.Text = declared (with_name e (binds_value (value.Text [])))

abbrev pub unless_spent : (State → Declared) → Declared → Declared
unless_spent others first = elim first.spent [ None ↦ others first.after | Some line ↦ first ]

-- up to the first that finds no number
abbrev pub after_decls : List ResolvedDecl → State → Declared
after_decls [] e = declared e
after_decls (d ∷ ds) e = unless_spent (after_decls ds) (after_decl e d)

abbrev pub nodes_in : Bound → ℕ
nodes_in binds_type = 0
nodes_in (binds_object h) = nodes_of h
nodes_in (binds_cursor _) = 0
nodes_in (binds_value _) = 0
nodes_in (binds_element _ _) = 0

-- how many elements the objects in scope have
abbrev pub nodes : State → ℕ
nodes e = sum_by nodes_in e.bounds

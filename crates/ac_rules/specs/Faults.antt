-- What is faulty in a script, and where the first fault is.
use Rattle.std.specs.Prelude.{◌≡◌, ℕ, ◌+◌, ◌||◌, nat_lt, nat_le, Bool, false, not, List, [], ◌∷◌, ◌++◌, length, is_some, unwrap_or, Option, Some, None, if◌then◌else◌}
use Rattle.std.specs.List.{list_any, sum_by}
use denote.Enum.Bare.{sameb}
use Rattle.ac_base.specs.contracts.reason.Exception.{the_type}
use Rattle.ac_base.specs.declared.reason.Exception.{Exception}
use Rattle.ac_syntax.specs.Code.{Head, loop_at, view_at, stable_at, declare_at, tasks_at, task_at}
use Rattle.ac_syntax.specs.Items.{Item, declares, commands, opens, begins, closes, propagates, tries, catches, item_line}
use Rattle.ac_syntax.specs.declared.decl.Decl.{Decl}
use Rattle.ac_syntax.specs.declared.decl.Decl.TheVariants.{TypeDecl, Object, CursorVar, IntVar, TextVar}
use Rattle.ac_syntax.specs.declared.refusal.RefusalKind.{RefusalKind}
use Rattle.ac_syntax.specs.declared.refusal.RefusalKind.TheVariants.{Limit, UnknownName, WrongType, Twice}
use Rattle.ac_syntax.specs.declared.script.Script.{Script}
use Rattle.ac_rules.specs.declared.limits.TheConstants.{MOST_NAMES, MOST_ROOM}
use Rattle.ac_rules.specs.Scopes.{Scope, meaning_in, Standing, standings}
use Rattle.ac_rules.specs.UsedNames.{optional_name, simple_names}
use Rattle.ac_rules.specs.Rules.{is_well_typed}

abbrev pub decl_names : Decl → List (List ℕ)
decl_names (TypeDecl line name def) = []
decl_names (Object line name of capacity) = of ∷ []
decl_names (CursorVar line name of) = of ∷ []
decl_names (IntVar line name) = []
decl_names (TextVar line name) = []

abbrev pub head_names : Head → List (List ℕ)
head_names (loop_at line name elements backward object) = object ∷ []
head_names (view_at line view object at name) = object ∷ optional_name at
head_names (stable_at line object) = object ∷ []
head_names (declare_at line decls) = []
head_names (tasks_at line) = []
head_names (task_at line name locals) = []

-- the names that an item uses, but for a call's word
abbrev pub used : Item → List (List ℕ)
used (declares decl) = decl_names decl
used (commands simple) = simple_names simple
used (opens head) = head_names head
used begins = []
used (closes _) = []
used (propagates _) = []
used (tries _) = []
used (catches _ _) = []

abbrev pub decl_name : Decl → List ℕ
decl_name (TypeDecl line name def) = name
decl_name (Object line name of capacity) = name
decl_name (CursorVar line name of) = name
decl_name (IntVar line name) = name
decl_name (TextVar line name) = name

abbrev pub head_name : Head → Option (List ℕ)
head_name (loop_at line name elements backward object) = Some name
head_name (view_at line view object at name) = Some name
head_name (stable_at line object) = None
head_name (declare_at line decls) = None
head_name (tasks_at line) = None
head_name (task_at line name locals) = Some name

-- the name that an item declares
abbrev pub declared : Item → Option (List ℕ)
declared (declares decl) = Some (decl_name decl)
declared (commands simple) = None
declared (opens head) = head_name head
declared begins = None
declared (closes _) = None
declared (propagates _) = None
declared (tries _) = None
declared (catches _ _) = None

-- the exception that an item names
abbrev pub caught : Item → Option Exception
caught (declares decl) = None
caught (commands simple) = None
caught (opens head) = None
caught begins = None
caught (closes _) = None
caught (propagates _) = None
caught (tries _) = None
caught (catches _ own) = own

abbrev pub decl_capacity : Decl → ℕ
decl_capacity (TypeDecl line name def) = 0
decl_capacity (Object line name of capacity) = unwrap_or capacity 0
decl_capacity (CursorVar line name of) = 0
decl_capacity (IntVar line name) = 0
decl_capacity (TextVar line name) = 0

-- the capacity that an item gives
abbrev pub capacity : Item → ℕ
capacity (declares decl) = decl_capacity decl
capacity (commands simple) = 0
capacity (opens head) = 0
capacity begins = 0
capacity (closes _) = 0
capacity (propagates _) = 0
capacity (tries _) = 0
capacity (catches _ _) = 0

abbrev pub is_in_scope : Scope → List ℕ → Bool
is_in_scope scope name = is_some (meaning_in scope name)

abbrev pub is_twice : Scope → Option (List ℕ) → Bool
is_twice scope None = false
is_twice scope (Some name) = is_in_scope scope name

-- it is the one that a handler names
abbrev pub is_own : Option Exception → Exception → Bool
is_own None exception = false
is_own (Some own) exception = sameb the_type own exception

-- the exception is one of those that were named
abbrev pub is_named : (named : List Exception) → Option Exception → Bool
is_named named own = list_any (is_own own) named

-- one name more is one too many
abbrev pub is_crowded : Scope → Option (List ℕ) → Bool
is_crowded scope None = false
is_crowded scope (Some name) = nat_le MOST_NAMES (length scope)

-- the capacities of these items in all
abbrev pub room_of : List Standing → ℕ
room_of earlier = sum_by (λ (s : Standing). capacity s.item) earlier

-- what is faulty in an item behind those before it: the first of these that is
abbrev pub fault : List Standing → Standing → Option RefusalKind
fault earlier s =
    if list_any (λ name. not (is_in_scope s.scope name)) (used s.item) then Some UnknownName
    else if not (is_well_typed s) then Some WrongType
    else if is_named s.named (caught s.item) || is_twice s.scope (declared s.item) then Some Twice
    else if is_crowded s.scope (declared s.item) || nat_lt MOST_ROOM (room_of earlier + capacity s.item) then Some Limit
    else None

-- no item of these is faulty
abbrev pub AreFaultless : List Standing → Type 0
AreFaultless all = (earlier later : List Standing) (s : Standing) → all ≡ earlier ++ s ∷ later → fault earlier s ≡ None

-- the first faulty item of a script stands on this line, and this is its fault
pub record IsFirstFault (script : Script) (line : ℕ) (kind : RefusalKind) : Type 0 where
  pub earlier : List Standing
  pub later : List Standing
  pub faulty : Standing
  pub split : standings script ≡ earlier ++ faulty ∷ later
  pub first : AreFaultless earlier
  pub is : fault earlier faulty ≡ Some kind
  pub stands : item_line faulty.item ≡ Some line

-- a script that can run
abbrev pub IsChecked : Script → Type 0
IsChecked script = AreFaultless (standings script)

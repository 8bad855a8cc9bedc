-- Items as a walk takes them: one by one, with the room that the objects so far have.
use Rattle.std.specs.Prelude.{◌≡◌, ℕ, ◌+◌, ◌||◌, nat_lt, Bool, false, not, List, [], ◌∷◌, Option, Some, None, Result, Err, if◌then◌else◌}
use Rattle.std.specs.List.{list_any}
use Rattle.ac_syntax.specs.Code.{call_at, set_at, sum_at, loop_at, view_at, stable_at, declare_at, tasks_at}
use Rattle.ac_syntax.specs.Items.{Item, commands, opens, tries, item_line}
use Rattle.ac_syntax.specs.declared.stmt.Stmt.{Stmt}
use Rattle.ac_syntax.specs.declared.stmt.Stmt.TheVariants.{Call, Set, Sum, Loop, View, Stable, Declare, Tasks, Handled}
use Rattle.ac_syntax.specs.declared.refusal.RefusalKind.{RefusalKind}
use Rattle.ac_syntax.specs.declared.refusal.RefusalKind.TheVariants.{Limit, UnknownName, WrongType, Twice}
use Rattle.ac_syntax.specs.declared.fault.ScriptFault.{ScriptFault}
use Rattle.ac_syntax.specs.declared.fault.ScriptFault.TheVariants.{Refused}
use Rattle.ac_rules.specs.Scopes.{Scope, Standing}
use Rattle.ac_rules.specs.Rules.{is_well_typed}
use Rattle.ac_rules.specs.declared.limits.TheConstants.{MOST_ROOM}
use Rattle.ac_rules.specs.Faults.{used, declared, caught, capacity, is_in_scope, is_twice, is_named, is_crowded}

-- a statement's command, or what begins its block
abbrev pub stmt_item : Stmt → Item
stmt_item (Call line target object word args) = commands (call_at line target object word args)
stmt_item (Set line target from) = commands (set_at line target from)
stmt_item (Sum line target from minus number) = commands (sum_at line target from minus number)
stmt_item (Loop line name elements backward object body) = opens (loop_at line name elements backward object)
stmt_item (View line view object at name body) = opens (view_at line view object at name)
stmt_item (Stable line object body) = opens (stable_at line object)
stmt_item (Declare line decls body) = opens (declare_at line [])
stmt_item (Tasks line tasks) = opens (tasks_at line)
stmt_item (Handled line body handlers) = tries line

-- one of the names isn't in scope
abbrev pub has_unknown : Scope → List (List ℕ) → Bool
has_unknown scope names = list_any (λ name. not (is_in_scope scope name)) names

-- what is faulty in what is named or declared, behind items that give so much room
abbrev pub declared_or : (is_again : Bool) → (room : ℕ) → Scope → (name : Option (List ℕ)) → (capacity : ℕ) → Option RefusalKind
declared_or is_again room scope name capacity =
    if is_again || is_twice scope name then Some Twice
    else if is_crowded scope name || nat_lt MOST_ROOM (room + capacity) then Some Limit
    else None

-- in what is declared alone
abbrev pub declared_fault : (room : ℕ) → Scope → (name : Option (List ℕ)) → (capacity : ℕ) → Option RefusalKind
declared_fault room scope name capacity = declared_or false room scope name capacity

-- what is faulty in an item behind items that give so much room
abbrev pub fault_with : (room : ℕ) → Standing → Option RefusalKind
fault_with room s =
    if has_unknown s.scope (used s.item) then Some UnknownName
    else if not (is_well_typed s) then Some WrongType
    else declared_or (is_named s.named (caught s.item)) room s.scope (declared s.item) (capacity s.item)

-- where a walk ends: behind all items, with the room that they give in all, or at the first faulty one
pub data Outcome : Type 0 where
  goes_on : (room : ℕ) → Outcome
  refused : (line : Option ℕ) → RefusalKind → Outcome

abbrev pub step : Option RefusalKind → (line : Option ℕ) → (further : Outcome) → Outcome
step None line further = further
step (Some kind) line further = refused line kind

abbrev pub outcome : (room : ℕ) → List Standing → Outcome
outcome room [] = goes_on room
outcome room (s ∷ later) = step (fault_with room s) (item_line s.item) (outcome (room + capacity s.item) later)

abbrev pub behind : Outcome → (ℕ → Outcome) → Outcome
behind (goes_on room) further = further room
behind (refused line kind) further = refused line kind

-- what refuses an item, refuses it as the walk does
abbrev pub StopsAs : {X : Type 0} → Result X ScriptFault → Outcome → Type 0
StopsAs result o = (line : ℕ) (kind : RefusalKind) → result ≡ Err (Refused line kind) → o ≡ refused (Some line) kind

-- it refuses this item, whatever is behind it
abbrev pub StopsAt : {X : Type 0} → Result X ScriptFault → (room : ℕ) → Standing → Type 0
StopsAt result room s = (later : List Standing) → StopsAs result (outcome room (s ∷ later))

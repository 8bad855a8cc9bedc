-- The rules of types.
use Rattle.std.specs.Prelude.{ℕ, ◌&&◌, ◌||◌, nat_lt, codes, Bool, true, false, not, List, [], ◌∷◌, ◌++◌, is_some, Option, Some, None}
use Rattle.std.specs.List.{list_all, list_any, position_or_len}
use Rattle.std.specs.Str.{bytes_eq}
use denote.Enum.Bare.{sameb}
use Rattle.ac_base.specs.declared.value.Value.{Value}
use Rattle.ac_base.specs.declared.value.Value.TheVariants as value
use Rattle.ac_syntax.specs.contracts.kind.ElemKind.{the_type}
use Rattle.ac_syntax.specs.Code.{Simple, call_at, set_at, sum_at, Head, loop_at, view_at, stable_at, declare_at, tasks_at, task_at}
use Rattle.ac_syntax.specs.Items.{declares, commands, opens, begins, closes, propagates, tries, catches}
use Rattle.ac_syntax.specs.declared.arg.Arg.{Arg}
use Rattle.ac_syntax.specs.declared.arg.Arg.TheVariants.{Lit, NoElement, Var}
use Rattle.ac_syntax.specs.declared.decl.Decl.{Decl}
use Rattle.ac_syntax.specs.declared.decl.Decl.TheVariants.{TypeDecl, Object, CursorVar, IntVar, TextVar}
use Rattle.ac_syntax.specs.declared.kind.ElemKind.{ElemKind}
use Rattle.ac_syntax.specs.declared.kind.ElemKind.TheVariants.{Integer, Str}
use Rattle.ac_syntax.specs.declared.stmt.Stmt.{Stmt}
use Rattle.ac_syntax.specs.declared.stmt.Stmt.TheVariants.{Call, Set, Sum, Loop, View, Stable, Declare, Tasks, Handled}
use Rattle.ac_syntax.specs.declared.view_kind.ViewKind.{ViewKind}
use Rattle.ac_syntax.specs.declared.view_kind.ViewKind.TheVariants.{Query, Update, Reference, UpdateKey}
use Rattle.ac_syntax.specs.declared.type_def.TypeDef.{TypeDef}
use Rattle.ac_rules.specs.declared.rows.Letter.{Letter}
use Rattle.ac_rules.specs.declared.rows.Letter.TheVariants as letter
use Rattle.ac_rules.specs.declared.rows.Answer.{Answer}
use Rattle.ac_rules.specs.declared.rows.Answer.TheVariants as answer
use Rattle.ac_syntax.specs.Kinds.{is_map, is_set, is_queue, is_holder, has_cursors, goes_backward, is_built}
use Rattle.ac_rules.specs.Table.{Row, rows_of}
use Rattle.ac_rules.specs.UsedNames.{optional_name, arg_names, args_names}
use Rattle.ac_rules.specs.Scopes.{Meaning, a_type, an_object, a_cursor, a_value, a_task, Entry, Scope, first_task, meaning_in, type_of, object_of, Typed, element_of, Standing}

abbrev pub is_elem : ElemKind → ElemKind → Bool
is_elem wanted found = sameb the_type found wanted

-- both or neither
abbrev are_alike : Bool → Bool → Bool
are_alike true b = b
are_alike false b = not b

-- a map has two elements and others one, a queue's are integers, and sets of strings alone can be keyed
abbrev pub is_type : TypeDef → Bool
is_type def =
    is_built def.kind
    && (are_alike (is_some def.second) (is_map def.kind)
    && ((not (is_queue def.kind) || is_elem Integer def.first)
    && (not def.keyed || (is_set def.kind && is_elem Str def.first))))

-- an object has a capacity just where its type is bounded
abbrev pub is_object_of : Option TypeDef → Option ℕ → Bool
is_object_of None capacity = false
is_object_of (Some def) capacity = are_alike (is_some capacity) def.bounded

abbrev pub has_cursors_of : Option TypeDef → Bool
has_cursors_of None = false
has_cursors_of (Some def) = has_cursors def.kind

abbrev pub is_decl : Scope → Decl → Bool
is_decl scope (TypeDecl line name def) = is_type def
is_decl scope (Object line name of capacity) = is_object_of (type_of scope of) capacity
is_decl scope (CursorVar line name of) = has_cursors_of (type_of scope of)
is_decl scope (IntVar line name) = true
is_decl scope (TextVar line name) = true

-- what an argument or an answer gives: a value, a cursor of a type, or nothing that can be assigned
pub data Given : Type 0 where
  gives_value : ElemKind → Given
  gives_cursor : (type : List ℕ) → Given
  gives_no_element : Given
  gives_nothing : Given

abbrev pub kind_of : Value → ElemKind
kind_of (value.Int _) = Integer
kind_of (value.Text _) = Str

abbrev pub given_in : Option Meaning → Given
given_in None = gives_nothing
given_in (Some (a_type _)) = gives_nothing
given_in (Some (an_object _ _)) = gives_nothing
given_in (Some (a_cursor type _)) = gives_cursor type
given_in (Some (a_value elem _)) = gives_value elem
given_in (Some a_task) = gives_nothing

abbrev pub given : Scope → Arg → Given
given scope (Lit v) = gives_value (kind_of v)
given scope NoElement = gives_no_element
given scope (Var name) = given_in (meaning_in scope name)

abbrev pub is_value : ElemKind → Given → Bool
is_value wanted (gives_value elem) = is_elem wanted elem
is_value wanted (gives_cursor _) = false
is_value wanted gives_no_element = false
is_value wanted gives_nothing = false

abbrev pub is_cursor : (type : List ℕ) → Given → Bool
is_cursor type (gives_value _) = false
is_cursor type (gives_cursor found) = bytes_eq found type
is_cursor type gives_no_element = true
is_cursor type gives_nothing = false

-- a variable, or a view that can be written, takes what is of its type
abbrev pub takes : Option Meaning → Given → Bool
takes None found = false
takes (Some (a_type _)) found = false
takes (Some (an_object _ _)) found = false
takes (Some (a_cursor type is_variable)) found = is_variable && is_cursor type found
takes (Some (a_value elem is_written)) found = is_written && is_value elem found
takes (Some a_task) found = false

-- a cursor variable of the type
abbrev pub is_variable_of : (type : List ℕ) → Option Meaning → Bool
is_variable_of type None = false
is_variable_of type (Some (a_type _)) = false
is_variable_of type (Some (an_object _ _)) = false
is_variable_of type (Some (a_cursor found is_variable)) = is_variable && bytes_eq found type
is_variable_of type (Some (a_value _ _)) = false
is_variable_of type (Some a_task) = false

abbrev pub is_variable : Scope → (type : List ℕ) → Arg → Bool
is_variable scope type (Lit _) = false
is_variable scope type NoElement = false
is_variable scope type (Var name) = is_variable_of type (meaning_in scope name)

abbrev pub is_typed : (type : List ℕ) → Option Typed → Bool
is_typed type None = false
is_typed type (Some typed) = bytes_eq typed.type type

abbrev pub is_object : Scope → (type : List ℕ) → Arg → Bool
is_object scope type (Lit _) = false
is_object scope type NoElement = false
is_object scope type (Var name) = is_typed type (object_of scope name)

-- an argument is what the letter asks of a call on an object of the type
abbrev pub fits : Scope → Typed → Letter → Arg → Bool
fits scope typed letter.Cursor arg = is_cursor typed.type (given scope arg)
fits scope typed letter.CursorVariable arg = is_variable scope typed.type arg
fits scope typed letter.Integer arg = is_value Integer (given scope arg)
fits scope typed letter.Element arg = is_value (element_of typed.def) (given scope arg)
fits scope typed letter.Key arg = is_value typed.def.first (given scope arg)
fits scope typed letter.Object arg = is_object scope typed.type arg

abbrev pub fits_optional : Scope → Typed → Option Letter → List Arg → Bool
fits_optional scope typed optional [] = true
fits_optional scope typed None (arg ∷ args) = false
fits_optional scope typed (Some last) (arg ∷ []) = fits scope typed last arg
fits_optional scope typed (Some last) (arg ∷ next ∷ args) = false

abbrev pub all_fit : Scope → Typed → List Letter → Option Letter → List Arg → Bool
all_fit scope typed [] optional args = fits_optional scope typed optional args
all_fit scope typed (first ∷ letters) optional [] = false
all_fit scope typed (first ∷ letters) optional (arg ∷ args) = fits scope typed first arg && all_fit scope typed letters optional args

abbrev pub answered : Typed → Answer → Given
answered typed answer.Done = gives_nothing
answered typed answer.Integer = gives_value Integer
answered typed answer.Truth = gives_nothing
answered typed answer.Cursor = gives_cursor typed.type
answered typed answer.Element = gives_value (element_of typed.def)
answered typed answer.Key = gives_value typed.def.first
answered typed answer.Listing = gives_nothing

abbrev pub takes_answer : Scope → (target : Option (List ℕ)) → Given → Bool
takes_answer scope None found = true
takes_answer scope (Some target) found = takes (meaning_in scope target) found

-- a call is a row's
abbrev pub is_row : Scope → Typed → (target : Option (List ℕ)) → (word : List ℕ) → List Arg → Row → Bool
is_row scope typed target word args row =
    bytes_eq row.word word
    && (all_fit scope typed row.letters row.optional args && takes_answer scope target (answered typed row.answer))

abbrev pub is_call : Scope → Option Typed → (target : Option (List ℕ)) → (word : List ℕ) → List Arg → Bool
is_call scope None target word args = false
is_call scope (Some typed) target word args = list_any (is_row scope typed target word args) (rows_of typed.def)

-- of integers alone
abbrev pub is_sum : Scope → (target from : List ℕ) → Bool
is_sum scope target from = takes (meaning_in scope target) (gives_value Integer) && is_value Integer (given_in (meaning_in scope from))

abbrev pub is_simple : Scope → Simple → Bool
is_simple scope (call_at line target object word args) = is_call scope (object_of scope object) target word args
is_simple scope (set_at line target from) = takes (meaning_in scope target) (given scope from)
is_simple scope (sum_at line target from minus number) = is_sum scope target from

-- what a loop can go over, and in which direction
abbrev pub is_looped : (backward : Bool) → Option Typed → Bool
is_looped backward None = false
is_looped backward (Some typed) = has_cursors typed.def.kind && (not backward || goes_backward typed.def.kind)

abbrev pub is_viewed : ViewKind → TypeDef → Bool
is_viewed Query def = not (is_queue def.kind)
is_viewed Update def = not (is_queue def.kind) && not (is_set def.kind)
is_viewed Reference def = not (is_queue def.kind) && not (is_set def.kind)
is_viewed UpdateKey def = is_set def.kind && def.keyed

-- a holder's element has no cursor, and every other one has one
abbrev pub is_place : Scope → Typed → (at : Option (List ℕ)) → Bool
is_place scope typed None = is_holder typed.def.kind
is_place scope typed (Some cursor) = not (is_holder typed.def.kind) && is_cursor typed.type (given_in (meaning_in scope cursor))

abbrev pub is_view : Scope → ViewKind → Option Typed → (at : Option (List ℕ)) → Bool
is_view scope view None at = false
is_view scope view (Some typed) at = is_viewed view typed.def && is_place scope typed at

abbrev pub is_head : Scope → Head → Bool
is_head scope (loop_at line name elements backward object) = is_looped backward (object_of scope object)
is_head scope (view_at line view object at name) = is_view scope view (object_of scope object) at
is_head scope (stable_at line object) = is_looped false (object_of scope object)
is_head scope (declare_at line decls) = true
is_head scope (tasks_at line) = true
is_head scope (task_at line name locals) = true

-- in a task, behind whose name and those of other tasks its locals stand

abbrev pub is_local : Scope → (first : ℕ) → List ℕ → Bool
is_local scope first name = nat_lt first (position_or_len (λ (e : Entry). bytes_eq e.name name) scope)

abbrev pub are_local : Scope → (first : ℕ) → List (List ℕ) → Bool
are_local scope first names = list_all (is_local scope first) names

abbrev pub is_on_queue : Option Typed → Bool
is_on_queue None = false
is_on_queue (Some typed) = is_queue typed.def.kind

-- a command uses its task's locals and literals, and calls queues alone, but for Print
abbrev pub is_task_simple : Scope → (first : ℕ) → Simple → Bool
is_task_simple scope first (call_at line target object word args) =
    is_on_queue (object_of scope object) && (not (bytes_eq word (codes "print")) && are_local scope first (optional_name target ++ args_names args))
is_task_simple scope first (set_at line target from) = are_local scope first (target ∷ arg_names from)
is_task_simple scope first (sum_at line target from minus number) = are_local scope first (target ∷ from ∷ [])

-- a local is an integer
abbrev pub is_task_decl : Decl → Bool
is_task_decl (TypeDecl _ _ _) = false
is_task_decl (Object _ _ _ _) = false
is_task_decl (CursorVar _ _ _) = false
is_task_decl (IntVar _ _) = true
is_task_decl (TextVar _ _) = false

-- no block stands in a task, but the next task of a block behind the last one
abbrev pub is_task_head : Head → Bool
is_task_head (loop_at _ _ _ _ _) = false
is_task_head (view_at _ _ _ _ _) = false
is_task_head (stable_at _ _) = false
is_task_head (declare_at _ _) = false
is_task_head (tasks_at _) = false
is_task_head (task_at _ _ _) = true

-- what an item may be where it stands
abbrev pub suits : Option ℕ → ((first : ℕ) → Bool) → Bool
suits None in_task = true
suits (Some first) in_task = in_task first

abbrev pub suits_decl : Scope → Decl → Bool
suits_decl scope decl = suits (first_task scope) (λ _. is_task_decl decl)

abbrev pub suits_simple : Scope → Simple → Bool
suits_simple scope simple = suits (first_task scope) (λ first. is_task_simple scope first simple)

abbrev pub suits_head : Scope → Head → Bool
suits_head scope head = suits (first_task scope) (λ _. is_task_head head)

-- an item keeps the rules. A block with handlers may stand wherever a block may
abbrev pub is_well_typed : Standing → Bool
is_well_typed s = elim s.item [
  | declares decl ↦ is_decl s.scope decl && suits_decl s.scope decl
  | commands simple ↦ is_simple s.scope simple && suits_simple s.scope simple
  | opens head ↦ is_head s.scope head && suits_head s.scope head
  | begins ↦ true
  | closes _ ↦ true
  | propagates _ ↦ true
  | tries _ ↦ suits (first_task s.scope) (λ _. false)
  | catches _ _ ↦ true
]

-- a statement keeps the rules: a command, or a block by its head
abbrev pub is_stmt : Scope → Stmt → Bool
is_stmt scope (Call line target object word args) = is_simple scope (call_at line target object word args)
is_stmt scope (Set line target from) = is_simple scope (set_at line target from)
is_stmt scope (Sum line target from minus number) = is_simple scope (sum_at line target from minus number)
is_stmt scope (Loop line name elements backward object body) = is_head scope (loop_at line name elements backward object)
is_stmt scope (View line view object at name body) = is_head scope (view_at line view object at name)
is_stmt scope (Stable line object body) = is_head scope (stable_at line object)
is_stmt scope (Declare line decls body) = true
is_stmt scope (Tasks line tasks) = true
is_stmt scope (Handled line body handlers) = true

-- and suits a task, or wherever it stands

abbrev pub is_task_stmt : Scope → (first : ℕ) → Stmt → Bool
is_task_stmt scope first (Call line target object word args) = is_task_simple scope first (call_at line target object word args)
is_task_stmt scope first (Set line target from) = is_task_simple scope first (set_at line target from)
is_task_stmt scope first (Sum line target from minus number) = is_task_simple scope first (sum_at line target from minus number)
is_task_stmt scope first (Loop line name elements backward object body) = false
is_task_stmt scope first (View line view object at name body) = false
is_task_stmt scope first (Stable line object body) = false
is_task_stmt scope first (Declare line decls body) = false
is_task_stmt scope first (Tasks line tasks) = false
is_task_stmt scope first (Handled line body handlers) = false

abbrev pub suits_stmt : Scope → Stmt → Bool
suits_stmt scope stmt = suits (first_task scope) (λ first. is_task_stmt scope first stmt)

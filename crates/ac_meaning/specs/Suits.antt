-- What a script that can run never reaches: the cases that the definitions have for completeness alone. A call is on an object, its operation is one of that object's kind, what it takes as a cursor is one and what it takes as an object is of the same type, a block guards what can be guarded, and a block of tasks fits.
use Rattle.std.specs.Prelude.{◌≡◌, ⊤, ℕ, Bool, true, false, List, [], ◌∷◌, IsTrue, Option, Some, None}
use Rattle.ac_model.specs.Letters.{Mark}
use Rattle.ac_model.specs.Queues.{Discipline, by_arrival}
use Rattle.ac_syntax.specs.Code.{call_at, loop_at, view_at, stable_at, tasks_at, Code, block}
use Rattle.ac_syntax.specs.Nesting.{AreStatements}
use Rattle.ac_syntax.specs.declared.arg.Arg.{Arg}
use Rattle.ac_syntax.specs.declared.arg.Arg.TheVariants.{Var}
use Rattle.ac_syntax.specs.declared.operation.KeyedCall.{KeyedCall}
use Rattle.ac_syntax.specs.declared.operation.KeyedCall.TheVariants as keyed_call
use Rattle.ac_syntax.specs.declared.operation.Operation.{Operation}
use Rattle.ac_syntax.specs.declared.operation.Operation.TheVariants as operation
use Rattle.ac_syntax.specs.declared.operation.QueueCall.{QueueCall}
use Rattle.ac_syntax.specs.declared.operation.QueueCall.TheVariants as queue_call
use Rattle.ac_syntax.specs.declared.view_kind.ViewKind.{ViewKind}
use Rattle.ac_rules.specs.declared.rows.Letter.{Letter}
use Rattle.ac_rules.specs.declared.rows.Letter.TheVariants as letter
use Rattle.ac_rules.specs.Kept.{CommandKept, HeadKept, KeepsRules}
use Rattle.ac_rules.specs.Operations.{operation_of}
use Rattle.ac_rules.specs.Resolved.{place_of, resolve_arg, resolve}
use Rattle.ac_rules.specs.Scopes.{Scope, Typed, object_of}
use Rattle.ac_rules.specs.Table.{Row}
use Rattle.ac_calls.specs.Holdings.{SequenceKind, of_list, of_vector, RowKind, a_sequence, a_map, a_set, a_keyed_set, a_tree, Held, Guards}
use Rattle.ac_calls.specs.KeyedReplies.{KeyedKind, of_hashed, of_ordered}
use Rattle.ac_calls.specs.Replies.{Argument, cursor_argument}
use Rattle.ac_meaning.specs.Commands.{argument}
use Rattle.ac_meaning.specs.Environment.{State, under, object_at, guarded_at}
use Rattle.ac_meaning.specs.Execution.{gathered, run_by}
use Rattle.ac_meaning.specs.HoldsTypes.{Shape, has_rows, has_place, has_line, shape_of, shape_of_type, HoldsTypes}
use Rattle.ac_meaning.specs.TaskBlocks.{block_of, block_fits}

-- The operations that each kind's objects have

abbrev pub is_own_of_sequence : SequenceKind → Operation → Bool
is_own_of_sequence which (operation.Common _) = true
is_own_of_sequence which (operation.Sequence _) = true
is_own_of_sequence of_list (operation.List _) = true
is_own_of_sequence of_vector (operation.Capacity _) = true
is_own_of_sequence of_vector (operation.Vector _) = true
is_own_of_sequence _ _ = false

abbrev pub is_own_of_map : KeyedKind → Operation → Bool
is_own_of_map which (operation.Common _) = true
is_own_of_map which (operation.Walk _) = true
is_own_of_map which (operation.Map _) = true
is_own_of_map of_hashed (operation.Capacity _) = true
is_own_of_map of_ordered (operation.Ordered _) = true
is_own_of_map of_ordered (operation.OrderedMap _) = true
is_own_of_map _ _ = false

abbrev pub is_own_of_set : KeyedKind → Operation → Bool
is_own_of_set which (operation.Common _) = true
is_own_of_set which (operation.Walk _) = true
is_own_of_set which (operation.Set _) = true
is_own_of_set which (operation.SetPair _) = true
is_own_of_set of_hashed (operation.Capacity _) = true
is_own_of_set of_ordered (operation.Ordered _) = true
is_own_of_set of_ordered (operation.OrderedSet _) = true
is_own_of_set _ _ = false

-- Floor and Ceiling of a key are of ordered ones alone
abbrev pub is_own_by_key : KeyedKind → KeyedCall → Bool
is_own_by_key of_hashed keyed_call.KeyFloor = false
is_own_by_key of_hashed keyed_call.KeyCeiling = false
is_own_by_key _ _ = true

abbrev pub is_own_of_keyed_set : KeyedKind → Operation → Bool
is_own_of_keyed_set which (operation.Keyed c) = is_own_by_key which c
is_own_of_keyed_set which operation = is_own_of_set which operation

abbrev pub is_own_of_tree : Operation → Bool
is_own_of_tree (operation.Common _) = true
is_own_of_tree (operation.Tree _) = true
is_own_of_tree (operation.TreeChange _) = true
is_own_of_tree _ = false

abbrev pub is_own_of_holder : Operation → Bool
is_own_of_holder (operation.Holder _) = true
is_own_of_holder _ = false

-- Dequeue_Only_High_Priority is of priority queues alone
abbrev pub is_own_of_line : Discipline → QueueCall → Bool
is_own_of_line by_arrival queue_call.DequeueOnlyHighPriority = false
is_own_of_line _ _ = true

abbrev pub is_own_of_queue : Discipline → Operation → Bool
is_own_of_queue discipline (operation.Queue c) = is_own_of_line discipline c
is_own_of_queue discipline _ = false

abbrev pub is_own_of_rows : RowKind → Operation → Bool
is_own_of_rows (a_sequence which _) operation = is_own_of_sequence which operation
is_own_of_rows (a_map which _ _) operation = is_own_of_map which operation
is_own_of_rows (a_set which _) operation = is_own_of_set which operation
is_own_of_rows (a_keyed_set which) operation = is_own_of_keyed_set which operation
is_own_of_rows (a_tree _) operation = is_own_of_tree operation

abbrev pub is_own : Shape → Operation → Bool
is_own (has_rows kind) operation = is_own_of_rows kind operation
is_own (has_place _) operation = is_own_of_holder operation
is_own (has_line discipline) operation = is_own_of_queue discipline operation

-- Arguments

-- an argument gives a call a cursor
pub record GivesCursor (a : Argument) : Type 0 where
  pub mark : Mark
  pub is : a ≡ cursor_argument mark

-- or names an object of the same type
pub record GivesObject (scope : Scope) (e : State) (typed : Typed) (arg : Arg) : Type 0 where
  pub name : List ℕ
  pub names : arg ≡ Var name
  pub held : Held
  pub there : object_at e (place_of scope name) ≡ Some held
  pub shape : shape_of held ≡ shape_of_type typed.def

-- as its letter asks it of a call on an object of the type. That a value has the type is told in `ValueTypes`
abbrev pub Suits : Scope → State → Typed → Letter → Arg → Type 0
Suits scope e typed letter.Cursor arg = GivesCursor (argument e (resolve_arg scope arg))
Suits scope e typed letter.CursorVariable arg = GivesCursor (argument e (resolve_arg scope arg))
Suits scope e typed letter.Integer arg = ⊤
Suits scope e typed letter.Element arg = ⊤
Suits scope e typed letter.Key arg = ⊤
Suits scope e typed letter.Object arg = GivesObject scope e typed arg

-- each of them, and one more that may be left out
abbrev pub SuitsOptional : Scope → State → Typed → Option Letter → List Arg → Type 0
SuitsOptional scope e typed optional [] = ⊤
SuitsOptional scope e typed None (arg ∷ args) = ⊥
SuitsOptional scope e typed (Some last) (arg ∷ []) = Suits scope e typed last arg
SuitsOptional scope e typed (Some last) (arg ∷ next ∷ args) = ⊥

abbrev pub AllSuit : Scope → State → Typed → List Letter → Option Letter → List Arg → Type 0
AllSuit scope e typed [] optional args = SuitsOptional scope e typed optional args
AllSuit scope e typed (first ∷ letters) optional [] = ⊥
AllSuit scope e typed (first ∷ letters) optional (arg ∷ args) = Suits scope e typed first arg × AllSuit scope e typed letters optional args

-- Calls

-- a call is on an object of its type, it means a row's operation, which is one of the object's kind, and has what the row's letters ask
pub record CallSuits (scope : Scope) (e : State) (target : Option (List ℕ)) (object word : List ℕ) (args : List Arg) : Type 0 where
  pub typed : Typed
  pub held : Held
  pub there : object_at e (place_of scope object) ≡ Some held
  pub shape : shape_of held ≡ shape_of_type typed.def
  pub row : Row
  pub means : operation_of scope (object_of scope object) target word args ≡ Some row.operation
  pub own : IsTrue (is_own (shape_of held) row.operation)
  pub arguments : AllSuit scope e typed row.letters row.optional args

abbrev pub CallsSuit : Type 0
CallsSuit =
    (scope : Scope) (e : State) (line : ℕ) (target : Option (List ℕ)) (object word : List ℕ) (args : List Arg) → HoldsTypes scope e →
    CommandKept scope (call_at line target object word args) → CallSuits scope e target object word args

-- Blocks

-- a block on an object finds one that takes guards, whatever guards are held
pub record Guarded (scope : Scope) (guards : Guards) (e : State) (object : List ℕ) : Type 0 where
  pub held : Held
  pub there : guarded_at (under guards e) (place_of scope object) ≡ Some held

pub record BlocksSuit : Type 0 where
  pub loops : (scope : Scope) (guards : Guards) (e : State) (line : ℕ) (name : List ℕ) (elements backward : Bool) (object : List ℕ) →
      HoldsTypes scope e → HeadKept scope (loop_at line name elements backward object) → Guarded scope guards e object
  pub views : (scope : Scope) (guards : Guards) (e : State) (line : ℕ) (view : ViewKind) (object : List ℕ) (at : Option (List ℕ)) (name : List ℕ) →
      HoldsTypes scope e → HeadKept scope (view_at line view object at name) → Guarded scope guards e object
  pub stables : (scope : Scope) (guards : Guards) (e : State) (line : ℕ) (object : List ℕ) →
      HoldsTypes scope e → HeadKept scope (stable_at line object) → Guarded scope guards e object

-- the numbers of a block of tasks are those of its queues and locals, and a queue that is asked for priorities is one by priority
abbrev pub TasksFit : Type 0
TasksFit =
    (propagating : Bool) (scope : Scope) (e : State) (line : ℕ) (tasks rest : Code) → HoldsTypes scope e →
    AreStatements propagating (block (tasks_at line) tasks rest) → KeepsRules scope (block (tasks_at line) tasks rest) → block_fits (block_of e (resolve scope tasks)) ≡ true

-- so each runs by its order
abbrev pub TasksRun : Type 0
TasksRun =
    (propagating : Bool) (scope : Scope) (e : State) (order : List ℕ) (line : ℕ) (tasks rest : Code) → HoldsTypes scope e →
    AreStatements propagating (block (tasks_at line) tasks rest) → KeepsRules scope (block (tasks_at line) tasks rest) →
    gathered order (resolve scope tasks) e ≡ run_by order (resolve scope tasks) e

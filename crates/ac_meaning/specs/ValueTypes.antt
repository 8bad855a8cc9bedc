-- Values have the types that the checks give them: a variable's value is of its type, an element that a name stands for is there and of its object's type, what a call takes as a value is one of the type that it asks, and what it answers is what the table says.
use Rattle.std.specs.Prelude.{◌≡◌, ◌==◌, ⊤, ℕ, Bool, false, List, [], ◌∷◌, ◌++◌, IsTrue, Contains, Option, Some, None}
use Rattle.std.specs.List.{list_any}
use Rattle.ac_base.specs.declared.value.Value.{Value}
use Rattle.ac_model.specs.Letters.{Mark, mark_at}
use Rattle.ac_model.specs.Outline.{IsValidTree}
use Rattle.ac_syntax.specs.Canonical.{propagates_in}
use Rattle.ac_syntax.specs.Code.{Simple, call_at, set_at, sum_at, loop_at, view_at, tasks_at, Code, stop, one, block, handled}
use Rattle.ac_syntax.specs.Nesting.{AreStatements}
use Rattle.ac_syntax.specs.declared.arg.Arg.{Arg}
use Rattle.ac_syntax.specs.declared.arg.Arg.TheVariants as arg
use Rattle.ac_syntax.specs.declared.decl.Decl.{Decl}
use Rattle.ac_syntax.specs.declared.kind.ElemKind.{ElemKind}
use Rattle.ac_syntax.specs.declared.kind.ElemKind.TheVariants.{Integer}
use Rattle.ac_syntax.specs.declared.script.Script.{Script}
use Rattle.ac_syntax.specs.declared.type_def.TypeDef.{TypeDef}
use Rattle.ac_syntax.specs.declared.view_kind.ViewKind.{ViewKind}
use Rattle.ac_syntax.specs.declared.view_kind.ViewKind.TheVariants.{UpdateKey}
use Rattle.ac_rules.specs.declared.rows.Answer.{Answer as Told}
use Rattle.ac_rules.specs.declared.rows.Answer.TheVariants as told
use Rattle.ac_rules.specs.declared.rows.Letter.{Letter}
use Rattle.ac_rules.specs.declared.rows.Letter.TheVariants as letter
use Rattle.ac_rules.specs.Faults.{IsChecked}
use Rattle.ac_rules.specs.Kept.{DeclsKept, CommandKept, HeadKept, KeepsRules}
use Rattle.ac_rules.specs.Operations.{operation_of}
use Rattle.ac_rules.specs.Resolved.{place_of, resolve_arg, resolve_decls, resolve_simple}
use Rattle.ac_rules.specs.Rules.{is_type, kind_of}
use Rattle.ac_rules.specs.Scopes.{Meaning, a_value, Scope, Typed, object_of, meaning_in, element_of, with_decls, behind_words}
use Rattle.ac_rules.specs.Table.{Row, rows_of}
use Rattle.ac_calls.specs.Answers.{Answer, answers_ok, answers_value, answers_truth, answers_place, answers_list}
use Rattle.ac_calls.specs.Holdings.{a_tree, Held, of_rows, Guards, number_of, names_of, holds_element, element_value, reply_of}
use Rattle.ac_calls.specs.Replies.{Argument, value_argument, Arguments, Reply}
use Rattle.ac_meaning.specs.Commands.{argument, answer_from}
use Rattle.ac_meaning.specs.Environment.{Bound, binds_object, binds_value, binds_element, State, first_state, under, bound_at, object_at, element_in, value_at, value_or_zero, with_name, after_decls}
use Rattle.ac_meaning.specs.Execution.{End, Orders, commanded, exec_behind, turn_bound, guards_of_loop, guards_of_view, head_reason, run_with}
use Rattle.ac_meaning.specs.GuardedNames.{is_guarded, is_element_guarded}
use Rattle.ac_meaning.specs.HoldsTypes.{shape_of, shape_of_type, HoldsTypes}

abbrev pub IsOf : ElemKind → Value → Type 0
IsOf element v = kind_of v ≡ element

-- Variables, and the copy of an update of a key

abbrev pub HoldsValue : Meaning → Bound → Type 0
HoldsValue (a_value element _) (binds_value v) = IsOf element v
HoldsValue _ _ = ⊤

abbrev pub AllValues : Scope → List Bound → Type 0
AllValues [] [] = ⊤
AllValues [] (_ ∷ _) = ⊥
AllValues (_ ∷ _) [] = ⊥
AllValues (entry ∷ scope) (b ∷ bounds) = HoldsValue entry.meaning b × AllValues scope bounds

abbrev pub VariablesHold : Scope → State → Type 0
VariablesHold scope e = AllValues scope e.bounds

-- Elements that names stand for

-- the element is there and stays: a guard is held on its object, and on a holder an element guard
pub record ElementStands (guards : Guards) (e : State) (object : ℕ) (at : Mark) : Type 0 where
  pub held : Held
  pub there : object_at e object ≡ Some held
  pub stands : (element_value held at).reason ≡ None
  pub guarded : IsTrue (is_guarded guards (number_of held))
  pub kept : IsTrue (holds_element held) → IsTrue (is_element_guarded guards (number_of held))

abbrev pub ElementsStand : Guards → State → Type 0
ElementsStand guards e = (place object : ℕ) (at : Mark) → bound_at e place ≡ binds_element object at → ElementStands guards e object at

-- no row of a tree is at its root, so that each cursor of a loop over it is at an element
abbrev pub IsSound : Held → Type 0
IsSound (of_rows (a_tree element) o) = IsValidTree o
IsSound _ = ⊤

abbrev pub IsSoundIn : Bound → Type 0
IsSoundIn (binds_object h) = IsSound h
IsSoundIn _ = ⊤

abbrev pub AllSound : List Bound → Type 0
AllSound [] = ⊤
AllSound (b ∷ bounds) = IsSoundIn b × AllSound bounds

abbrev pub ObjectsSound : State → Type 0
ObjectsSound e = AllSound e.bounds

-- what holds of the environment of statements under the guards of the enclosing blocks
pub record HoldsValues (scope : Scope) (guards : Guards) (e : State) : Type 0 where
  pub types : HoldsTypes scope e
  pub variables : VariablesHold scope e
  pub elements : ElementsStand guards e
  pub sound : ObjectsSound e

-- so what a name of a value stands for is of its type, and each element is found, also as a command finds them
pub record ValuesFound : Type 0 where
  pub values : (scope : Scope) (guards : Guards) (e : State) (name : List ℕ) (element : ElemKind) (is_written : Bool) → HoldsValues scope guards e →
      meaning_in scope name ≡ Some (a_value element is_written) → IsOf element (value_at e (place_of scope name))
  pub elements : (scope : Scope) (guards : Guards) (e : State) (place object : ℕ) (at : Mark) → HoldsValues scope guards e →
      bound_at e place ≡ binds_element object at → (v : Value) × (element_in (object_at e object) at ≡ Some v)
  pub guarded : (scope : Scope) (guards : Guards) (e : State) → HoldsValues scope guards e → HoldsValues scope guards (under guards e)

-- Answers

-- what the table says of a call on an object with keys and elements of these types. Of a priority queue that has no such item the answer is `false`
abbrev pub IsAnswer : (key element : ElemKind) → Told → Answer → Type 0
IsAnswer key element told.Done answers_ok = ⊤
IsAnswer key element told.Integer (answers_value v) = IsOf Integer v
IsAnswer key element told.Integer (answers_truth is_true) = is_true ≡ false
IsAnswer key element told.Truth (answers_truth _) = ⊤
IsAnswer key element told.Cursor (answers_place _) = ⊤
IsAnswer key element told.Element (answers_value v) = IsOf element v
IsAnswer key element told.Key (answers_value v) = IsOf key v
IsAnswer key element told.Listing (answers_list _) = ⊤
IsAnswer _ _ _ _ = ⊥

-- where nothing refuses the call
pub record RepliesAs {S : Type 0} (key element : ElemKind) (says : Told) (r : Reply S) : Type 0 where
  pub answer : r.reason ≡ None → IsAnswer key element says r.answer

-- of each row of the table, on each object of its type, with whatever arguments
abbrev pub AnswersAreTold : Type 0
AnswersAreTold =
    (def : TypeDef) (h : Held) (source : Option Held) (row : Row) (args : Arguments) → IsTrue (is_type def) → shape_of h ≡ shape_of_type def →
    Contains (rows_of def) row → RepliesAs def.first (element_of def) row.answer (reply_of h source row.operation args)

-- So a script that can run keeps them

-- where it begins, and behind declarations that keep the rules, unless no number is left
pub record ValuesDeclared : Type 0 where
  pub first : HoldsValues [] [] first_state
  pub decls : (scope : Scope) (decls : List Decl) (guards : Guards) (e : State) → HoldsValues scope guards e → DeclsKept scope decls →
      (after_decls (resolve_decls scope decls) e).spent ≡ None →
      HoldsValues (with_decls scope decls) guards (after_decls (resolve_decls scope decls) e).after
  pub script : (script : Script) → IsChecked script → (after_decls (resolve_decls [] script.decls) first_state).spent ≡ None →
      HoldsValues (with_decls [] script.decls) [] (after_decls (resolve_decls [] script.decls) first_state).after

-- in the body of a block under its guards: with the name of a loop at one of its object's names, with an element that a view finds, and with the copy of an update of a key, which is what was found under the cursor
pub record ValuesInBlocks : Type 0 where
  pub loops : (scope : Scope) (guards : Guards) (e : State) (line : ℕ) (name : List ℕ) (elements backward : Bool) (object : List ℕ) (h : Held) (at : ℕ) →
      HoldsValues scope guards e → HeadKept scope (loop_at line name elements backward object) → object_at (under guards e) (place_of scope object) ≡ Some h →
      IsTrue (list_any (λ (m : ℕ). m == at) (names_of h)) →
      HoldsValues (behind_words scope (loop_at line name elements backward object)) (guards_of_loop elements h ++ guards)
      (with_name e (turn_bound elements (place_of scope object) (mark_at (number_of h) at)))
  pub views : (scope : Scope) (guards : Guards) (e : State) (line : ℕ) (view : ViewKind) (object : List ℕ) (at : Option (List ℕ)) (name : List ℕ)
      (h : Held) (mark : Mark) → HoldsValues scope guards e → HeadKept scope (view_at line view object at name) →
      object_at (under guards e) (place_of scope object) ≡ Some h → head_reason view h mark ≡ None → (element_value h mark).reason ≡ None →
      HoldsValues (behind_words scope (view_at line view object at name)) (guards_of_view view h ++ guards)
      (with_name e (binds_element (place_of scope object) mark))
  pub copies : (scope : Scope) (guards : Guards) (e : State) (line : ℕ) (object : List ℕ) (at : Option (List ℕ)) (name : List ℕ)
      (h : Held) (mark : Mark) → HoldsValues scope guards e → HeadKept scope (view_at line UpdateKey object at name) →
      object_at (under guards e) (place_of scope object) ≡ Some h → head_reason UpdateKey h mark ≡ None →
      HoldsValues (behind_words scope (view_at line UpdateKey object at name)) (guards_of_view UpdateKey h ++ guards)
      (with_name e (binds_value (value_or_zero (element_value h mark).answer)))

-- statements that keep the rules keep it, up to all of a script's
pub record ValuesGoOn : Type 0 where
  pub commands : (scope : Scope) (guards : Guards) (e : State) (simple : Simple) → HoldsValues scope guards e → CommandKept scope simple →
      HoldsValues scope guards (commanded guards e (resolve_simple scope simple)).after
  pub statements : (propagates : Bool) (orders : Orders) (code : Code) (scope : Scope) (guards : Guards) (end : End) (e : State) → AreStatements propagates code →
      KeepsRules scope code → HoldsValues scope guards e → HoldsValues scope guards (exec_behind propagates orders code scope guards end e).after
  pub script : (orders : Orders) (script : Script) → IsChecked script → AreStatements (propagates_in script) script.stmts →
      (after_decls (resolve_decls [] script.decls) first_state).spent ≡ None →
      HoldsValues (with_decls [] script.decls) [] (run_with orders script).after

-- What a command takes

-- an argument gives a call a value of this type
pub record GivesValue (element : ElemKind) (a : Argument) : Type 0 where
  pub value : Value
  pub is : a ≡ value_argument value
  pub type : IsOf element value

-- as its letter asks it of a call on an object of the type
abbrev pub SuitsValue : Scope → State → Typed → Letter → Arg → Type 0
SuitsValue scope e typed letter.Cursor a = ⊤
SuitsValue scope e typed letter.CursorVariable a = ⊤
SuitsValue scope e typed letter.Integer a = GivesValue Integer (argument e (resolve_arg scope a))
SuitsValue scope e typed letter.Element a = GivesValue (element_of typed.def) (argument e (resolve_arg scope a))
SuitsValue scope e typed letter.Key a = GivesValue typed.def.first (argument e (resolve_arg scope a))
SuitsValue scope e typed letter.Object a = ⊤

abbrev pub LastSuitsValue : Scope → State → Typed → Option Letter → List Arg → Type 0
LastSuitsValue scope e typed optional [] = ⊤
LastSuitsValue scope e typed None (a ∷ args) = ⊥
LastSuitsValue scope e typed (Some last) (a ∷ []) = SuitsValue scope e typed last a
LastSuitsValue scope e typed (Some last) (a ∷ next ∷ args) = ⊥

abbrev pub AllSuitValues : Scope → State → Typed → List Letter → Option Letter → List Arg → Type 0
AllSuitValues scope e typed [] optional args = LastSuitsValue scope e typed optional args
AllSuitValues scope e typed (first ∷ letters) optional [] = ⊥
AllSuitValues scope e typed (first ∷ letters) optional (a ∷ args) =
    SuitsValue scope e typed first a × AllSuitValues scope e typed letters optional args

-- a call is a row's, and gives what the row's letters ask
pub record CallTakes (scope : Scope) (e : State) (target : Option (List ℕ)) (object word : List ℕ) (args : List Arg) : Type 0 where
  pub typed : Typed
  pub row : Row
  pub means : operation_of scope (object_of scope object) target word args ≡ Some row.operation
  pub arguments : AllSuitValues scope e typed row.letters row.optional args

-- in tasks, whose commands call queues and set locals, each literal is an integer

abbrev pub AreIntegers : List Arg → Type 0
AreIntegers [] = ⊤
AreIntegers (arg.Lit v ∷ args) = IsOf Integer v × AreIntegers args
AreIntegers (arg.NoElement ∷ args) = AreIntegers args
AreIntegers (arg.Var name ∷ args) = AreIntegers args

abbrev pub TakesIntegers : Simple → Type 0
TakesIntegers (call_at line target object word args) = AreIntegers args
TakesIntegers (set_at line target from) = AreIntegers (from ∷ [])
TakesIntegers (sum_at line target from minus number) = ⊤

abbrev pub AllTakeIntegers : Code → Type 0
AllTakeIntegers stop = ⊤
AllTakeIntegers (one simple rest) = TakesIntegers simple × AllTakeIntegers rest
AllTakeIntegers (block head body rest) = AllTakeIntegers body × AllTakeIntegers rest
-- no task tries anything
AllTakeIntegers (handled line body handlers rest) = ⊥

-- what is read as an integer is one, and what is assigned to a name of a value, an element too, is of the name's type
pub record ValuesTaken : Type 0 where
  pub calls : (scope : Scope) (guards : Guards) (e : State) (line : ℕ) (target : Option (List ℕ)) (object word : List ℕ) (args : List Arg) →
      HoldsValues scope guards e → CommandKept scope (call_at line target object word args) → CallTakes scope e target object word args
  pub sums : (scope : Scope) (guards : Guards) (e : State) (line : ℕ) (target from : List ℕ) (minus : Bool) (number : ℕ) →
      HoldsValues scope guards e → CommandKept scope (sum_at line target from minus number) → IsOf Integer (value_at e (place_of scope from))
  pub sets : (scope : Scope) (guards : Guards) (e : State) (line : ℕ) (target : List ℕ) (from : Arg) (v : Value) (element : ElemKind) (is_written : Bool) →
      HoldsValues scope guards e → CommandKept scope (set_at line target from) → answer_from e (resolve_arg scope from) ≡ answers_value v →
      meaning_in scope target ≡ Some (a_value element is_written) → IsOf element v
  pub tasks : (propagating : Bool) (scope : Scope) (e : State) (line : ℕ) (tasks rest : Code) → HoldsTypes scope e →
      AreStatements propagating (block (tasks_at line) tasks rest) →
      KeepsRules scope (block (tasks_at line) tasks rest) → AllTakeIntegers tasks

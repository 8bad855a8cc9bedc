-- What the names in scope hold is of the types that the checks give them: an object of its kind with elements of its types, a cursor of a type whose objects have cursors, and an element that of an object with such elements.
use Rattle.std.specs.Prelude.{◌≡◌, ⊤, ℕ, Bool, true, false, List, [], ◌∷◌, ◌++◌, length, slice_get, IsTrue, Option, Some, None}
use Rattle.ac_base.specs.declared.value.Value.{Value}
use Rattle.ac_model.specs.Letters.{Mark}
use Rattle.ac_model.specs.Queues.{Discipline, by_arrival, by_priority}
use Rattle.ac_syntax.specs.Code.{loop_at, view_at, Code}
use Rattle.ac_syntax.specs.Canonical.{propagates_in}
use Rattle.ac_syntax.specs.Kinds.{has_cursors}
use Rattle.ac_syntax.specs.Nesting.{AreStatements}
use Rattle.ac_syntax.specs.declared.decl.Decl.{Decl}
use Rattle.ac_syntax.specs.declared.kind.ElemKind.{ElemKind}
use Rattle.ac_syntax.specs.declared.kind.Kind.{Kind}
use Rattle.ac_syntax.specs.declared.kind.Kind.TheVariants as kinds
use Rattle.ac_syntax.specs.declared.script.Script.{Script}
use Rattle.ac_syntax.specs.declared.type_def.TypeDef.{TypeDef}
use Rattle.ac_syntax.specs.declared.view_kind.ViewKind.{ViewKind}
use Rattle.ac_rules.specs.Scopes.{Meaning, a_type, an_object, a_cursor, a_value, entry, Scope, Typed, meaning_in, object_of, element_of, with_decls, behind_words}
use Rattle.ac_rules.specs.Rules.{is_type}
use Rattle.ac_rules.specs.Faults.{IsChecked}
use Rattle.ac_rules.specs.Kept.{DeclsKept, HeadKept, KeepsRules}
use Rattle.ac_rules.specs.Resolved.{ResolvedSimple, place_of, resolve_decls}
use Rattle.ac_calls.specs.KeyedReplies.{KeyedKind, of_hashed, of_ordered}
use Rattle.ac_calls.specs.Holdings.{of_list, of_vector, RowKind, a_sequence, a_map, a_set, a_keyed_set, a_tree, Held, of_rows, of_holder, of_queue, Guards}
use Rattle.ac_meaning.specs.Environment.{Bound, binds_type, binds_object, binds_cursor, binds_value, binds_element, State, first_state, under, at_rest, bound_at, object_at, with_name, leaving, after_decls}
use Rattle.ac_meaning.specs.Commands.{performed}
use Rattle.ac_meaning.specs.Execution.{End, Orders, exec_behind, turn_bound, run_with}
use Rattle.ac_meaning.specs.FitsScope.{FitsScope}

-- An object's kind and the types of its elements

pub data Shape : Type 0 where
  has_rows : RowKind → Shape
  has_place : ElemKind → Shape
  has_line : Discipline → Shape

abbrev pub shape_of : Held → Shape
shape_of (of_rows kind o) = has_rows kind
shape_of (of_holder e h) = has_place e
shape_of (of_queue number q) = has_line q.discipline

abbrev pub set_shape : KeyedKind → ElemKind → (keyed : Bool) → Shape
set_shape which element false = has_rows (a_set which element)
set_shape which element true = has_rows (a_keyed_set which)

-- of a kind. A map's first type is that of its keys
abbrev pub shape_by : Kind → (first element : ElemKind) → (keyed : Bool) → Shape
shape_by kinds.Vector first element keyed = has_rows (a_sequence of_vector element)
shape_by kinds.List first element keyed = has_rows (a_sequence of_list element)
shape_by kinds.HashedMap first element keyed = has_rows (a_map of_hashed first element)
shape_by kinds.OrderedMap first element keyed = has_rows (a_map of_ordered first element)
shape_by kinds.HashedSet first element keyed = set_shape of_hashed element keyed
shape_by kinds.OrderedSet first element keyed = set_shape of_ordered element keyed
shape_by kinds.Tree first element keyed = has_rows (a_tree element)
shape_by kinds.Holder first element keyed = has_place element
shape_by kinds.Queue first element keyed = has_line by_arrival
shape_by kinds.PriorityQueue first element keyed = has_line by_priority

abbrev pub shape_of_type : TypeDef → Shape
shape_of_type def = shape_by def.kind def.first (element_of def) def.keyed

-- What a name holds

-- in a scope where the type's name stands for this type
abbrev pub IsTypeIn : Scope → (type : List ℕ) → TypeDef → Type 0
IsTypeIn scope type def = meaning_in scope type ≡ Some (a_type def)

-- a cursor's type is one whose objects have cursors
pub record HasCursors (scope : Scope) (type : List ℕ) : Type 0 where
  pub def : TypeDef
  pub is : IsTypeIn scope type def
  pub has : IsTrue (has_cursors def.kind)

-- the name at this place is that of an object with elements of this type
pub record HasElements (scope : Scope) (place : ℕ) (element : ElemKind) : Type 0 where
  pub name : List ℕ
  pub type : List ℕ
  pub def : TypeDef
  pub there : slice_get scope place ≡ Some (entry name (an_object type def))
  pub elements : element_of def ≡ element

-- what such a name holds, behind the names of this scope
abbrev pub Holds : Scope → Meaning → Bound → Type 0
Holds scope (a_type def) binds_type = IsTrue (is_type def)
Holds scope (an_object type def) (binds_object h) = IsTypeIn scope type def × (shape_of h ≡ shape_of_type def)
Holds scope (a_cursor type _) (binds_cursor _) = HasCursors scope type
Holds scope (a_value _ _) (binds_value _) = ⊤
Holds scope (a_value element _) (binds_element place _) = HasElements scope place element
Holds _ _ _ = ⊥

abbrev pub AllHold : (before : Scope) → Scope → List Bound → Type 0
AllHold before [] [] = ⊤
AllHold before [] (_ ∷ _) = ⊥
AllHold before (_ ∷ _) [] = ⊥
AllHold before (entry ∷ scope) (b ∷ bounds) = Holds before entry.meaning b × AllHold (before ++ entry ∷ []) scope bounds

-- each name, in order, and there are no others
abbrev pub HoldsTypes : Scope → State → Type 0
HoldsTypes scope e = AllHold [] scope e.bounds

-- an object of this type at a place
pub record IsObjectAt (scope : Scope) (e : State) (place : ℕ) (typed : Typed) : Type 0 where
  pub held : Held
  pub there : object_at e place ≡ Some held
  pub is : IsTypeIn scope typed.type typed.def
  pub type : IsTrue (is_type typed.def)
  pub shape : shape_of held ≡ shape_of_type typed.def

-- so what a name stands for is what is at its place, and an element's object is there
pub record TypesFound : Type 0 where
  pub names : (scope : Scope) (e : State) (name : List ℕ) (m : Meaning) → HoldsTypes scope e → meaning_in scope name ≡ Some m →
      Holds scope m (bound_at e (place_of scope name))
  pub objects : (scope : Scope) (e : State) (name : List ℕ) (typed : Typed) → HoldsTypes scope e → object_of scope name ≡ Some typed →
      IsObjectAt scope e (place_of scope name) typed
  pub elements : (scope : Scope) (e : State) (place : ℕ) (element : ElemKind) → HoldsTypes scope e → HasElements scope place element →
      (typed : Typed) × IsObjectAt scope e place typed × (element_of typed.def ≡ element)
  pub fit : (scope : Scope) (e : State) → HoldsTypes scope e → FitsScope scope e

-- where a script begins, and behind declarations that keep the rules, as those of a script that can run do, unless no number is left
pub record DeclaredHolds : Type 0 where
  pub first : HoldsTypes [] first_state
  pub decls : (scope : Scope) (decls : List Decl) (e : State) → HoldsTypes scope e → DeclsKept scope decls →
      (after_decls (resolve_decls scope decls) e).spent ≡ None →
      HoldsTypes (with_decls scope decls) (after_decls (resolve_decls scope decls) e).after
  pub script : (script : Script) → IsChecked script → (after_decls (resolve_decls [] script.decls) first_state).spent ≡ None →
      HoldsTypes (with_decls [] script.decls) (after_decls (resolve_decls [] script.decls) first_state).after

-- in the body of a block whose head keeps the rules: with a loop's name, with the element itself, and with the copy of an update of a key
pub record HeadsHold : Type 0 where
  pub loops : (scope : Scope) (e : State) (line : ℕ) (name : List ℕ) (elements backward : Bool) (object : List ℕ) (mark : Mark) →
      HoldsTypes scope e → HeadKept scope (loop_at line name elements backward object) →
      HoldsTypes (behind_words scope (loop_at line name elements backward object))
      (with_name e (turn_bound elements (place_of scope object) mark))
  pub views : (scope : Scope) (e : State) (line : ℕ) (view : ViewKind) (object : List ℕ) (at : Option (List ℕ)) (name : List ℕ) (mark : Mark) →
      HoldsTypes scope e → HeadKept scope (view_at line view object at name) →
      HoldsTypes (behind_words scope (view_at line view object at name)) (with_name e (binds_element (place_of scope object) mark))
  pub copies : (scope : Scope) (e : State) (line : ℕ) (view : ViewKind) (object : List ℕ) (at : Option (List ℕ)) (name : List ℕ) (v : Value) →
      HoldsTypes scope e → HeadKept scope (view_at line view object at name) →
      HoldsTypes (behind_words scope (view_at line view object at name)) (with_name e (binds_value v))

-- commands keep it, whatever they are, and so do statements that keep the rules, as a script that can run does to its end, guards and names that go
pub record GoesOnHolding : Type 0 where
  pub commands : (scope : Scope) (e : State) (simple : ResolvedSimple) → HoldsTypes scope e → HoldsTypes scope (performed e simple).after
  pub statements : (propagates : Bool) (orders : Orders) (code : Code) (scope : Scope) (guards : Guards) (end : End) (e : State) → AreStatements propagates code →
      KeepsRules scope code → HoldsTypes scope e → HoldsTypes scope (exec_behind propagates orders code scope guards end e).after
  pub script : (orders : Orders) (script : Script) → IsChecked script → AreStatements (propagates_in script) script.stmts →
      (after_decls (resolve_decls [] script.decls) first_state).spent ≡ None → HoldsTypes (with_decls [] script.decls) (run_with orders script).after
  pub guarded : (scope : Scope) (guards : Guards) (e : State) → HoldsTypes scope e → HoldsTypes scope (under guards e)
  pub rested : (scope : Scope) (e : State) → HoldsTypes scope e → HoldsTypes scope (at_rest e)
  pub left : (scope more : Scope) (e : State) → HoldsTypes (scope ++ more) e → HoldsTypes scope (leaving (length scope) e)

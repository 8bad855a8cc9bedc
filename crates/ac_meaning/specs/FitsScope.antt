-- What the names in scope hold is what the checks say that they stand for.
use Rattle.std.specs.Prelude.{◌≡◌, ⊤, ℕ, Bool, List, [], ◌∷◌, ◌++◌, length, Option, Some, None}
use Rattle.ac_base.specs.declared.value.Value.{Value}
use Rattle.ac_model.specs.Letters.{Mark}
use Rattle.ac_syntax.specs.Code.{loop_at, view_at, Code}
use Rattle.ac_syntax.specs.declared.decl.Decl.{Decl}
use Rattle.ac_syntax.specs.declared.view_kind.ViewKind.{ViewKind}
use Rattle.ac_rules.specs.Scopes.{Meaning, a_type, an_object, a_cursor, a_value, Scope, Typed, meaning_in, object_of, with_decls, behind_words}
use Rattle.ac_rules.specs.Kept.{DeclsKept, HeadKept}
use Rattle.ac_rules.specs.Resolved.{ResolvedCode, ResolvedSimple, place_of, resolve_decls}
use Rattle.ac_calls.specs.Holdings.{Held, Guards}
use Rattle.ac_meaning.specs.Environment.{Bound, binds_type, binds_object, binds_cursor, binds_value, binds_element, State, first_state, under, at_rest, bound_at, object_at, with_name, leaving, after_decls}
use Rattle.ac_meaning.specs.Commands.{performed}
use Rattle.ac_meaning.specs.Execution.{End, Orders, exec_behind, resolved_behind, turn_bound}

abbrev pub Fits : Meaning → Bound → Type 0
Fits (a_type _) binds_type = ⊤
Fits (an_object _ _) (binds_object _) = ⊤
Fits (a_cursor _ _) (binds_cursor _) = ⊤
Fits (a_value _ _) (binds_value _) = ⊤
Fits (a_value _ _) (binds_element _ _) = ⊤
Fits _ _ = ⊥

abbrev pub AllFit : Scope → List Bound → Type 0
AllFit [] [] = ⊤
AllFit [] (_ ∷ _) = ⊥
AllFit (_ ∷ _) [] = ⊥
AllFit (entry ∷ scope) (b ∷ bounds) = Fits entry.meaning b × AllFit scope bounds

-- each name, in order, and there are no others
abbrev pub FitsScope : Scope → State → Type 0
FitsScope scope e = AllFit scope e.bounds

-- so what a name stands for is what is at its place
pub record NamesFound : Type 0 where
  pub names : (scope : Scope) (e : State) (name : List ℕ) (m : Meaning) → FitsScope scope e → meaning_in scope name ≡ Some m →
      Fits m (bound_at e (place_of scope name))
  pub objects : (scope : Scope) (e : State) (name : List ℕ) (typed : Typed) → FitsScope scope e → object_of scope name ≡ Some typed →
      (h : Held) × (object_at e (place_of scope name) ≡ Some h)

-- where a script begins, and behind declarations that keep the rules, unless no number is left
pub record DeclaredFits : Type 0 where
  pub first : FitsScope [] first_state
  pub decls : (scope : Scope) (decls : List Decl) (e : State) → FitsScope scope e → DeclsKept scope decls →
      (after_decls (resolve_decls scope decls) e).spent ≡ None →
      FitsScope (with_decls scope decls) (after_decls (resolve_decls scope decls) e).after

-- in the body of a block whose head keeps the rules: with a loop's name, with the element itself, and with the copy of an update of a key
pub record HeadsFit : Type 0 where
  pub loops : (scope : Scope) (e : State) (line : ℕ) (name : List ℕ) (elements backward : Bool) (object : List ℕ)
      (place : ℕ) (mark : Mark) → FitsScope scope e → HeadKept scope (loop_at line name elements backward object) →
      FitsScope (behind_words scope (loop_at line name elements backward object)) (with_name e (turn_bound elements place mark))
  pub views : (scope : Scope) (e : State) (line : ℕ) (view : ViewKind) (object : List ℕ) (at : Option (List ℕ)) (name : List ℕ)
      (place : ℕ) (mark : Mark) → FitsScope scope e → HeadKept scope (view_at line view object at name) →
      FitsScope (behind_words scope (view_at line view object at name)) (with_name e (binds_element place mark))
  pub copies : (scope : Scope) (e : State) (line : ℕ) (view : ViewKind) (object : List ℕ) (at : Option (List ℕ)) (name : List ℕ)
      (v : Value) → FitsScope scope e → HeadKept scope (view_at line view object at name) →
      FitsScope (behind_words scope (view_at line view object at name)) (with_name e (binds_value v))

-- commands and statements keep it, whatever they are, and so do guards and names that go
pub record GoesOnFitting : Type 0 where
  pub commands : (scope : Scope) (e : State) (simple : ResolvedSimple) → FitsScope scope e → FitsScope scope (performed e simple).after
  pub resolved : (propagates : Bool) (orders : Orders) (code : ResolvedCode) (scope : Scope) (guards : Guards) (end : End) (e : State) → FitsScope scope e →
      FitsScope scope (resolved_behind propagates orders code guards end e).after
  pub statements : (propagates : Bool) (orders : Orders) (code : Code) (scope : Scope) (guards : Guards) (end : End) (e : State) → FitsScope scope e →
      FitsScope scope (exec_behind propagates orders code scope guards end e).after
  pub guarded : (scope : Scope) (guards : Guards) (e : State) → FitsScope scope e → FitsScope scope (under guards e)
  pub rested : (scope : Scope) (e : State) → FitsScope scope e → FitsScope scope (at_rest e)
  pub left : (scope more : Scope) (e : State) → FitsScope (scope ++ more) e → FitsScope scope (leaving (length scope) e)
  pub as_long : (scope : Scope) (e : State) → FitsScope scope e → length e.bounds ≡ length scope

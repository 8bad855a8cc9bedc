-- What the names hold is of their types behind declarations, and in the bodies of blocks.
use Rattle.std.proofs.Common.{◌≡◌, ◌++◌, ℕ, Bool, true, false, List, [], ◌∷◌, nat_lt, refl, sym, subst, ◌∙◌, option_map, Option, Some, None, if◌then◌else◌}
use Rattle.std.specs.Prelude.{unwrap_or}
use Rattle.ac_base.specs.Limits.{numbers_end}
use Rattle.ac_base.specs.declared.value.Value.{Value}
use Rattle.ac_model.specs.Letters.{Mark, no_mark}
use Rattle.ac_syntax.specs.Kinds.{has_cursors}
use Rattle.ac_syntax.specs.declared.decl.Decl.{Decl}
use Rattle.ac_syntax.specs.declared.decl.Decl.TheVariants as source_decl
use Rattle.ac_syntax.specs.declared.type_def.TypeDef.{TypeDef}
use Rattle.ac_syntax.specs.declared.view_kind.ViewKind.{ViewKind}
use Rattle.ac_rules.specs.Kept.{DeclKept, DeclsKept}
use Rattle.ac_rules.specs.Resolved.{place_of, no_type, resolve_decl, resolve_decls}
use Rattle.ac_rules.specs.Rules.{is_object_of, has_cursors_of, is_looped, is_view}
use Rattle.ac_rules.specs.Scopes.{a_type, an_object, a_cursor, a_value, entry, Scope, Typed, type_of, object_of, meaning_in, element_of, loop_meaning, view_meaning, decl_entry, with_entry, with_decls}
use Rattle.ac_rules.proofs.Apart.{neither, and_parts}
use Rattle.ac_rules.proofs.Kept.{rules_kept}
use Rattle.ac_rules.proofs.NamePlaces.{place_found}
use Rattle.ac_calls.specs.Holdings.{new_held}
use Rattle.ac_meaning.specs.Environment.{binds_type, binds_object, binds_cursor, binds_element, binds_value, State, first_state, Declared, unless_spent, after_decl, after_decls}
use Rattle.ac_meaning.specs.Execution.{turn_bound}
use Rattle.ac_meaning.specs.HoldsTypes.{HasCursors, HasElements, Holds, AllHold, HoldsTypes, DeclaredHolds, HeadsHold}
use Rattle.ac_meaning.proofs.CallsStay.{none_some}
use Rattle.ac_meaning.proofs.HoldsLists.{with_last, type_checked, types_found}
use Rattle.ac_meaning.proofs.TaskNames.{object_meant}
use Rattle.ac_meaning.proofs.TypeShapes.{new_shape, type_meant}

-- Declarations

object_decl : (scope : Scope) (e : State) (name of : List ℕ) (def : Option TypeDef) (capacity : Option ℕ) → type_of scope of ≡ def →
    is_object_of def capacity ≡ true → HoldsTypes scope e →
    AllHold [] (with_entry scope (option_map (entry name) (option_map (an_object of) def)))
    (e.bounds ++ binds_object (new_held (unwrap_or def no_type) e.next capacity) ∷ [])
object_decl scope e name of None capacity is t h = neither t
object_decl scope e name of (Some def) capacity is t h =
    let type = type_meant (meaning_in scope of) def is in
    with_last [] scope e.bounds (entry name (an_object of def)) (binds_object (new_held def e.next capacity)) h
    (type, new_shape def e.next capacity (type_checked scope e of def h type))

either_decl : (scope : Scope) (b : Bool) (x y : Declared) (line : ℕ) → y.spent ≡ Some line → (if b then x else y).spent ≡ None →
    HoldsTypes scope x.after → HoldsTypes scope (if b then x else y).after
either_decl scope true x y line f none h = h
either_decl scope false x y line f none h = none_some line (sym none ∙ f)

cursor_decl : (scope : Scope) (of : List ℕ) (def : Option TypeDef) → type_of scope of ≡ def → has_cursors_of def ≡ true → HasCursors scope of
cursor_decl scope of None is t = neither t
cursor_decl scope of (Some def) is t = record { def = def; is = type_meant (meaning_in scope of) def is; has = t }

decl_holds : (scope : Scope) (d : Decl) (e : State) → HoldsTypes scope e → DeclKept scope d → (after_decl e (resolve_decl scope d)).spent ≡ None →
    HoldsTypes (with_entry scope (decl_entry scope d)) (after_decl e (resolve_decl scope d)).after
decl_holds scope (source_decl.TypeDecl line name def) e h k none = with_last [] scope e.bounds (entry name (a_type def)) binds_type h k.typed
decl_holds scope (source_decl.Object line name of capacity) e h k none =
    either_decl (with_entry scope (decl_entry scope (source_decl.Object line name of capacity))) (nat_lt e.next numbers_end) _ _ line refl none
    (object_decl scope e name of (type_of scope of) capacity refl k.typed h)
decl_holds scope (source_decl.CursorVar line name of) e h k none =
    with_last [] scope e.bounds (entry name (a_cursor of true)) (binds_cursor no_mark) h (cursor_decl scope of (type_of scope of) refl k.typed)
decl_holds scope (source_decl.IntVar line name) e h k none = with_last [] scope e.bounds (entry name (a_value _ true)) (binds_value _) h tt
decl_holds scope (source_decl.TextVar line name) e h k none = with_last [] scope e.bounds (entry name (a_value _ true)) (binds_value _) h tt

decls_step : (scope : Scope) (others : State → Declared) (first : Declared) (spent : Option ℕ) → first.spent ≡ spent →
    (unless_spent others first).spent ≡ None → (first.spent ≡ None → (others first.after).spent ≡ None → HoldsTypes scope (others first.after).after) →
    HoldsTypes scope (unless_spent others first).after
decls_step scope others first None f none rest =
    rw f (rest f (subst (λ s. (elim s as (λ s. Declared) [ None ↦ others first.after | Some line ↦ first ]).spent ≡ None) f none))
decls_step scope others first (Some line) f none rest =
    none_some line (sym (subst (λ s. (elim s as (λ s. Declared) [ None ↦ others first.after | Some line ↦ first ]).spent ≡ None) f none) ∙ f)

decls_hold : (scope : Scope) (decls : List Decl) (e : State) → HoldsTypes scope e → DeclsKept scope decls →
    (after_decls (resolve_decls scope decls) e).spent ≡ None → HoldsTypes (with_decls scope decls) (after_decls (resolve_decls scope decls) e).after
decls_hold scope [] e h k none = h
decls_hold scope (d ∷ decls) e h k none =
    let first = after_decl e (resolve_decl scope d) in
    let inner = with_entry scope (decl_entry scope d) in
    decls_step (with_decls inner decls) (after_decls (resolve_decls inner decls)) first first.spent refl none
    (λ f rest. decls_hold inner decls first.after (decl_holds scope d e h k.first f) k.rest rest)

pub declared_holds : DeclaredHolds
declared_holds = record {
  first = tt;
  decls = decls_hold;
  script = λ script checked none. decls_hold [] script.decls first_state tt (rules_kept script checked).decls none;
}

-- Heads

elements_at : (scope : Scope) (object : List ℕ) (typed : Typed) → object_of scope object ≡ Some typed →
    HasElements scope (place_of scope object) (element_of typed.def)
elements_at scope object typed is = record {
  name = object;
  type = typed.type;
  def = typed.def;
  there = place_found scope object (an_object typed.type typed.def) (object_meant (meaning_in scope object) typed is);
  elements = refl;
}

turn_holds : (scope : Scope) (e : State) (object : List ℕ) (typed : Typed) (elements : Bool) (mark : Mark) → HoldsTypes scope e →
    object_of scope object ≡ Some typed → has_cursors typed.def.kind ≡ true →
    Holds scope (loop_meaning elements typed) (turn_bound elements (place_of scope object) mark)
turn_holds scope e object typed false mark h is has = record { def = typed.def; is = (types_found.objects scope e object typed h is).is; has = has }
turn_holds scope e object typed true mark h is has = elements_at scope object typed is

loop_holds : (scope : Scope) (e : State) (name : List ℕ) (elements backward : Bool) (object : List ℕ) (mark : Mark) (typed : Option Typed) →
    object_of scope object ≡ typed → HoldsTypes scope e → is_looped backward typed ≡ true →
    AllHold [] (with_entry scope (option_map (entry name) (option_map (loop_meaning elements) typed)))
    (e.bounds ++ turn_bound elements (place_of scope object) mark ∷ [])
loop_holds scope e name elements backward object mark None is h t = neither t
loop_holds scope e name elements backward object mark (Some typed) is h t =
    with_last [] scope e.bounds (entry name (loop_meaning elements typed)) (turn_bound elements (place_of scope object) mark) h
    (turn_holds scope e object typed elements mark h is (and_parts (has_cursors typed.def.kind) _ t).0)

view_holds : (scope : Scope) (e : State) (view : ViewKind) (object : List ℕ) (at : Option (List ℕ)) (name : List ℕ) (mark : Mark) (typed : Option Typed) →
    object_of scope object ≡ typed → HoldsTypes scope e → is_view scope view typed at ≡ true →
    AllHold [] (with_entry scope (option_map (entry name) (option_map (view_meaning view) typed)))
    (e.bounds ++ binds_element (place_of scope object) mark ∷ [])
view_holds scope e view object at name mark None is h t = neither t
view_holds scope e view object at name mark (Some typed) is h t =
    with_last [] scope e.bounds (entry name (view_meaning view typed)) (binds_element (place_of scope object) mark) h (elements_at scope object typed is)

copy_holds : (scope : Scope) (e : State) (view : ViewKind) (object : List ℕ) (at : Option (List ℕ)) (name : List ℕ) (v : Value) (typed : Option Typed) →
    HoldsTypes scope e → is_view scope view typed at ≡ true →
    AllHold [] (with_entry scope (option_map (entry name) (option_map (view_meaning view) typed))) (e.bounds ++ binds_value v ∷ [])
copy_holds scope e view object at name v None h t = neither t
copy_holds scope e view object at name v (Some typed) h t = with_last [] scope e.bounds (entry name (view_meaning view typed)) (binds_value v) h tt

pub heads_hold : HeadsHold
heads_hold = record {
  loops = λ scope e line name elements backward object mark h k.
      loop_holds scope e name elements backward object mark (object_of scope object) refl h k.typed;
  views = λ scope e line view object at name mark h k.
      view_holds scope e view object at name mark (object_of scope object) refl h k.typed;
  copies = λ scope e line view object at name v h k. copy_holds scope e view object at name v (object_of scope object) h k.typed;
}

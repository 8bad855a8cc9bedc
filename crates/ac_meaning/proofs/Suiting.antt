-- Calls and blocks that keep the rules are on objects of their types, with what they ask.
use Rattle.std.proofs.Common.{◌≡◌, ℕ, Bool, true, false, not, List, [], ◌∷◌, slice_get, refl, sym, ap, subst, ◌∙◌, option_map, Option, Some, None, true≢false}
use Rattle.std.specs.Str.{bytes_eq}
use Rattle.std.proofs.lemmas.Option.{slice_get-map}
use Rattle.std.proofs.lemmas.Slice.Eq.{bytes_eq-Decides}
use Rattle.ac_model.specs.Letters.{no_mark}
use Rattle.ac_syntax.specs.Kinds.{is_holder, is_queue, is_set, has_cursors}
use Rattle.ac_syntax.specs.declared.arg.Arg.{Arg}
use Rattle.ac_syntax.specs.declared.arg.Arg.TheVariants.{Lit, NoElement, Var}
use Rattle.ac_syntax.specs.declared.kind.ElemKind.{ElemKind}
use Rattle.ac_syntax.specs.declared.kind.Kind.{Kind}
use Rattle.ac_syntax.specs.declared.kind.Kind.TheVariants as kind
use Rattle.ac_syntax.specs.declared.type_def.TypeDef.{TypeDef}
use Rattle.ac_syntax.specs.declared.view_kind.ViewKind.{ViewKind}
use Rattle.ac_syntax.specs.declared.view_kind.ViewKind.TheVariants.{Query, Update, Reference, UpdateKey}
use Rattle.ac_rules.specs.declared.rows.Letter.{Letter}
use Rattle.ac_rules.specs.declared.rows.Letter.TheVariants as letter
use Rattle.ac_rules.specs.Operations.{operation_of}
use Rattle.ac_rules.specs.Resolved.{place_of, resolve_arg}
use Rattle.ac_rules.specs.Rules.{given, given_in, is_cursor, is_variable_of, is_variable, is_typed, is_object, fits, fits_optional, all_fit, is_looped, is_viewed, is_view}
use Rattle.ac_rules.specs.Scopes.{Meaning, a_type, an_object, a_cursor, a_value, a_task, Scope, Typed, object_of, meaning_in, element_of}
use Rattle.ac_rules.specs.Table.{Row}
use Rattle.ac_rules.proofs.Apart.{neither, and_parts}
use Rattle.ac_rules.proofs.Found.{finds_row, call_kept}
use Rattle.ac_calls.specs.Holdings.{Held, of_rows, of_holder, of_queue, takes_guards, Guards, held_under}
use Rattle.ac_meaning.specs.Commands.{argument_in, argument}
use Rattle.ac_meaning.specs.Environment.{Bound, binds_type, binds_object, binds_cursor, binds_value, binds_element, bound_by, bound_in, object_in, State, under, bound_at, object_at}
use Rattle.ac_meaning.specs.HoldsTypes.{Shape, has_rows, has_place, has_line, shape_of, shape_by, shape_of_type, IsTypeIn, Holds, HoldsTypes}
use Rattle.ac_meaning.specs.Suits.{is_own, GivesCursor, GivesObject, Suits, SuitsOptional, AllSuit, CallsSuit, Guarded, BlocksSuit}
use Rattle.ac_meaning.proofs.GuardedPlaces.{there_guarded}
use Rattle.ac_meaning.proofs.HoldsLists.{types_found}
use Rattle.ac_meaning.proofs.OwnOperations.{row_own}

-- Objects that guards can be held on

abbrev is_queue_shape : Shape → Bool
is_queue_shape (has_rows kind) = false
is_queue_shape (has_place e) = false
is_queue_shape (has_line d) = true

queue_by : (k : Kind) (first element : ElemKind) (keyed : Bool) → is_queue_shape (shape_by k first element keyed) ≡ is_queue k
queue_by kind.Vector first element keyed = refl
queue_by kind.List first element keyed = refl
queue_by kind.HashedMap first element keyed = refl
queue_by kind.OrderedMap first element keyed = refl
queue_by kind.HashedSet first element true = refl
queue_by kind.HashedSet first element false = refl
queue_by kind.OrderedSet first element true = refl
queue_by kind.OrderedSet first element false = refl
queue_by kind.Tree first element keyed = refl
queue_by kind.Holder first element keyed = refl
queue_by kind.Queue first element keyed = refl
queue_by kind.PriorityQueue first element keyed = refl

takes_by : (h : Held) (s : Shape) → shape_of h ≡ s → is_queue_shape s ≡ false → takes_guards h ≡ true
takes_by (of_rows kind o) s e other = refl
takes_by (of_holder element h) s e other = refl
takes_by (of_queue number q) s e other = absurd (true≢false (ap is_queue_shape e ∙ other))

takes_under : (guards : Guards) (h : Held) → takes_guards (held_under guards h) ≡ takes_guards h
takes_under guards (of_rows kind o) = refl
takes_under guards (of_holder element h) = refl
takes_under guards (of_queue number q) = refl

found_by : (f : Held → Held) (o : Option Bound) → object_in (bound_in (option_map (bound_by f) o)) ≡ option_map f (object_in (bound_in o))
found_by f None = refl
found_by f (Some binds_type) = refl
found_by f (Some (binds_object h)) = refl
found_by f (Some (binds_cursor mark)) = refl
found_by f (Some (binds_value v)) = refl
found_by f (Some (binds_element object at)) = refl

object_under : (guards : Guards) (e : State) (place : ℕ) (h : Held) → object_at e place ≡ Some h →
    object_at (under guards e) place ≡ Some (held_under guards h)
object_under guards e place h there =
    ap (λ o. object_in (bound_in o)) (slice_get-map (bound_by (held_under guards)) e.bounds place)
    ∙ (found_by (held_under guards) (slice_get e.bounds place) ∙ ap (option_map (held_under guards)) there)

guarded : (scope : Scope) (guards : Guards) (e : State) (object : List ℕ) (typed : Typed) → HoldsTypes scope e → object_of scope object ≡ Some typed →
    is_queue typed.def.kind ≡ false → Guarded scope guards e object
guarded scope guards e object typed holds is other =
    let found = types_found.objects scope e object typed holds is in
    let def = typed.def in
    let takes = takes_by found.held (shape_of_type def) found.shape (queue_by def.kind def.first (element_of def) def.keyed ∙ other) in
    record {
      held = held_under guards found.held;
      there = there_guarded (under guards e) (place_of scope object) (held_under guards found.held)
          (object_under guards e (place_of scope object) found.held found.there) (takes_under guards found.held ∙ takes);
    }

not_true : (b : Bool) → not b ≡ true → b ≡ false
not_true true h = neither h
not_true false h = refl

no_queue : (k : Kind) → is_set k ≡ true → is_queue k ≡ false
no_queue kind.Vector h = refl
no_queue kind.List h = refl
no_queue kind.HashedMap h = refl
no_queue kind.OrderedMap h = refl
no_queue kind.HashedSet h = refl
no_queue kind.OrderedSet h = refl
no_queue kind.Tree h = refl
no_queue kind.Holder h = refl
no_queue kind.Queue h = neither h
no_queue kind.PriorityQueue h = neither h

viewed_queue : (view : ViewKind) (def : TypeDef) → is_viewed view def ≡ true → is_queue def.kind ≡ false
viewed_queue Query def h = not_true (is_queue def.kind) h
viewed_queue Update def h = not_true (is_queue def.kind) (and_parts (not (is_queue def.kind)) _ h).0
viewed_queue Reference def h = not_true (is_queue def.kind) (and_parts (not (is_queue def.kind)) _ h).0
viewed_queue UpdateKey def h = no_queue def.kind (and_parts (is_set def.kind) _ h).0

looped_guarded : (scope : Scope) (guards : Guards) (e : State) (object : List ℕ) (backward : Bool) (typed : Option Typed) → object_of scope object ≡ typed →
    HoldsTypes scope e → is_looped backward typed ≡ true → Guarded scope guards e object
looped_guarded scope guards e object backward None is holds h = neither h
looped_guarded scope guards e object backward (Some typed) is holds h =
    let has = (and_parts (has_cursors typed.def.kind) _ h).0 in
    guarded scope guards e object typed holds is
    (not_true (is_queue typed.def.kind) (and_parts (not (is_holder typed.def.kind)) (not (is_queue typed.def.kind)) has).1)

viewed_guarded : (scope : Scope) (guards : Guards) (e : State) (object : List ℕ) (view : ViewKind) (at : Option (List ℕ)) (typed : Option Typed) →
    object_of scope object ≡ typed → HoldsTypes scope e → is_view scope view typed at ≡ true → Guarded scope guards e object
viewed_guarded scope guards e object view at None is holds h = neither h
viewed_guarded scope guards e object view at (Some typed) is holds h =
    guarded scope guards e object typed holds is (viewed_queue view typed.def (and_parts (is_viewed view typed.def) _ h).0)

pub blocks_suit : BlocksSuit
blocks_suit = record {
  loops = λ scope guards e line name elements backward object holds kept.
      looped_guarded scope guards e object backward (object_of scope object) refl holds kept.typed;
  views = λ scope guards e line view object at name holds kept.
      viewed_guarded scope guards e object view at (object_of scope object) refl holds kept.typed;
  stables = λ scope guards e line object holds kept. looped_guarded scope guards e object false (object_of scope object) refl holds kept.typed;
}

-- Arguments

def_or : TypeDef → Option Meaning → TypeDef
def_or other None = other
def_or other (Some (a_type def)) = def
def_or other (Some (an_object _ _)) = other
def_or other (Some (a_cursor _ _)) = other
def_or other (Some (a_value _ _)) = other
def_or other (Some a_task) = other

-- two objects with one type's name are of one type
same_type : (scope : Scope) (typed other : Typed) → bytes_eq other.type typed.type ≡ true → IsTypeIn scope typed.type typed.def →
    IsTypeIn scope other.type other.def → other.def ≡ typed.def
unfolding def_or
same_type scope typed other same is also =
    let named : other.type ≡ typed.type = (bytes_eq-Decides other.type typed.type).0 same in
    ap (def_or typed.def) (sym also ∙ (ap (meaning_in scope) named ∙ is))

module _ (scope : Scope) (e : State) (holds : HoldsTypes scope e) where
  cursor_bound : (type : List ℕ) (v : Bool) (b : Bound) → Holds scope (a_cursor type v) b → GivesCursor (argument_in e b)
  cursor_bound type v (binds_cursor mark) h = record { mark = mark; is = refl }
  cursor_bound type v _ h = absurd h

  cursor_there : (name type : List ℕ) (v : Bool) → meaning_in scope name ≡ Some (a_cursor type v) → GivesCursor (argument_in e (bound_at e (place_of scope name)))
  cursor_there name type v is =
      cursor_bound type v (bound_at e (place_of scope name)) (types_found.names scope e name (a_cursor type v) holds is)

  cursor_named : (type name : List ℕ) (o : Option Meaning) → meaning_in scope name ≡ o → is_cursor type (given_in o) ≡ true →
      GivesCursor (argument_in e (bound_at e (place_of scope name)))
  cursor_named type name None is h = neither h
  cursor_named type name (Some (a_type d)) is h = neither h
  cursor_named type name (Some (an_object t d)) is h = neither h
  cursor_named type name (Some (a_cursor t v)) is h = cursor_there name t v is
  cursor_named type name (Some (a_value k w)) is h = neither h
  cursor_named type name (Some a_task) is h = neither h

  variable_named : (type name : List ℕ) (o : Option Meaning) → meaning_in scope name ≡ o → is_variable_of type o ≡ true →
      GivesCursor (argument_in e (bound_at e (place_of scope name)))
  variable_named type name None is h = neither h
  variable_named type name (Some (a_type d)) is h = neither h
  variable_named type name (Some (an_object t d)) is h = neither h
  variable_named type name (Some (a_cursor t v)) is h = cursor_there name t v is
  variable_named type name (Some (a_value k w)) is h = neither h
  variable_named type name (Some a_task) is h = neither h

  cursor_suits : (type : List ℕ) (arg : Arg) → is_cursor type (given scope arg) ≡ true → GivesCursor (argument e (resolve_arg scope arg))
  cursor_suits type (Lit v) h = neither h
  cursor_suits type NoElement h = record { mark = no_mark; is = refl }
  cursor_suits type (Var name) h = cursor_named type name (meaning_in scope name) refl h

  variable_suits : (type : List ℕ) (arg : Arg) → is_variable scope type arg ≡ true → GivesCursor (argument e (resolve_arg scope arg))
  variable_suits type (Lit v) h = neither h
  variable_suits type NoElement h = neither h
  variable_suits type (Var name) h = variable_named type name (meaning_in scope name) refl h

  object_named : (typed : Typed) (name : List ℕ) (o : Option Typed) → IsTypeIn scope typed.type typed.def → object_of scope name ≡ o →
      is_typed typed.type o ≡ true → GivesObject scope e typed (Var name)
  object_named typed name None type is h = neither h
  object_named typed name (Some other) type is h =
      let found = types_found.objects scope e name other holds is in record {
        name = name;
        names = refl;
        held = found.held;
        there = found.there;
        shape = found.shape ∙ ap shape_of_type (same_type scope typed other h type found.is);
      }

  object_suits : (typed : Typed) (arg : Arg) → IsTypeIn scope typed.type typed.def → is_object scope typed.type arg ≡ true → GivesObject scope e typed arg
  object_suits typed (Lit v) type h = neither h
  object_suits typed NoElement type h = neither h
  object_suits typed (Var name) type h = object_named typed name (object_of scope name) type refl h

  one_suits : (typed : Typed) (l : Letter) (arg : Arg) → IsTypeIn scope typed.type typed.def → fits scope typed l arg ≡ true → Suits scope e typed l arg
  one_suits typed letter.Cursor arg type h = cursor_suits typed.type arg h
  one_suits typed letter.CursorVariable arg type h = variable_suits typed.type arg h
  one_suits typed letter.Integer arg type h = tt
  one_suits typed letter.Element arg type h = tt
  one_suits typed letter.Key arg type h = tt
  one_suits typed letter.Object arg type h = object_suits typed arg type h

  optional_suits : (typed : Typed) (optional : Option Letter) (args : List Arg) → IsTypeIn scope typed.type typed.def →
      fits_optional scope typed optional args ≡ true → SuitsOptional scope e typed optional args
  optional_suits typed optional [] type h = tt
  optional_suits typed None (arg ∷ args) type h = neither h
  optional_suits typed (Some last) (arg ∷ []) type h = one_suits typed last arg type h
  optional_suits typed (Some last) (arg ∷ next ∷ args) type h = neither h

  all_suit : (typed : Typed) (letters : List Letter) (optional : Option Letter) (args : List Arg) → IsTypeIn scope typed.type typed.def →
      all_fit scope typed letters optional args ≡ true → AllSuit scope e typed letters optional args
  all_suit typed [] optional args type h = optional_suits typed optional args type h
  all_suit typed (l ∷ letters) optional [] type h = neither h
  all_suit typed (l ∷ letters) optional (arg ∷ args) type h =
      let here = and_parts (fits scope typed l arg) _ h in (one_suits typed l arg type here.0, all_suit typed letters optional args type here.1)

-- Calls

pub calls_suit : CallsSuit
calls_suit scope e line target object word args holds kept =
    let call = call_kept scope (object_of scope object) target word args kept.typed in
    let found = types_found.objects scope e object call.object holds call.is in
    let there = ((finds_row scope call.object target word args call.row).1 call.found).there in
    record {
      typed = call.object;
      held = found.held;
      there = found.there;
      shape = found.shape;
      row = call.row;
      means = ap (λ o. operation_of scope o target word args) call.is ∙ ap (option_map (λ (r : Row). r.operation)) call.found;
      own = subst (λ s. is_own s call.row.operation ≡ true) (sym found.shape) (row_own call.object.def call.row there);
      arguments = all_suit scope e holds call.object call.row.letters call.row.optional args found.is call.fits;
    }

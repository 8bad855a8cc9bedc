-- Values have their types behind declarations, and in the bodies of blocks.
use Rattle.std.proofs.Common.{◌≡◌, ◌==◌, ◌||◌, ◌≤◌, ◌++◌, ℕ, Bool, true, false, List, [], ◌∷◌, reverse, nat_lt, refl, sym, ap, subst, ◌∙◌, arith, option_map, Option, Some, None, if◌then◌else◌}
use Rattle.std.specs.Prelude.{pos, unwrap_or}
use Rattle.std.specs.List.{list_any}
use Rattle.std.proofs.lemmas.List.Sorted.{list_any-IsPermutation, IsPermutation-reverse}
use Rattle.std.proofs.lemmas.Option.{same_Some}
use Rattle.ac_base.specs.Limits.{numbers_end}
use Rattle.ac_base.specs.declared.reason.Reason.TheVariants.{NoElement}
use Rattle.ac_base.specs.declared.value.Value.TheVariants as value
use Rattle.ac_base.specs.FirstReason.{first_reason}
use Rattle.ac_model.specs.Cursors.{seen}
use Rattle.ac_model.specs.Letters.{Mark, no_mark, mark_at as mark_of_name, needs, tampers_cursors}
use Rattle.ac_model.specs.Objects.{Object, times}
use Rattle.ac_model.specs.Rows.{is_named}
use Rattle.ac_model.proofs.Moves.{times-named}
use Rattle.ac_syntax.specs.Code.{loop_at, view_at}
use Rattle.ac_syntax.specs.declared.decl.Decl.{Decl}
use Rattle.ac_syntax.specs.declared.decl.Decl.TheVariants as source_decl
use Rattle.ac_syntax.specs.declared.kind.ElemKind.TheVariants.{Integer, Str}
use Rattle.ac_syntax.specs.declared.type_def.TypeDef.{TypeDef}
use Rattle.ac_syntax.specs.declared.view_kind.ViewKind.{ViewKind}
use Rattle.ac_syntax.specs.declared.view_kind.ViewKind.TheVariants.{UpdateKey}
use Rattle.ac_rules.specs.Kept.{DeclKept, DeclsKept, HeadKept}
use Rattle.ac_rules.specs.Resolved.{place_of, no_type, resolve_decl, resolve_decls}
use Rattle.ac_rules.specs.Rules.{is_object_of, is_looped, is_view}
use Rattle.ac_rules.specs.Scopes.{Meaning, a_type, an_object, a_cursor, a_value, Entry, entry, Scope, Typed, type_of, object_of, element_of, loop_meaning, view_meaning, decl_entry, with_entry, with_decls, behind_words}
use Rattle.ac_rules.proofs.Apart.{neither}
use Rattle.ac_rules.proofs.Kept.{rules_kept}
use Rattle.ac_calls.specs.Holdings.{RowKind, a_sequence, a_map, a_set, a_keyed_set, a_tree, RowOf, have_root, Held, of_rows, of_holder, of_queue, Guards, number_of, names_of, holds_element, new_held, element_value}
use Rattle.ac_meaning.specs.Environment.{Bound, binds_type, binds_object, binds_cursor, binds_value, binds_element, State, first_state, under, bound_at, object_at, value_or_zero, with_name, Declared, number_taken, unless_spent, after_decl, after_decls}
use Rattle.ac_meaning.specs.Execution.{in_order, turn_bound, guards_of_loop, guards_of_view, head_reason}
use Rattle.ac_meaning.specs.GuardedNames.{is_element_guarded, frame}
use Rattle.ac_meaning.specs.HoldsTypes.{shape_of, HoldsTypes}
use Rattle.ac_meaning.specs.ValueTypes.{IsOf, HoldsValue, AllValues, VariablesHold, ElementStands, ElementsStand, IsSound, IsSoundIn, ObjectsSound, HoldsValues, ValuesDeclared, ValuesInBlocks}
use Rattle.ac_meaning.proofs.AnswersTold.{elements_in, type_elements}
use Rattle.ac_meaning.proofs.CallsStay.{none_some, second_none}
use Rattle.ac_meaning.proofs.Designating.{element_refused, designated, named_by_names}
use Rattle.ac_meaning.proofs.ExecHolds.{goes_on_holding}
use Rattle.ac_meaning.proofs.Frames.{kept-under}
use Rattle.ac_meaning.proofs.GuardedGoesOn.{blocks_guard, views_guard_elements}
use Rattle.ac_meaning.proofs.HoldsHeads.{declared_holds, heads_hold}
use Rattle.ac_meaning.proofs.HoldsLists.{types_found}
use Rattle.ac_meaning.proofs.SoundTrees.{new_sound}
use Rattle.ac_meaning.proofs.StandingElements.{stands_by, elements_on, elements_under, elements_with, element_found}
use Rattle.ac_meaning.proofs.UpdatesAlone.{found_frame}
use Rattle.ac_meaning.proofs.ValueLists.{variables_on, kinds-under, with_value, sound_at, sound_more, sound-under}

-- Declarations

record Parts (scope : Scope) (guards : Guards) (e : State) : Type 0 where
  variables : VariablesHold scope e
  elements : ElementsStand guards e
  sound : ObjectsSound e

-- with a name more that stands for no element
parts_with : (scope : Scope) (guards : Guards) (e : State) (added : Entry) (b : Bound) → Parts scope guards e → HoldsValue added.meaning b → IsSoundIn b →
    ((object : ℕ) (at : Mark) → b ≡ binds_element object at → ⊥) → Parts (scope ++ added ∷ []) guards (with_name e b)
parts_with scope guards e added b p value sound other = record {
  variables = with_value scope e.bounds added b p.variables value;
  elements = elements_with guards e b p.elements (λ object at is. absurd (other object at is));
  sound = sound_more e.bounds b p.sound sound;
}

taken_parts : (scope : Scope) (guards : Guards) (e : State) → Parts scope guards e → Parts scope guards (number_taken e)
taken_parts scope guards e p = record {
  variables = p.variables;
  elements = elements_on guards e (number_taken e) refl p.elements;
  sound = p.sound;
}

object_parts : (scope : Scope) (guards : Guards) (e : State) (name of : List ℕ) (held : Held) (def : Option TypeDef) (capacity : Option ℕ) →
    is_object_of def capacity ≡ true → IsSound held → Parts scope guards e →
    Parts (with_entry scope (option_map (entry name) (option_map (an_object of) def))) guards (with_name e (binds_object held))
object_parts scope guards e name of held None capacity t sound p = neither t
object_parts scope guards e name of held (Some def) capacity t sound p =
    parts_with scope guards e (entry name (an_object of def)) (binds_object held) p tt sound (λ object at is. absurd (cc))

either_parts : (scope : Scope) (guards : Guards) (b : Bool) (x y : Declared) (line : ℕ) → y.spent ≡ Some line → (if b then x else y).spent ≡ None →
    Parts scope guards x.after → Parts scope guards (if b then x else y).after
either_parts scope guards true x y line f none p = p
either_parts scope guards false x y line f none p = none_some line (sym none ∙ f)

decl_parts : (scope : Scope) (guards : Guards) (d : Decl) (e : State) → Parts scope guards e → DeclKept scope d →
    (after_decl e (resolve_decl scope d)).spent ≡ None → Parts (with_entry scope (decl_entry scope d)) guards (after_decl e (resolve_decl scope d)).after
decl_parts scope guards (source_decl.TypeDecl line name def) e p k none =
    parts_with scope guards e (entry name (a_type def)) binds_type p tt tt (λ object at is. absurd (cc))
decl_parts scope guards (source_decl.Object line name of capacity) e p k none =
    let held = new_held (unwrap_or (type_of scope of) no_type) e.next capacity in
    either_parts (with_entry scope (decl_entry scope (source_decl.Object line name of capacity))) guards (nat_lt e.next numbers_end) _ _ line refl none
    (taken_parts (with_entry scope (decl_entry scope (source_decl.Object line name of capacity))) guards (with_name e (binds_object held))
    (object_parts scope guards e name of held (type_of scope of) capacity k.typed (new_sound (unwrap_or (type_of scope of) no_type) e.next capacity) p))
decl_parts scope guards (source_decl.CursorVar line name of) e p k none =
    parts_with scope guards e (entry name (a_cursor of true)) (binds_cursor no_mark) p tt tt (λ object at is. absurd (cc))
decl_parts scope guards (source_decl.IntVar line name) e p k none =
    parts_with scope guards e (entry name (a_value Integer true)) (binds_value (value.Int (pos 0))) p refl tt (λ object at is. absurd (cc))
decl_parts scope guards (source_decl.TextVar line name) e p k none =
    parts_with scope guards e (entry name (a_value Str true)) (binds_value (value.Text [])) p refl tt (λ object at is. absurd (cc))

decls_step : (scope : Scope) (guards : Guards) (others : State → Declared) (first : Declared) (spent : Option ℕ) → first.spent ≡ spent →
    (unless_spent others first).spent ≡ None → (first.spent ≡ None → (others first.after).spent ≡ None → Parts scope guards (others first.after).after) →
    Parts scope guards (unless_spent others first).after
decls_step scope guards others first None f none rest =
    rw f (rest f (subst (λ s. (elim s as (λ s. Declared) [ None ↦ others first.after | Some line ↦ first ]).spent ≡ None) f none))
decls_step scope guards others first (Some line) f none rest =
    none_some line (sym (subst (λ s. (elim s as (λ s. Declared) [ None ↦ others first.after | Some line ↦ first ]).spent ≡ None) f none) ∙ f)

decls_parts : (scope : Scope) (guards : Guards) (decls : List Decl) (e : State) → Parts scope guards e → DeclsKept scope decls →
    (after_decls (resolve_decls scope decls) e).spent ≡ None → Parts (with_decls scope decls) guards (after_decls (resolve_decls scope decls) e).after
decls_parts scope guards [] e p k none = p
decls_parts scope guards (d ∷ decls) e p k none =
    let first = after_decl e (resolve_decl scope d) in
    let inner = with_entry scope (decl_entry scope d) in
    decls_step (with_decls inner decls) guards (after_decls (resolve_decls inner decls)) first first.spent refl none
    (λ f rest. decls_parts inner guards decls first.after (decl_parts scope guards d e p k.first f) k.rest rest)

pub decls_values : (scope : Scope) (decls : List Decl) (guards : Guards) (e : State) → HoldsValues scope guards e → DeclsKept scope decls →
    (after_decls (resolve_decls scope decls) e).spent ≡ None →
    HoldsValues (with_decls scope decls) guards (after_decls (resolve_decls scope decls) e).after
decls_values scope decls guards e h k none =
    let p = decls_parts scope guards decls e (record { variables = h.variables; elements = h.elements; sound = h.sound }) k none in record {
      types = declared_holds.decls scope decls e h.types k none;
      variables = p.variables;
      elements = p.elements;
      sound = p.sound;
    }

first_values : HoldsValues [] [] first_state
first_values = record { types = declared_holds.first; variables = tt; elements = λ place object at is. absurd (cc); sound = tt }

pub values_declared : ValuesDeclared
values_declared = record {
  first = first_values;
  decls = decls_values;
  script = λ script checked none. decls_values [] script.decls [] first_state first_values (rules_kept script checked).decls none;
}

-- As a command finds them

pub values_under : (scope : Scope) (guards : Guards) (e : State) → HoldsValues scope guards e → HoldsValues scope guards (under guards e)
values_under scope guards e h = record {
  types = goes_on_holding.guarded scope guards e h.types;
  variables = variables_on scope e (under guards e) (kinds-under guards e) h.variables;
  elements = elements_on guards e (under guards e) (kept-under guards guards e) h.elements;
  sound = sound-under guards e h.sound;
}

-- Heads

-- a name that is in scope where what it stands for is known
entry_value : (scope : Scope) (bs : List Bound) (name : List ℕ) (b : Bound) (typed : Option Typed) (meaning : Typed → Meaning) (known : (t : Typed) × (typed ≡ Some t)) →
    AllValues scope bs → HoldsValue (meaning known.0) b →
    AllValues (with_entry scope (option_map (entry name) (option_map meaning typed))) (bs ++ b ∷ [])
entry_value scope bs name b None meaning known h value = none_some known.0 known.1
entry_value scope bs name b (Some t) meaning known h value =
    with_value scope bs (entry name (meaning t)) b h (subst (λ x. HoldsValue (meaning x) b) (sym (same_Some t known.0 known.1)) value)

looped : (backward : Bool) (typed : Option Typed) → is_looped backward typed ≡ true → (t : Typed) × (typed ≡ Some t)
looped backward None h = neither h
looped backward (Some t) h = (t, refl)

viewed : (scope : Scope) (view : ViewKind) (typed : Option Typed) (at : Option (List ℕ)) → is_view scope view typed at ≡ true → (t : Typed) × (typed ≡ Some t)
viewed scope view None at h = neither h
viewed scope view (Some t) at h = (t, refl)

turn_value : (elements : Bool) (typed : Typed) (place : ℕ) (mark : Mark) → HoldsValue (loop_meaning elements typed) (turn_bound elements place mark)
turn_value false typed place mark = tt
turn_value true typed place mark = tt

turn_sound : (elements : Bool) (place : ℕ) (mark : Mark) → IsSoundIn (turn_bound elements place mark)
turn_sound false place mark = tt
turn_sound true place mark = tt

-- a loop's name is at an element
abbrev pub IsNamedIn : List ℕ → ℕ → Type 0
IsNamedIn all name = list_any (λ (m : ℕ). m == name) all ≡ true

no_root : (k : RowKind) (o : Object ℕ (RowOf k)) (name : ℕ) → IsSound (of_rows k o) → is_named o.rows name ≡ true → have_root k ≡ true → name ≡ 0 → ⊥
no_root (a_sequence which e) o name sound named rooted zero = neither rooted
no_root (a_map which k e) o name sound named rooted zero = neither rooted
no_root (a_set which e) o name sound named rooted zero = neither rooted
no_root (a_keyed_set which) o name sound named rooted zero = neither rooted
no_root (a_tree e) o name sound named rooted zero =
    let some : 1 ≤ times 0 o.rows = times-named 0 o.rows (subst (λ n. is_named o.rows n ≡ true) zero named) in
    absurd (omega (arith, some, sound.as_object.names_from_one))

pub name_stands : (h : Held) (name : ℕ) → IsSound h → IsNamedIn (names_of h) name →
    ((element_value h (mark_of_name (number_of h) name)).reason ≡ None) × (holds_element h ≡ false)
name_stands (of_rows k o) name sound there =
    let at = mark_of_name o.number name in
    let named : is_named o.rows name ≡ true = named_by_names o.rows name ∙ there in (
      element_refused k o at
          ∙ designated (have_root k) o at (record { name = name; named = named; no_root = no_root k o name sound named; is = refl }),
      refl,
    )
name_stands (of_holder e h) name sound there = neither there
name_stands (of_queue number q) name sound there = neither there

-- the object at the place is the one of the head, by what its guards keep
abbrev pub IsLooped : (elements : Bool) → Held → Guards → Bound → Type 0
IsLooped elements h guards b = frame (guards_of_loop elements h ++ guards) b ≡ frame (guards_of_loop elements h ++ guards) (binds_object h)

pub turn_values : (scope : Scope) (guards : Guards) (e : State) (line : ℕ) (name : List ℕ) (elements backward : Bool) (object : List ℕ) (h : Held) (at : ℕ) →
    HoldsValues scope guards e → HeadKept scope (loop_at line name elements backward object) → IsSound h → IsNamedIn (names_of h) at →
    IsLooped elements h guards (bound_at e (place_of scope object)) →
    HoldsValues (behind_words scope (loop_at line name elements backward object)) (guards_of_loop elements h ++ guards)
    (with_name e (turn_bound elements (place_of scope object) (mark_of_name (number_of h) at)))
turn_values scope guards e line name elements backward object h at holds kept sound there same =
    let place = place_of scope object in
    let mark = mark_of_name (number_of h) at in
    let held = guards_of_loop elements h ++ guards in
    let b = turn_bound elements place mark in
    let stands = name_stands h at sound there in
    let own : ElementStands held e place mark =
    stands_by held e place mark h stands.0 (blocks_guard.loops elements h guards) (λ has. neither (sym stands.1 ∙ has)) same in
    record {
      types = heads_hold.loops scope e line name elements backward object mark holds.types kept;
      variables = entry_value scope e.bounds name b (object_of scope object) (loop_meaning elements)
          (looped backward (object_of scope object) kept.typed) holds.variables (turn_value elements _ place mark);
      elements = elements_with held e b (elements_under (guards_of_loop elements h) guards e holds.elements) (only elements place mark held e own);
      sound = sound_more e.bounds b holds.sound (turn_sound elements place mark);
    }
  where
    only : (elements : Bool) (place : ℕ) (mark : Mark) (held : Guards) (e : State) → ElementStands held e place mark → (p : ℕ) (m : Mark) →
        turn_bound elements place mark ≡ binds_element p m → ElementStands held e p m
    only false place mark held e own p m is = absurd (cc)
    only true place mark held e own p m is =
        let same_place : place ≡ p = cc in
        let same_mark : mark ≡ m = cc in
        subst (λ x. ElementStands held e x m) same_place (subst (λ x. ElementStands held e place x) same_mark own)

-- a view of the element itself
pub view_values : (scope : Scope) (guards : Guards) (e : State) (line : ℕ) (view : ViewKind) (object : List ℕ) (at : Option (List ℕ)) (name : List ℕ)
    (h : Held) (mark : Mark) → HoldsValues scope guards e → HeadKept scope (view_at line view object at name) →
    object_at (under guards e) (place_of scope object) ≡ Some h → head_reason view h mark ≡ None → (element_value h mark).reason ≡ None →
    HoldsValues (behind_words scope (view_at line view object at name)) (guards_of_view view h ++ guards)
    (with_name e (binds_element (place_of scope object) mark))
view_values scope guards e line view object at name h mark holds kept there none stands =
    let place = place_of scope object in
    let held = guards_of_view view h ++ guards in
    let b = binds_element place mark in
    let own : ElementStands held e place mark =
    stands_by held e place mark h stands (blocks_guard.views view h guards) (keeps h none) (found_frame held guards e place h there) in
    record {
      types = heads_hold.views scope e line view object at name mark holds.types kept;
      variables = entry_value scope e.bounds name b (object_of scope object) (view_meaning view)
          (viewed scope view (object_of scope object) at kept.typed) holds.variables tt;
      elements = elements_with held e b (elements_under (guards_of_view view h) guards e holds.elements)
          (λ p m is.
          let same_place : place ≡ p = cc in
          let same_mark : mark ≡ m = cc in
          subst (λ x. ElementStands held e x m) same_place (subst (λ x. ElementStands held e place x) same_mark own));
      sound = sound_more e.bounds b holds.sound tt;
    }
  where
    keeps : (h : Held) → head_reason view h mark ≡ None → holds_element h ≡ true →
        is_element_guarded (guards_of_view view h ++ guards) (number_of h) ≡ true
    keeps (of_rows k o) none has = neither has
    keeps (of_holder e h) none has = (views_guard_elements view e h mark guards none).guarded
    keeps (of_queue number q) none has = neither has

-- the copy of an update of a key
key_shown : {V : Type 0} (o : Object ℕ V) (at : Mark) → first_reason (tampers_cursors o ∷ needs o (seen o at) ∷ []) ≡ None →
    first_reason (needs o (seen o at) ∷ []) ≡ None
key_shown o at none = ap (λ r. first_reason (r ∷ [])) (second_none (tampers_cursors o) (needs o (seen o at)) [] none)

pub key_stands : (h : Held) (mark : Mark) → head_reason UpdateKey h mark ≡ None → (element_value h mark).reason ≡ None
key_stands (of_rows (a_keyed_set which) o) mark none = key_shown o mark none
key_stands (of_rows (a_sequence which e) o) mark none = none_some NoElement (sym none)
key_stands (of_rows (a_map which k e) o) mark none = none_some NoElement (sym none)
key_stands (of_rows (a_set which e) o) mark none = none_some NoElement (sym none)
key_stands (of_rows (a_tree e) o) mark none = none_some NoElement (sym none)
key_stands (of_holder e h) mark none = none_some NoElement (sym none)
key_stands (of_queue number q) mark none = none_some NoElement (sym none)

copy_is : (scope : Scope) (guards : Guards) (e : State) (object : List ℕ) (typed : Typed) (h : Held) (mark : Mark) → HoldsTypes scope e →
    object_of scope object ≡ Some typed → object_at (under guards e) (place_of scope object) ≡ Some h → (element_value h mark).reason ≡ None →
    IsOf (element_of typed.def) (value_or_zero (element_value h mark).answer)
copy_is scope guards e object typed h mark types is there stands =
    let found = types_found.objects scope (under guards e) object typed (goes_on_holding.guarded scope guards e types) is in
    let same : found.held ≡ h = same_Some found.held h (sym found.there ∙ there) in
    let shape : elements_in (shape_of h) ≡ element_of typed.def =
    ap (λ x. elements_in (shape_of x)) (sym same) ∙ (ap elements_in found.shape ∙ (type_elements typed.def found.type).1) in
    let v = element_found h mark stands in
    subst (λ a. IsOf (element_of typed.def) (value_or_zero a)) (sym v.1) (v.2 ∙ shape)

pub copy_values : (scope : Scope) (guards : Guards) (e : State) (line : ℕ) (object : List ℕ) (at : Option (List ℕ)) (name : List ℕ)
    (h : Held) (mark : Mark) → HoldsValues scope guards e → HeadKept scope (view_at line UpdateKey object at name) →
    object_at (under guards e) (place_of scope object) ≡ Some h → head_reason UpdateKey h mark ≡ None →
    HoldsValues (behind_words scope (view_at line UpdateKey object at name)) (guards_of_view UpdateKey h ++ guards)
    (with_name e (binds_value (value_or_zero (element_value h mark).answer)))
copy_values scope guards e line object at name h mark holds kept there none =
    let b = binds_value (value_or_zero (element_value h mark).answer) in
    let known = viewed scope UpdateKey (object_of scope object) at kept.typed in
    record {
      types = heads_hold.copies scope e line UpdateKey object at name _ holds.types kept;
      variables = entry_value scope e.bounds name b (object_of scope object) (view_meaning UpdateKey) known holds.variables
          (copy_is scope guards e object known.0 h mark holds.types known.1 there (key_stands h mark none));
      elements = elements_with (guards_of_view UpdateKey h ++ guards) e b (elements_under (guards_of_view UpdateKey h) guards e holds.elements)
          (λ p m is. absurd (cc));
      sound = sound_more e.bounds b holds.sound tt;
    }

pub values_in_blocks : ValuesInBlocks
values_in_blocks = record {
  loops = λ scope guards e line name elements backward object h at holds kept there named.
      turn_values scope guards e line name elements backward object h at holds kept (sound_at (under guards e) (place_of scope object) h (sound-under guards e holds.sound) there)
      named (found_frame (guards_of_loop elements h ++ guards) guards e (place_of scope object) h there);
  views = view_values;
  copies = copy_values;
}

-- The names that a loop goes over

abbrev pub EachNamed : List ℕ → List ℕ → Type 0
EachNamed all [] = Unit {0}
EachNamed all (n ∷ ns) = IsNamedIn all n × EachNamed all ns

same_number : (n : ℕ) → (n == n) ≡ true
same_number n = grind (arith)

or_true : (a b : Bool) → b ≡ true → (a || b) ≡ true
or_true true b h = refl
or_true false b h = h

named_first : (n : ℕ) (ns : List ℕ) → IsNamedIn (n ∷ ns) n
named_first n ns = ap (λ b. b || list_any (λ (m : ℕ). m == n) ns) (same_number n)

named_later : (n : ℕ) (ns : List ℕ) (m : ℕ) → IsNamedIn ns m → IsNamedIn (n ∷ ns) m
named_later n ns m there = or_true (n == m) (list_any (λ (k : ℕ). k == m) ns) there

each_within : (all ns : List ℕ) → ((n : ℕ) → IsNamedIn ns n → IsNamedIn all n) → EachNamed all ns
each_within all [] f = tt
each_within all (n ∷ ns) f = (f n (named_first n ns), each_within all ns (λ m there. f m (named_later n ns m there)))

pub each_in_order : (backward : Bool) (all : List ℕ) → EachNamed all (in_order backward all)
each_in_order false all = each_within all all (λ n there. there)
each_in_order true all =
    each_within all (reverse all)
    (λ n there. list_any-IsPermutation (λ (m : ℕ). m == n) all (reverse all) (IsPermutation-reverse all) ∙ there)

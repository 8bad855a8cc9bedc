-- What the outermost names of a script that can run hold is a valid state: entry by entry, their names, and the room of all.
use Rattle.std.proofs.Common.{◌≡◌, ◌+◌, ◌≤◌, ℕ, Bool, true, false, not, ◌&&◌, List, [], ◌∷◌, map, Option, Some, None, refl, sym, ap, ap₂, subst, ◌∙◌, true≢false, arith}
use Rattle.std.specs.Prelude.{unwrap_or, All}
use Rattle.std.specs.List.{cons_option, filter_map, zip, list_all, list_any, sum_by}
use Rattle.std.specs.Str.{bytes_eq}
use Rattle.std.proofs.lemmas.Bool.{and_from, and_parts, or_from, or_parts, not-true, not_from_false, le-leb}
use Rattle.std.proofs.lemmas.List.Elements.{All-head, All-tail}
use Rattle.std.proofs.lemmas.List.Sums.{sum_by-cons}
use Rattle.ac_base.specs.declared.limit.TheConstants.{GREATEST_LENGTH}
use Rattle.ac_base.specs.declared.value.Value.{Value}
use Rattle.ac_base.specs.declared.value.Value.TheVariants as value
use Rattle.ac_syntax.specs.Refusals.{Spells}
use Rattle.ac_syntax.specs.declared.decl.Decl.{Decl}
use Rattle.ac_syntax.specs.declared.decl.Decl.TheVariants.{TypeDecl, Object, CursorVar, IntVar, TextVar}
use Rattle.ac_syntax.specs.declared.script.Script.{Script}
use Rattle.ac_syntax.specs.declared.type_def.TypeDef.{TypeDef}
use Rattle.ac_rules.specs.declared.limits.TheConstants.{MOST_ROOM}
use Rattle.ac_rules.specs.Faults.{decl_name, decl_capacity, IsChecked}
use Rattle.ac_rules.specs.Kept.{DeclKept, DeclsKept}
use Rattle.ac_rules.specs.Resolved.{no_type, resolve_decl, resolve_decls}
use Rattle.ac_rules.specs.Rules.{is_object_of}
use Rattle.ac_rules.specs.Scopes.{Scope, type_of, decl_entry, with_entry}
use Rattle.ac_rules.proofs.Kept.{rules_kept}
use Rattle.ac_calls.specs.Holdings.{Held, limit_by}
use Rattle.ac_calls.specs.PlainRows.{plain_rows}
use Rattle.ac_calls.specs.Plains.{name_of}
use Rattle.ac_calls.specs.declared.plains.Plain.{Plain}
use Rattle.ac_meaning.specs.AsDeclared.{limit_of, IsObjectOf, declared_shape, IsAsDeclared, AreAsDeclared}
use Rattle.ac_meaning.specs.Environment.{Bound, binds_type, binds_object, binds_cursor, binds_value, binds_element, State}
use Rattle.ac_meaning.specs.Plains.{plain_object, plain_value, plain_in, plains_of}
use Rattle.ac_snapshot.specs.Representable.{is_row_representable, is_entry_representable}
use Rattle.ac_snapshot.specs.RowValidity.{is_integer, is_text, all_differ}
use Rattle.ac_snapshot.specs.Validity.{is_name, is_valid_content, is_valid_entry, room_in, names_differ, has_room, is_valid}
use Rattle.ac_plains.specs.ValidStates.{IsSoundBound, IsSoundHeld, SavesValid}
use Rattle.ac_plains.proofs.DeclaredNames.{are_sound_types, names_declared, type_kept, types_kept}
use Rattle.ac_plains.proofs.DeclaredRoom.{declared_room}
use Rattle.ac_plains.proofs.SoundObjects.{declared_valid, room_by_limit}
use Rattle.ac_plains.proofs.SpelledNames.{names_spelled}

-- the plain values of these names
abbrev plains_in : (names : List (List ℕ)) → List Bound → List Plain
plains_in names bounds = filter_map (λ (named : List ℕ × Bound). plain_in named.0 named.1) (zip names bounds)

-- What there may be one of

abbrev passes : (Plain → Bool) → Option Plain → Bool
passes test None = true
passes test (Some p) = test p

all_cons : (test : Plain → Bool) (o : Option Plain) (ps : List Plain) → list_all test (cons_option o ps) ≡ (passes test o && list_all test ps)
all_cons test None ps = refl
all_cons test (Some p) ps = refl

abbrev room_of_one : Option Plain → ℕ
room_of_one None = 0
room_of_one (Some p) = room_in p

room_cons : (o : Option Plain) (ps : List Plain) → sum_by room_in (cons_option o ps) ≡ room_of_one o + sum_by room_in ps
room_cons None ps = omega arith
room_cons (Some p) ps = sum_by-cons room_in p ps

abbrev IsNamed : (name : List ℕ) → Option Plain → Type 0
IsNamed name None = Unit {0}
IsNamed name (Some p) = name_of p ≡ name

value_named : (name : List ℕ) (v : Value) → name_of (plain_value name v) ≡ name
value_named name (value.Int z) = refl
value_named name (value.Text bytes) = refl

plain_named : (name : List ℕ) (b : Bound) → IsNamed name (plain_in name b)
plain_named name binds_type = tt
plain_named name (binds_object h) = refl
plain_named name (binds_cursor mark) = tt
plain_named name (binds_value v) = value_named name v
plain_named name (binds_element object at) = tt

-- Names differ as those that were declared do

none_added : (alike : List ℕ → Bool) (name : List ℕ) (o : Option Plain) (ps : List Plain) → IsNamed name o → alike name ≡ false →
    list_any alike (map name_of ps) ≡ false → list_any alike (map name_of (cons_option o ps)) ≡ false
none_added alike name None ps is here others = others
none_added alike name (Some p) ps is here others = or_from (alike (name_of p)) (list_any alike (map name_of ps)) (ap alike is ∙ here) others

none_alike : (alike : List ℕ → Bool) (names : List (List ℕ)) (bounds : List Bound) → list_any alike names ≡ false →
    list_any alike (map name_of (plains_in names bounds)) ≡ false
none_alike alike [] bounds h = refl
none_alike alike (name ∷ names) [] h = refl
none_alike alike (name ∷ names) (b ∷ bounds) h =
    let parts = or_parts (alike name) (list_any alike names) h in
    none_added alike name (plain_in name b) (plains_in names bounds) (plain_named name b) parts.0 (none_alike alike names bounds parts.1)

differ_added : (name : List ℕ) (o : Option Plain) (ps : List Plain) → IsNamed name o → list_any (bytes_eq name) (map name_of ps) ≡ false →
    names_differ ps ≡ true → names_differ (cons_option o ps) ≡ true
differ_added name None ps is none others = others
differ_added name (Some p) ps is none others =
    and_from (not (list_any (bytes_eq (name_of p)) (map name_of ps))) (names_differ ps)
    (not_from_false (list_any (bytes_eq (name_of p)) (map name_of ps)) (ap (λ n. list_any (bytes_eq n) (map name_of ps)) is ∙ none)) others

plains_differ : (names : List (List ℕ)) (bounds : List Bound) → all_differ bytes_eq names ≡ true → names_differ (plains_in names bounds) ≡ true
plains_differ [] bounds h = refl
plains_differ (name ∷ names) [] h = refl
plains_differ (name ∷ names) (b ∷ bounds) h =
    let parts = and_parts (not (list_any (bytes_eq name) names)) (all_differ bytes_eq names) h in
    let none = none_alike (bytes_eq name) names bounds (not-true (list_any (bytes_eq name) names) parts.0) in
    differ_added name (plain_in name b) (plains_in names bounds) (plain_named name b) none (plains_differ names bounds parts.1)

-- The room is that of the declarations

value_room : (name : List ℕ) (v : Value) → room_in (plain_value name v) ≡ 0
value_room name (value.Int z) = refl
value_room name (value.Text bytes) = refl

room_told : (scope : Scope) (d : Decl) (b : Bound) → IsAsDeclared (resolve_decl scope d) b → room_of_one (plain_in (decl_name d) b) ≡ decl_capacity d
room_told scope (TypeDecl line name def) binds_type h = refl
room_told scope (Object line name of capacity) (binds_object held) h = room_by_limit capacity (limit_of held) h.within
room_told scope (CursorVar line name of) (binds_cursor mark) h = refl
room_told scope (IntVar line name) (binds_value v) h = value_room name v
room_told scope (TextVar line name) (binds_value v) h = value_room name v
room_told scope d b h = absurd h

plains_room : (scope : Scope) (decls : List Decl) (bounds : List Bound) → AreAsDeclared (resolve_decls scope decls) bounds →
    sum_by room_in (plains_in (map decl_name decls) bounds) ≡ sum_by decl_capacity decls
plains_room scope [] bounds h = refl
plains_room scope (d ∷ decls) [] h = absurd h
plains_room scope (d ∷ decls) (b ∷ bounds) h =
    room_cons (plain_in (decl_name d) b) (plains_in (map decl_name decls) bounds)
    ∙ ap₂ (λ n m. n + m) (room_told scope d b h.0) (plains_room (with_entry scope (decl_entry scope d)) decls bounds h.1)
    ∙ sym (sum_by-cons decl_capacity d decls)

-- Each entry

value_valid : (name : List ℕ) (v : Value) → is_name name ≡ true → is_entry_representable (plain_value name v) ≡ true → is_valid_entry (plain_value name v) ≡ true
value_valid name (value.Int z) named held = and_from (is_name name) (is_integer z) named held
value_valid name (value.Text bytes) named held = and_from (is_name name) (is_text bytes) named held

object_valid : (scope : Scope) (name of : List ℕ) (capacity : Option ℕ) (h : Held) (o : Option TypeDef) → type_of scope of ≡ o →
    are_sound_types scope ≡ true → is_object_of o capacity ≡ true → unwrap_or capacity 0 ≤ GREATEST_LENGTH →
    IsObjectOf (declared_shape (unwrap_or o no_type)) (limit_by capacity) h → IsSoundHeld h → is_name name ≡ true →
    list_all is_row_representable (plain_rows h) ≡ true → is_valid_entry (plain_object name h) ≡ true
object_valid scope name of capacity h None f types alike few own sound named held = absurd (true≢false (sym alike))
object_valid scope name of capacity h (Some def) f types alike few own sound named held =
    and_from (is_name name) (is_valid_content (plain_object name h)) named
    (declared_valid def capacity h (type_kept scope of def types f) alike few own sound held)

entry_valid : (scope : Scope) (d : Decl) (b : Bound) → are_sound_types scope ≡ true → DeclKept scope d → decl_capacity d ≤ GREATEST_LENGTH →
    IsAsDeclared (resolve_decl scope d) b → IsSoundBound b → is_name (decl_name d) ≡ true →
    passes is_entry_representable (plain_in (decl_name d) b) ≡ true → passes is_valid_entry (plain_in (decl_name d) b) ≡ true
entry_valid scope (TypeDecl line name def) binds_type types kept few h sound named held = refl
entry_valid scope (Object line name of capacity) (binds_object x) types kept few h sound named held =
    object_valid scope name of capacity x (type_of scope of) refl types kept.typed few h sound named held
entry_valid scope (CursorVar line name of) (binds_cursor mark) types kept few h sound named held = refl
entry_valid scope (IntVar line name) (binds_value v) types kept few h sound named held = value_valid name v named held
entry_valid scope (TextVar line name) (binds_value v) types kept few h sound named held = value_valid name v named held
entry_valid scope d b types kept few h sound named held = absurd h

entries_valid : (scope : Scope) (decls : List Decl) (bounds : List Bound) → are_sound_types scope ≡ true → DeclsKept scope decls →
    sum_by decl_capacity decls ≤ GREATEST_LENGTH → AreAsDeclared (resolve_decls scope decls) bounds → All IsSoundBound bounds →
    list_all is_name (map decl_name decls) ≡ true → list_all is_entry_representable (plains_in (map decl_name decls) bounds) ≡ true →
    list_all is_valid_entry (plains_in (map decl_name decls) bounds) ≡ true
entries_valid scope [] bounds types kept few h sound named held = refl
entries_valid scope (d ∷ decls) [] types kept few h sound named held = absurd h
entries_valid scope (d ∷ decls) (b ∷ bounds) types kept few h sound named held =
    let one = plain_in (decl_name d) b in
    let others = plains_in (map decl_name decls) bounds in
    let names = and_parts (is_name (decl_name d)) (list_all is_name (map decl_name decls)) named in
    let there = and_parts (passes is_entry_representable one) (list_all is_entry_representable others) (sym (all_cons is_entry_representable one others) ∙ held) in
    let both = sum_by-cons decl_capacity d decls in
    let own : decl_capacity d ≤ GREATEST_LENGTH = omega (arith, few, both) in
    let rest : sum_by decl_capacity decls ≤ GREATEST_LENGTH = omega (arith, few, both) in
    all_cons is_valid_entry one others
    ∙ and_from (passes is_valid_entry one) (list_all is_valid_entry others)
    (entry_valid scope d b types kept.first own h.0 (All-head IsSoundBound b bounds sound) names.0 there.0)
    (entries_valid (with_entry scope (decl_entry scope d)) decls bounds (types_kept scope d kept.first.typed types) kept.rest rest h.1
    (All-tail IsSoundBound b bounds sound) names.1 there.1)

state_valid : (script : Script) (text : List ℕ) (e : State) → Spells script text → IsChecked script →
    AreAsDeclared (resolve_decls [] script.decls) e.bounds → All IsSoundBound e.bounds →
    list_all is_entry_representable (plains_of (map decl_name script.decls) e) ≡ true →
    is_valid (plains_of (map decl_name script.decls) e) ≡ true
state_valid script text e spelled checked declared sound held =
    let decls = script.decls in
    let state = plains_of (map decl_name decls) e in
    let kept = (rules_kept script checked).decls in
    let room : sum_by decl_capacity decls ≤ MOST_ROOM = declared_room script checked in
    let few : sum_by decl_capacity decls ≤ GREATEST_LENGTH = omega (arith, room) in
    let entries = entries_valid [] decls e.bounds refl kept few declared sound (names_spelled script text spelled) held in
    let differ = plains_differ (map decl_name decls) e.bounds (names_declared [] decls kept) in
    let enough : has_room state ≡ true =
    le-leb (sum_by room_in state) MOST_ROOM (subst (λ n. n ≤ MOST_ROOM) (sym (plains_room [] decls e.bounds declared)) room) in
    and_from (list_all is_valid_entry state) (names_differ state && has_room state) entries (and_from (names_differ state) (has_room state) differ enough)

pub saves_valid : SavesValid
saves_valid = record { valid = state_valid }

-- In a script that can run no two declarations have one name, and each type keeps the rules.
use Rattle.std.proofs.Common.{◌≡◌, ℕ, Bool, true, false, not, cond, ◌&&◌, List, [], ◌∷◌, ◌++◌, map, find, is_some, option_map, Option, Some, None, refl, sym, ap, subst, ◌∙◌, true≢false}
use Rattle.std.specs.Prelude.{option_and_then}
use Rattle.std.specs.List.{list_all, list_any}
use Rattle.std.specs.Str.{bytes_eq}
use Rattle.std.proofs.lemmas.Bool.{and_from, and_parts, or_from, not_from_false, false_from_ne_true}
use Rattle.std.proofs.lemmas.List.Folds.{list_all-append}
use Rattle.std.proofs.lemmas.Option.{none-some, same_Some}
use Rattle.std.proofs.lemmas.Slice.Eq.{bytes_eq-Decides}
use Rattle.ac_syntax.specs.declared.decl.Decl.{Decl}
use Rattle.ac_syntax.specs.declared.decl.Decl.TheVariants.{TypeDecl, Object, CursorVar, IntVar, TextVar}
use Rattle.ac_syntax.specs.declared.type_def.TypeDef.{TypeDef}
use Rattle.ac_rules.specs.Faults.{decl_name, is_in_scope}
use Rattle.ac_rules.specs.Kept.{DeclsKept}
use Rattle.ac_rules.specs.Rules.{is_type, is_decl, is_object_of}
use Rattle.ac_rules.specs.Scopes.{Meaning, a_type, an_object, a_cursor, a_value, a_task, Entry, entry, Scope, type_in, type_of, decl_entry, with_entry}
use Rattle.ac_snapshot.specs.RowValidity.{all_differ}

-- Names in scope

abbrev found_in : Scope → List ℕ → Option Entry
found_in scope name = find (λ (e : Entry). bytes_eq e.name name) scope

in_longer : (scope more : Scope) (name : List ℕ) → is_in_scope scope name ≡ true → is_in_scope (scope ++ more) name ≡ true
in_longer [] more name h = absurd (true≢false (sym h))
in_longer (e ∷ scope) more name h = go (bytes_eq e.name name) (in_longer scope more name) h
  where
    go : (t : Bool) → (is_in_scope scope name ≡ true → is_in_scope (scope ++ more) name ≡ true) →
        is_some (option_map (λ (x : Entry). x.meaning) (cond t (Some e) (found_in scope name))) ≡ true →
        is_some (option_map (λ (x : Entry). x.meaning) (cond t (Some e) (found_in (scope ++ more) name))) ≡ true
    go true others f = refl
    go false others f = others f

in_last : (scope : Scope) (name : List ℕ) (m : Meaning) → is_in_scope (scope ++ entry name m ∷ []) name ≡ true
in_last [] name m =
    ap (λ b. is_some (option_map (λ (x : Entry). x.meaning) (cond b (Some (entry name m)) None))) ((bytes_eq-Decides name name).1 refl)
in_last (e ∷ scope) name m = go (bytes_eq e.name name) (in_last scope name m)
  where
    go : (t : Bool) → is_in_scope (scope ++ entry name m ∷ []) name ≡ true →
        is_some (option_map (λ (x : Entry). x.meaning) (cond t (Some e) (found_in (scope ++ entry name m ∷ []) name))) ≡ true
    go true others = refl
    go false others = others

in_with : (scope : Scope) (o : Option Entry) (name : List ℕ) → is_in_scope scope name ≡ true → is_in_scope (with_entry scope o) name ≡ true
in_with scope None name h = h
in_with scope (Some e) name h = in_longer scope (e ∷ []) name h

-- a declaration that keeps the rules puts its name into scope

object_in_scope : (scope : Scope) (name of : List ℕ) (capacity : Option ℕ) (o : Option TypeDef) → is_object_of o capacity ≡ true →
    is_in_scope (with_entry scope (option_map (entry name) (option_map (an_object of) o))) name ≡ true
object_in_scope scope name of capacity None h = absurd (true≢false (sym h))
object_in_scope scope name of capacity (Some def) h = in_last scope name (an_object of def)

own_in_scope : (scope : Scope) (d : Decl) → is_decl scope d ≡ true → is_in_scope (with_entry scope (decl_entry scope d)) (decl_name d) ≡ true
own_in_scope scope (TypeDecl line name def) h = in_last scope name _
own_in_scope scope (Object line name of capacity) h = object_in_scope scope name of capacity (type_of scope of) h
own_in_scope scope (CursorVar line name of) h = in_last scope name _
own_in_scope scope (IntVar line name) h = in_last scope name _
own_in_scope scope (TextVar line name) h = in_last scope name _

-- so no later one has it

other_name : (scope : Scope) (name other : List ℕ) → is_in_scope scope name ≡ true → is_in_scope scope other ≡ false → bytes_eq name other ≡ false
other_name scope name other there new =
    false_from_ne_true (bytes_eq name other) (λ h.
    true≢false (sym there ∙ ap (is_in_scope scope) ((bytes_eq-Decides name other).0 h) ∙ new))

none_named : (scope : Scope) (decls : List Decl) (name : List ℕ) → is_in_scope scope name ≡ true → DeclsKept scope decls →
    list_any (bytes_eq name) (map decl_name decls) ≡ false
none_named scope [] name there kept = refl
none_named scope (d ∷ decls) name there kept =
    or_from (bytes_eq name (decl_name d)) (list_any (bytes_eq name) (map decl_name decls)) (other_name scope name (decl_name d) there kept.first.new)
    (none_named (with_entry scope (decl_entry scope d)) decls name (in_with scope (decl_entry scope d) name there) kept.rest)

pub names_declared : (scope : Scope) (decls : List Decl) → DeclsKept scope decls → all_differ bytes_eq (map decl_name decls) ≡ true
names_declared scope [] kept = refl
names_declared scope (d ∷ decls) kept =
    let now = with_entry scope (decl_entry scope d) in
    let none = none_named now decls (decl_name d) (own_in_scope scope d kept.first.typed) kept.rest in
    and_from (not (list_any (bytes_eq (decl_name d)) (map decl_name decls))) (all_differ bytes_eq (map decl_name decls))
    (not_from_false (list_any (bytes_eq (decl_name d)) (map decl_name decls)) none) (names_declared now decls kept.rest)

-- Types in scope

abbrev is_sound_meaning : Meaning → Bool
is_sound_meaning (a_type def) = is_type def
is_sound_meaning (an_object _ _) = true
is_sound_meaning (a_cursor _ _) = true
is_sound_meaning (a_value _ _) = true
is_sound_meaning a_task = true

-- each keeps the rules
abbrev pub are_sound_types : Scope → Bool
are_sound_types scope = list_all (λ (e : Entry). is_sound_meaning e.meaning) scope

is_kept : (m : Meaning) (def : TypeDef) → is_sound_meaning m ≡ true → type_in m ≡ Some def → is_type def ≡ true
is_kept (a_type own) def h f = subst (λ d. is_type d ≡ true) (same_Some own def f) h
is_kept (an_object _ _) def h f = absurd (none-some def f)
is_kept (a_cursor _ _) def h f = absurd (none-some def f)
is_kept (a_value _ _) def h f = absurd (none-some def f)
is_kept a_task def h f = absurd (none-some def f)

pub type_kept : (scope : Scope) (name : List ℕ) (def : TypeDef) → are_sound_types scope ≡ true → type_of scope name ≡ Some def → is_type def ≡ true
type_kept [] name def h f = absurd (none-some def f)
type_kept (e ∷ scope) name def h f =
    let parts = and_parts (is_sound_meaning e.meaning) (are_sound_types scope) h in go (bytes_eq e.name name) parts.0 (type_kept scope name def parts.1) f
  where
    go : (t : Bool) → is_sound_meaning e.meaning ≡ true → (type_of scope name ≡ Some def → is_type def ≡ true) →
        option_and_then type_in (option_map (λ (x : Entry). x.meaning) (cond t (Some e) (found_in scope name))) ≡ Some def → is_type def ≡ true
    go true here others g = is_kept e.meaning def here g
    go false here others g = others g

one_more : (scope : Scope) (e : Entry) → are_sound_types scope ≡ true → is_sound_meaning e.meaning ≡ true → are_sound_types (scope ++ e ∷ []) ≡ true
one_more scope e h k =
    list_all-append (λ (x : Entry). is_sound_meaning x.meaning) scope (e ∷ [])
    ∙ and_from (are_sound_types scope) (is_sound_meaning e.meaning && true) h (and_from (is_sound_meaning e.meaning) true k refl)

object_more : (scope : Scope) (name of : List ℕ) (o : Option TypeDef) → are_sound_types scope ≡ true →
    are_sound_types (with_entry scope (option_map (entry name) (option_map (an_object of) o))) ≡ true
object_more scope name of None h = h
object_more scope name of (Some def) h = one_more scope (entry name (an_object of def)) h refl

pub types_kept : (scope : Scope) (d : Decl) → is_decl scope d ≡ true → are_sound_types scope ≡ true → are_sound_types (with_entry scope (decl_entry scope d)) ≡ true
types_kept scope (TypeDecl line name def) k h = one_more scope (entry name (a_type def)) h k
types_kept scope (Object line name of capacity) k h = object_more scope name of (type_of scope of) h
types_kept scope (CursorVar line name of) k h = one_more scope (entry name (a_cursor of true)) h refl
types_kept scope (IntVar line name) k h = one_more scope (entry name (a_value _ true)) h refl
types_kept scope (TextVar line name) k h = one_more scope (entry name (a_value _ true)) h refl

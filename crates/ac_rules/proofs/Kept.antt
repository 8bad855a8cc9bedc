-- Each statement of a script that can run keeps the rules in the scope where it stands.
use Rattle.std.proofs.Common.{◌≡◌, ◌||◌, ℕ, Bool, true, false, not, List, [], ◌∷◌, ◌++◌, Some, None, is_some, refl, ap, true≢false}
use Rattle.std.specs.Prelude.{if◌then◌else◌, IsTrue}
use Rattle.std.specs.List.{list_any}
use Rattle.std.proofs.lemmas.Bool.{and_parts}
use Rattle.std.proofs.lemmas.List.Elements.{All-nil, All-cons}
use Rattle.ac_base.specs.declared.reason.Exception.{Exception}
use Rattle.ac_syntax.specs.Code.{Code, stop, one, block, handled, HandlerCode, no_handler, handler, Head, loop_at, view_at, stable_at, declare_at, tasks_at, task_at}
use Rattle.ac_syntax.specs.Items.{declares, opens, bare}
use Rattle.ac_syntax.specs.declared.decl.Decl.{Decl}
use Rattle.ac_syntax.specs.declared.refusal.RefusalKind.{RefusalKind}
use Rattle.ac_syntax.specs.declared.refusal.RefusalKind.TheVariants.{Limit, UnknownName, WrongType, Twice}
use Rattle.ac_syntax.specs.declared.script.Script.{Script}
use Rattle.ac_rules.specs.Scopes.{Scope, Standing, standing, with_entry, with_decls, decl_entry, decls_in, behind_words, inside, behind_block, with_named, standing_decls, standings_from, handler_standings, standings}
use Rattle.ac_rules.specs.Rules.{is_well_typed, is_decl, is_simple, is_head, suits_decl, suits_simple, suits_head}
use Rattle.ac_rules.specs.Faults.{used, declared, caught, decl_name, is_in_scope, is_twice, is_named, fault, IsChecked}
use Rattle.ac_rules.specs.Walks.{has_unknown, fault_with}
use Rattle.ac_rules.specs.Kept.{AreKnown, HeadKept, DeclsKept, KeepsRules, HandlersKept, ScriptKept}

none_known : {X : Type 0} (kind : RefusalKind) → Some kind ≡ None → X
none_known kind h = absurd (true≢false (ap is_some h))

-- none of these tests found a fault
faultless_by : (unknown typed twice limit : Bool)
    → (if unknown then Some UnknownName else if not typed then Some WrongType else if twice then Some Twice else if limit then Some Limit else None) ≡ None
    → (unknown ≡ false) × (typed ≡ true) × (twice ≡ false)
faultless_by true typed twice limit h = none_known UnknownName h
faultless_by false false twice limit h = none_known WrongType h
faultless_by false true true limit h = none_known Twice h
faultless_by false true false limit h = (refl, refl, refl)

-- a task's name is new where its head isn't faulty
pub unnamed : (room : ℕ) (scope : Scope) (line : ℕ) (name : List ℕ) → fault_with room (standing (opens (task_at line name [])) scope) ≡ None → is_in_scope scope name ≡ false
unnamed room scope line name h =
    let s = standing (opens (task_at line name [])) scope in
    (faultless_by (has_unknown s.scope (used s.item)) (is_well_typed s) (is_twice s.scope (declared s.item)) _ h).2

-- the name of a declaration that isn't faulty is new
pub undeclared : (room : ℕ) (scope : Scope) (d : Decl) → fault_with room (standing (declares d) scope) ≡ None → is_in_scope scope (decl_name d) ≡ false
undeclared room scope d h =
    let s = standing (declares d) scope in
    (faultless_by (has_unknown s.scope (used s.item)) (is_well_typed s) (is_twice s.scope (declared s.item)) _ h).2

no_more : (known unknown : Bool) → (not known || unknown) ≡ false → (known ≡ true) × (unknown ≡ false)
no_more true unknown h = (refl, h)
no_more false unknown h = absurd (true≢false h)

all_known : (scope : Scope) (names : List (List ℕ)) → list_any (λ name. not (is_in_scope scope name)) names ≡ false → AreKnown scope names
all_known scope [] h = All-nil (λ name. IsTrue (is_in_scope scope name))
all_known scope (name ∷ names) h =
    let here = no_more (is_in_scope scope name) (list_any (λ n. not (is_in_scope scope n)) names) h in
    All-cons (λ n. IsTrue (is_in_scope scope n)) name names here.0 (all_known scope names here.1)

none_of : (a b : Bool) → (a || b) ≡ false → (a ≡ false) × (b ≡ false)
none_of true b h = absurd (true≢false h)
none_of false b h = (refl, h)

record ItemKept (s : Standing) : Type 0 where
  known : AreKnown s.scope (used s.item)
  typed : is_well_typed s ≡ true
  unnamed : is_named s.named (caught s.item) ≡ false
  new : is_twice s.scope (declared s.item) ≡ false

item_kept : (earlier : List Standing) (s : Standing) → fault earlier s ≡ None → ItemKept s
item_kept earlier s h =
    let kept = faultless_by (list_any (λ name. not (is_in_scope s.scope name)) (used s.item)) (is_well_typed s)
    (is_named s.named (caught s.item) || is_twice s.scope (declared s.item)) _ h in
    let once = none_of (is_named s.named (caught s.item)) (is_twice s.scope (declared s.item)) kept.2 in
    record { known = all_known s.scope (used s.item) kept.0; typed = kept.1; unnamed = once.0; new = once.1 }

abbrev AreKept : List Standing → Type 0
AreKept [] = Unit {0}
AreKept (s ∷ all) = ItemKept s × AreKept all

all_kept : (all : List Standing) → ((earlier later : List Standing) (s : Standing) → all ≡ earlier ++ s ∷ later → ItemKept s) → AreKept all
all_kept [] kept = tt
all_kept (s ∷ all) kept =
    (kept [] all s refl, all_kept all (λ earlier later x split. kept (s ∷ earlier) later x (ap (λ (l : List Standing). s ∷ l) split)))

kept-append : (part rest : List Standing) → AreKept (part ++ rest) → AreKept part × AreKept rest
kept-append [] rest kept = (tt, kept)
kept-append (s ∷ part) rest (here, kept) = let more = kept-append part rest kept in ((here, more.0), more.1)

decls_kept : (scope : Scope) (decls : List Decl) → AreKept (standing_decls scope decls) → DeclsKept scope decls
decls_kept scope [] kept = tt
decls_kept scope (decl ∷ decls) (here, kept) =
    let typed : (is_decl scope decl ≡ true) × (suits_decl scope decl ≡ true) = and_parts _ _ here.typed in
    record {
      first = record { known = here.known; typed = typed.0; suited = typed.1; new = here.new };
      rest = decls_kept (with_entry scope (decl_entry scope decl)) decls kept;
    }

head_kept : (scope : Scope) (head : Head) → ItemKept (standing (opens (bare head)) scope) → HeadKept scope head
head_kept scope (loop_at line name elements backward object) kept =
    let typed : (is_head scope (loop_at line name elements backward object) ≡ true) × (suits_head scope (loop_at line name elements backward object) ≡ true) = and_parts _ _ kept.typed in
    record { known = kept.known; typed = typed.0; suited = typed.1; new = kept.new }
head_kept scope (view_at line view object at name) kept =
    let typed : (is_head scope (view_at line view object at name) ≡ true) × (suits_head scope (view_at line view object at name) ≡ true) = and_parts _ _ kept.typed in
    record { known = kept.known; typed = typed.0; suited = typed.1; new = kept.new }
head_kept scope (stable_at line object) kept =
    let typed : (is_head scope (stable_at line object) ≡ true) × (suits_head scope (stable_at line object) ≡ true) = and_parts _ _ kept.typed in
    record { known = kept.known; typed = typed.0; suited = typed.1; new = kept.new }
head_kept scope (declare_at line decls) kept = record { known = kept.known; typed = refl; suited = kept.typed; new = kept.new }
head_kept scope (tasks_at line) kept = record { known = kept.known; typed = refl; suited = kept.typed; new = kept.new }
head_kept scope (task_at line name locals) kept = record { known = kept.known; typed = refl; suited = kept.typed; new = kept.new }

mutual
  code_kept : (scope : Scope) (code : Code) → AreKept (standings_from scope code) → KeepsRules scope code
  code_kept scope stop kept = tt
  code_kept scope (one simple rest) (here, kept) =
      let typed : (is_simple scope simple ≡ true) × (suits_simple scope simple ≡ true) = and_parts _ _ here.typed in
      record { first = record { known = here.known; typed = typed.0; suited = typed.1 }; rest = code_kept scope rest kept }
  code_kept scope (block head body rest) (here, kept) =
      let later = standings_from (behind_block scope head) rest in
      let decls = kept-append (standing_decls (behind_words scope head) (decls_in head)) (standings_from (inside scope head) body ++ later) kept in
      let code = kept-append (standings_from (inside scope head) body) later decls.1 in
      record {
        head = head_kept scope head here;
        decls = decls_kept (behind_words scope head) (decls_in head) decls.0;
        body = code_kept (inside scope head) body code.0;
        rest = code_kept (behind_block scope head) rest code.1;
      }
  code_kept scope (handled line body handlers rest) (here, kept) =
      let tried = kept-append (standings_from scope body) (handler_standings scope [] handlers ++ standings_from scope rest) kept in
      let later = kept-append (handler_standings scope [] handlers) (standings_from scope rest) tried.1 in
      record { body = code_kept scope body tried.0; handlers = handlers_kept scope [] handlers later.0; rest = code_kept scope rest later.1 }

  handlers_kept : (scope : Scope) (named : List Exception) (handlers : HandlerCode) → AreKept (handler_standings scope named handlers) →
      HandlersKept scope named handlers
  handlers_kept scope named no_handler kept = tt
  handlers_kept scope named (handler line own body more) (here, kept) =
      let parts = kept-append (standings_from scope body) (handler_standings scope (with_named named own) more) kept in
      record { new = here.unnamed; body = code_kept scope body parts.0; more = handlers_kept scope (with_named named own) more parts.1 }

pub rules_kept : (script : Script) → IsChecked script → ScriptKept script
unfolding standings
rules_kept script checked =
    let kept = all_kept (standings script) (λ earlier later s split. item_kept earlier s (checked earlier later s split)) in
    let parts = kept-append (standing_decls [] script.decls) (standings_from (with_decls [] script.decls) script.stmts) kept in
    record { decls = decls_kept [] script.decls parts.0; code = code_kept (with_decls [] script.decls) script.stmts parts.1 }

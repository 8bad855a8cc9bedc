-- Names of tasks in scope, and which place the first one has.
use Rattle.std.proofs.Common.{◌≡◌, ◌+◌, ◌&&◌, ℕ, Bool, true, false, List, [], ◌∷◌, ◌++◌, length, Option, Some, None, option_map, refl, ap, ◌∙◌, arith}
use Rattle.std.specs.Prelude.{unwrap_or, if◌then◌else◌}
use Rattle.ac_syntax.specs.declared.decl.Decl.{Decl}
use Rattle.ac_syntax.specs.declared.decl.Decl.TheVariants.{TypeDecl, Object, CursorVar, IntVar, TextVar}
use Rattle.ac_syntax.specs.declared.stmt.Stmt.{Stmt}
use Rattle.ac_syntax.specs.declared.stmt.Stmt.TheVariants.{Call, Set, Sum, Loop, View, Stable, Declare, Tasks, Handled}
use Rattle.ac_syntax.specs.declared.type_def.TypeDef.{TypeDef}
use Rattle.ac_syntax.specs.declared.view_kind.ViewKind.{ViewKind}
use Rattle.ac_rules.specs.Scopes.{Meaning, Entry, entry, a_type, an_object, a_task, Scope, Typed, type_of, object_of, is_task, first_task, standing, decl_entry, with_entry, with_name, with_decls, loop_on, loop_meaning, view_on, view_meaning}
use Rattle.ac_rules.specs.Rules.{is_well_typed, is_stmt, suits, suits_stmt}
use Rattle.ac_rules.specs.Walks.{stmt_item}

-- a statement's item keeps the rules where the statement does, and suits where it stands
pub judged_by : (scope : Scope) (stmt : Stmt) → is_well_typed (standing (stmt_item stmt) scope) ≡ (is_stmt scope stmt && suits_stmt scope stmt)
judged_by scope (Call _ _ _ _ _) = refl
judged_by scope (Set _ _ _) = refl
judged_by scope (Sum _ _ _ _ _) = refl
judged_by scope (Loop _ _ _ _ _ _) = refl
judged_by scope (View _ _ _ _ _ _) = refl
judged_by scope (Stable _ _ _) = refl
judged_by scope (Declare _ _ _) = refl
judged_by scope (Tasks _ _) = refl
judged_by scope (Handled _ _ _) = refl

pub suits_any : (o : Option ℕ) → suits o (λ _. true) ≡ true
suits_any None = refl
suits_any (Some first) = refl

-- behind a name that is no task's, the first task is where it was
plain_first : (scope : Scope) (e : Entry) → is_task e.meaning ≡ false → first_task (scope ++ e ∷ []) ≡ first_task scope
plain_first [] e plain = ap (λ b. if b then Some 0 else None) plain
plain_first (f ∷ scope) e plain = ap (λ o. if is_task f.meaning then Some 0 else option_map (λ n. 1 + n) o) (plain_first scope e plain)

abbrev IsPlain : Option Meaning → Type 0
IsPlain None = Unit {0}
IsPlain (Some m) = is_task m ≡ false

named_first : (scope : Scope) (name : List ℕ) (m : Option Meaning) → IsPlain m → first_task (with_name scope name m) ≡ first_task scope
named_first scope name None plain = refl
named_first scope name (Some m) plain = plain_first scope (entry name m) plain

-- a loop's name, and a view's

loop_plain_by : (elements : Bool) (typed : Typed) → is_task (loop_meaning elements typed) ≡ false
loop_plain_by true typed = refl
loop_plain_by false typed = refl

loop_plain : (elements : Bool) (o : Option Typed) → IsPlain (option_map (loop_meaning elements) o)
loop_plain elements None = tt
loop_plain elements (Some typed) = loop_plain_by elements typed

pub loop_first : (scope : Scope) (name : List ℕ) (elements : Bool) (object : List ℕ) → first_task (with_name scope name (loop_on scope elements object)) ≡ first_task scope
loop_first scope name elements object = named_first scope name (loop_on scope elements object) (loop_plain elements (object_of scope object))

view_plain : (view : ViewKind) (o : Option Typed) → IsPlain (option_map (view_meaning view) o)
view_plain view None = tt
view_plain view (Some typed) = refl

pub view_first : (scope : Scope) (name : List ℕ) (view : ViewKind) (object : List ℕ) → first_task (with_name scope name (view_on scope view object)) ≡ first_task scope
view_first scope name view object = named_first scope name (view_on scope view object) (view_plain view (object_of scope object))

-- declarations

object_first : (scope : Scope) (name of : List ℕ) (o : Option TypeDef) → first_task (with_entry scope (option_map (entry name) (option_map (an_object of) o))) ≡ first_task scope
object_first scope name of None = refl
object_first scope name of (Some def) = plain_first scope (entry name (an_object of def)) refl

pub decl_first : (scope : Scope) (decl : Decl) → first_task (with_entry scope (decl_entry scope decl)) ≡ first_task scope
decl_first scope (TypeDecl line name def) = plain_first scope (entry name (a_type def)) refl
decl_first scope (Object line name of capacity) = object_first scope name of (type_of scope of)
decl_first scope (CursorVar line name of) = plain_first scope _ refl
decl_first scope (IntVar line name) = plain_first scope _ refl
decl_first scope (TextVar line name) = plain_first scope _ refl

pub decls_first : (scope : Scope) (decls : List Decl) → first_task (with_decls scope decls) ≡ first_task scope
decls_first scope [] = refl
decls_first scope (decl ∷ decls) = decls_first (with_entry scope (decl_entry scope decl)) decls ∙ decl_first scope decl

-- behind a task's name it is that task, where none was there

task_first_by : (b : Bool) (o : Option ℕ) (n : ℕ) → (if b then Some 0 else option_map (λ k. 1 + k) (Some (unwrap_or o n))) ≡ Some (unwrap_or (if b then Some 0 else option_map (λ k. 1 + k) o) (1 + n))
task_first_by true o n = refl
task_first_by false None n = refl
task_first_by false (Some k) n = refl

pub task_first : (scope : Scope) (name : List ℕ) → first_task (scope ++ entry name a_task ∷ []) ≡ Some (unwrap_or (first_task scope) (length scope))
task_first [] name = refl
task_first (e ∷ scope) name =
    let longer : 1 + length scope ≡ length (e ∷ scope) = omega arith in
    ap (λ o. if is_task e.meaning then Some 0 else option_map (λ k. 1 + k) o) (task_first scope name)
    ∙ task_first_by (is_task e.meaning) (first_task scope) (length scope)
    ∙ ap (λ n. Some (unwrap_or (first_task (e ∷ scope)) n)) longer

-- and stays it
pub first_on : (scope now : Scope) (name : List ℕ) → now ≡ scope ++ entry name a_task ∷ [] → unwrap_or (first_task now) (length now) ≡ unwrap_or (first_task scope) (length scope)
first_on scope now name is =
    ap (λ (s : Scope). unwrap_or (first_task s) (length s)) is
    ∙ ap (λ o. unwrap_or o (length (scope ++ entry name a_task ∷ []))) (task_first scope name)

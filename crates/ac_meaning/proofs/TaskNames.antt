-- The names in a task: what its commands may name is a local of its own.
use Rattle.std.proofs.Common.{◌≡◌, ◌+◌, ◌-◌, ◌≤◌, ◌<◌, ◌++◌, ℕ, zero, suc, nat_lt, Bool, true, false, List, [], ◌∷◌, length, slice_get, refl, sym, ap, subst, ◌∙◌, arith, append_assoc, option_map, Option, Some, None, true≢false, if◌then◌else◌}
use Rattle.std.specs.Prelude.{⊤, option_and_then}
use Rattle.std.proofs.lemmas.Bool.Decides.{nat_tests}
use Rattle.std.proofs.lemmas.List.{append-nil}
use Rattle.std.proofs.lemmas.Option.{same_Some, slice_get_within}
use Rattle.ac_syntax.specs.Nesting.{AreIntegers}
use Rattle.ac_syntax.specs.declared.arg.Arg.TheVariants.{Var}
use Rattle.ac_syntax.specs.declared.decl.Decl.{Decl}
use Rattle.ac_syntax.specs.declared.decl.Decl.TheVariants.{TypeDecl, Object, CursorVar, IntVar, TextVar}
use Rattle.ac_syntax.specs.declared.kind.ElemKind.{ElemKind}
use Rattle.ac_syntax.specs.declared.kind.ElemKind.TheVariants.{Integer}
use Rattle.ac_rules.specs.declared.rows.Letter.{Letter}
use Rattle.ac_rules.specs.declared.rows.Letter.TheVariants as letter
use Rattle.ac_rules.specs.Resolved.{place_of}
use Rattle.ac_rules.specs.Rules.{Given, gives_nothing, given_in, is_value, is_cursor, is_variable_of, is_typed, takes, fits, is_local, suits}
use Rattle.ac_rules.specs.Scopes.{Meaning, a_type, an_object, a_cursor, a_value, a_task, Entry, entry, Scope, Typed, object_in, object_of, meaning_in, is_task, first_task, with_decls}
use Rattle.ac_rules.proofs.Apart.{neither, and_parts}
use Rattle.ac_rules.proofs.NamePlaces.{place_found}
use Rattle.ac_meaning.proofs.CallsStay.{none_some}

pub lt_true : (a b : ℕ) → a < b → nat_lt a b ≡ true
lt_true a b h = grind (arith, nat_tests)

true_lt : (a b : ℕ) → nat_lt a b ≡ true → a < b
true_lt a b h = grind (arith, nat_tests)

pub length_both : {A : Type 0} (xs ys : List A) → length (xs ++ ys) ≡ length xs + length ys
length_both [] ys = omega arith
length_both (x ∷ xs) ys = omega (arith, length_both xs ys)

-- Locals

pub int_entries : List Decl → Scope
int_entries [] = []
int_entries (TypeDecl _ _ _ ∷ decls) = int_entries decls
int_entries (Object _ _ _ _ ∷ decls) = int_entries decls
int_entries (CursorVar _ _ _ ∷ decls) = int_entries decls
int_entries (IntVar line name ∷ decls) = entry name (a_value Integer true) ∷ int_entries decls
int_entries (TextVar _ _ ∷ decls) = int_entries decls

pub with_integers : (scope : Scope) (locals : List Decl) → AreIntegers locals → with_decls scope locals ≡ scope ++ int_entries locals
unfolding int_entries
with_integers scope [] h = sym (append-nil scope)
with_integers scope (TypeDecl _ _ _ ∷ decls) h = absurd h
with_integers scope (Object _ _ _ _ ∷ decls) h = absurd h
with_integers scope (CursorVar _ _ _ ∷ decls) h = absurd h
with_integers scope (IntVar line name ∷ decls) h =
    with_integers (scope ++ entry name (a_value Integer true) ∷ []) decls h
    ∙ append_assoc scope (entry name (a_value Integer true) ∷ []) (int_entries decls)
with_integers scope (TextVar _ _ ∷ decls) h = absurd h

int_length : (locals : List Decl) → AreIntegers locals → length (int_entries locals) ≡ length locals
unfolding int_entries
int_length [] h = refl
int_length (TypeDecl _ _ _ ∷ decls) h = absurd h
int_length (Object _ _ _ _ ∷ decls) h = absurd h
int_length (CursorVar _ _ _ ∷ decls) h = absurd h
int_length (IntVar line name ∷ decls) h = ap suc (int_length decls h)
int_length (TextVar _ _ ∷ decls) h = absurd h

-- none of these is an object
pub NoObjects : Scope → Type 0
NoObjects [] = ⊤
NoObjects (e ∷ scope) = (object_in e.meaning ≡ None) × NoObjects scope

int_objects : (locals : List Decl) → NoObjects (int_entries locals)
unfolding int_entries NoObjects
int_objects [] = tt
int_objects (TypeDecl _ _ _ ∷ decls) = int_objects decls
int_objects (Object _ _ _ _ ∷ decls) = int_objects decls
int_objects (CursorVar _ _ _ ∷ decls) = int_objects decls
int_objects (IntVar line name ∷ decls) = (refl, int_objects decls)
int_objects (TextVar _ _ ∷ decls) = int_objects decls

-- Names of tasks

pub AllTasks : Scope → Type 0
AllTasks [] = ⊤
AllTasks (e ∷ scope) = (e.meaning ≡ a_task) × AllTasks scope

pub no_tasks : AllTasks []
unfolding AllTasks
no_tasks = tt

pub one_more : (names : Scope) (name : List ℕ) → AllTasks names → AllTasks (names ++ entry name a_task ∷ [])
unfolding AllTasks
one_more [] name h = (refl, tt)
one_more (e ∷ names) name h = (h.0, one_more names name h.1)

task_objects : (names rest : Scope) → AllTasks names → NoObjects rest → NoObjects (names ++ rest)
unfolding AllTasks NoObjects
task_objects [] rest h k = k
task_objects (e ∷ names) rest h k = (ap object_in h.0, task_objects names rest h.1 k)

no_number : (n : ℕ) (o : Option ℕ) → option_map (λ n. 1 + n) o ≡ None → o ≡ None
no_number n None h = refl
no_number n (Some k) h = none_some (1 + k) (sym h)

first_in : (before : Scope) (t : Entry) (rest : Scope) → first_task before ≡ None → t.meaning ≡ a_task →
    first_task (before ++ t ∷ rest) ≡ Some (length before)
first_in [] t rest none task = ap (λ m. if is_task m then Some 0 else option_map (λ n. 1 + n) (first_task rest)) task
first_in (e ∷ before) t rest none task = go (is_task e.meaning) none (first_in before t rest)
  where
    go : (b : Bool) → (if b then Some 0 else option_map (λ n. 1 + n) (first_task before)) ≡ None →
        (first_task before ≡ None → t.meaning ≡ a_task → first_task (before ++ t ∷ rest) ≡ Some (length before)) →
        (if b then Some 0 else option_map (λ n. 1 + n) (first_task (before ++ t ∷ rest))) ≡ Some (suc (length before))
    go true h further = none_some 0 (sym h)
    go false h further =
        let longer : 1 + length before ≡ suc (length before) = omega arith in
        ap (option_map (λ n. 1 + n)) (further (no_number 0 (first_task before) h) task) ∙ ap Some longer

first_named : (before names rest : Scope) → first_task before ≡ None → AllTasks names → 1 ≤ length names →
    first_task (before ++ (names ++ rest)) ≡ Some (length before)
unfolding AllTasks
first_named before [] rest none tasks some = absurd (omega (arith, some))
first_named before (t ∷ names) rest none tasks some = first_in before t (names ++ rest) none tasks.0

pub suits_none : (o : Option ℕ) → suits o (λ _. false) ≡ true → o ≡ None
suits_none None h = refl
suits_none (Some first) h = neither h

-- Where a name stands

past : {A : Type 0} (before rest : List A) (n : ℕ) (x : A) → length before ≤ n → slice_get (before ++ rest) n ≡ Some x →
    (k : ℕ) × (n ≡ length before + k) × (slice_get rest k ≡ Some x)
past [] rest n x within h = (n, omega arith, h)
past (b ∷ before) rest zero x within h = absurd (omega (arith, within))
past (b ∷ before) rest (suc n) x within h =
    let r = past before rest n x (omega (arith, within)) h in (r.0, omega (arith, r.1), r.2)

behind_tasks : (names ints : Scope) (k : ℕ) (x : Entry) → AllTasks names → slice_get (names ++ ints) k ≡ Some x → is_task x.meaning ≡ false →
    (length names ≤ k) × (k < length names + length ints)
unfolding AllTasks
behind_tasks [] ints k x tasks h plain = (omega arith, omega (arith, slice_get_within ints k x h))
behind_tasks (t ∷ names) ints zero x tasks h plain =
    absurd (true≢false (sym (ap is_task tasks.0) ∙ (ap (λ (y : Entry). is_task y.meaning) (same_Some t x h) ∙ plain)))
behind_tasks (t ∷ names) ints (suc k) x tasks h plain =
    let r = behind_tasks names ints k x tasks.1 h plain in (omega (arith, r.0), omega (arith, r.1))

no_object_there : (rest : Scope) (n : ℕ) (x : Entry) → NoObjects rest → slice_get rest n ≡ Some x → object_in x.meaning ≡ None
unfolding NoObjects
no_object_there [] n x h f = none_some x f
no_object_there (e ∷ rest) zero x h f = ap (λ (y : Entry). object_in y.meaning) (sym (same_Some e x f)) ∙ h.0
no_object_there (e ∷ rest) (suc n) x h f = no_object_there rest n x h.1 f

object_before : (before rest : Scope) (n : ℕ) (x : Entry) (typed : Typed) → NoObjects rest → object_in x.meaning ≡ Some typed →
    slice_get (before ++ rest) n ≡ Some x → slice_get before n ≡ Some x
object_before [] rest n x typed none is f = none_some typed (sym (no_object_there rest n x none f) ∙ is)
object_before (e ∷ before) rest zero x typed none is f = f
object_before (e ∷ before) rest (suc n) x typed none is f = object_before before rest n x typed none is f

-- What is a task's name is no value, no cursor and no object

pub record IsPlain (o : Option Meaning) : Type 0 where
  pub meaning : Meaning
  pub is : o ≡ Some meaning
  pub no_task : is_task meaning ≡ false

pub plain_value : (element : ElemKind) (o : Option Meaning) → is_value element (given_in o) ≡ true → IsPlain o
plain_value element None h = neither h
plain_value element (Some (a_type d)) h = neither h
plain_value element (Some (an_object t d)) h = neither h
plain_value element (Some (a_cursor t v)) h = neither h
plain_value element (Some (a_value k w)) h = record { meaning = a_value k w; is = refl; no_task = refl }
plain_value element (Some a_task) h = neither h

plain_cursor : (type : List ℕ) (o : Option Meaning) → is_cursor type (given_in o) ≡ true → IsPlain o
plain_cursor type None h = neither h
plain_cursor type (Some (a_type d)) h = neither h
plain_cursor type (Some (an_object t d)) h = neither h
plain_cursor type (Some (a_cursor t v)) h = record { meaning = a_cursor t v; is = refl; no_task = refl }
plain_cursor type (Some (a_value k w)) h = neither h
plain_cursor type (Some a_task) h = neither h

plain_variable : (type : List ℕ) (o : Option Meaning) → is_variable_of type o ≡ true → IsPlain o
plain_variable type None h = neither h
plain_variable type (Some (a_type d)) h = neither h
plain_variable type (Some (an_object t d)) h = neither h
plain_variable type (Some (a_cursor t v)) h = record { meaning = a_cursor t v; is = refl; no_task = refl }
plain_variable type (Some (a_value k w)) h = neither h
plain_variable type (Some a_task) h = neither h

plain_object : (type : List ℕ) (o : Option Meaning) → is_typed type (option_and_then object_in o) ≡ true → IsPlain o
plain_object type None h = neither h
plain_object type (Some (a_type d)) h = neither h
plain_object type (Some (an_object t d)) h = record { meaning = an_object t d; is = refl; no_task = refl }
plain_object type (Some (a_cursor t v)) h = neither h
plain_object type (Some (a_value k w)) h = neither h
plain_object type (Some a_task) h = neither h

pub plain_target : (o : Option Meaning) (g : Given) → takes o g ≡ true → IsPlain o
plain_target None g h = neither h
plain_target (Some (a_type d)) g h = neither h
plain_target (Some (an_object t d)) g h = neither h
plain_target (Some (a_cursor t v)) g h = record { meaning = a_cursor t v; is = refl; no_task = refl }
plain_target (Some (a_value k w)) g h = record { meaning = a_value k w; is = refl; no_task = refl }
plain_target (Some a_task) g h = neither h

takes_nothing : {X : Type 0} (o : Option Meaning) → takes o gives_nothing ≡ true → X
takes_nothing None h = neither h
takes_nothing (Some (a_type d)) h = neither h
takes_nothing (Some (an_object t d)) h = neither h
takes_nothing (Some (a_cursor t v)) h = neither (and_parts v false h).1
takes_nothing (Some (a_value k w)) h = neither (and_parts w false h).1
takes_nothing (Some a_task) h = neither h

pub plain_source : (target from : Option Meaning) → takes target (given_in from) ≡ true → IsPlain from
plain_source target None h = takes_nothing target h
plain_source target (Some (a_type d)) h = takes_nothing target h
plain_source target (Some (an_object t d)) h = takes_nothing target h
plain_source target (Some (a_cursor t v)) h = record { meaning = a_cursor t v; is = refl; no_task = refl }
plain_source target (Some (a_value k w)) h = record { meaning = a_value k w; is = refl; no_task = refl }
plain_source target (Some a_task) h = takes_nothing target h

pub plain_letter : (scope : Scope) (typed : Typed) (l : Letter) (name : List ℕ) → fits scope typed l (Var name) ≡ true → IsPlain (meaning_in scope name)
plain_letter scope typed letter.Cursor name h = plain_cursor _ _ h
plain_letter scope typed letter.CursorVariable name h = plain_variable _ _ h
plain_letter scope typed letter.Integer name h = plain_value Integer (meaning_in scope name) h
plain_letter scope typed letter.Element name h = plain_value _ _ h
plain_letter scope typed letter.Key name h = plain_value _ _ h
plain_letter scope typed letter.Object name h = plain_object _ _ h

pub object_meant : (o : Option Meaning) (typed : Typed) → option_and_then object_in o ≡ Some typed → o ≡ Some (an_object typed.type typed.def)
object_meant None typed h = none_some typed h
object_meant (Some (a_type d)) typed h = none_some typed h
object_meant (Some (an_object t d)) typed h = ap (λ (y : Typed). Some (an_object y.type y.def)) (same_Some _ typed h)
object_meant (Some (a_cursor t v)) typed h = none_some typed h
object_meant (Some (a_value k w)) typed h = none_some typed h
object_meant (Some a_task) typed h = none_some typed h

-- What stands behind the names of tasks is an integer

int_there : (locals : List Decl) (k : ℕ) (x : Entry) → slice_get (int_entries locals) k ≡ Some x → x.meaning ≡ a_value Integer true
unfolding int_entries
int_there [] k x h = none_some x h
int_there (TypeDecl _ _ _ ∷ decls) k x h = int_there decls k x h
int_there (Object _ _ _ _ ∷ decls) k x h = int_there decls k x h
int_there (CursorVar _ _ _ ∷ decls) k x h = int_there decls k x h
int_there (IntVar line name ∷ decls) zero x h = ap (λ (y : Entry). y.meaning) (sym (same_Some (entry name (a_value Integer true)) x h))
int_there (IntVar line name ∷ decls) (suc k) x h = int_there decls k x h
int_there (TextVar _ _ ∷ decls) k x h = int_there decls k x h

behind_integer : (names : Scope) (locals : List Decl) (k : ℕ) (x : Entry) → AllTasks names → slice_get (names ++ int_entries locals) k ≡ Some x →
    is_task x.meaning ≡ false → x.meaning ≡ a_value Integer true
unfolding AllTasks
behind_integer [] locals k x tasks h plain = int_there locals k x h
behind_integer (t ∷ names) locals zero x tasks h plain =
    absurd (true≢false (sym (ap is_task tasks.0) ∙ (ap (λ (y : Entry). is_task y.meaning) (same_Some t x h) ∙ plain)))
behind_integer (t ∷ names) locals (suc k) x tasks h plain = behind_integer names locals k x tasks.1 h plain

-- In a task

module _ (before names : Scope) (locals : List Decl) (ints : AreIntegers locals) (none : first_task before ≡ None) (tasks : AllTasks names)
    (some : 1 ≤ length names) where
  abbrev pub in_task : Scope
  in_task = (before ++ names) ++ int_entries locals

  pub task_begins : first_task in_task ≡ Some (length before)
  task_begins = ap first_task (append_assoc before names (int_entries locals)) ∙ first_named before names (int_entries locals) none tasks some

  pub local_within : (name : List ℕ) → IsPlain (meaning_in in_task name) → is_local in_task (length before) name ≡ true →
      nat_lt (place_of in_task name - length (before ++ names)) (length locals) ≡ true
  local_within name plain local =
      let n = place_of in_task name in
      let x = entry name plain.meaning in
      let there : slice_get (before ++ (names ++ int_entries locals)) n ≡ Some x =
      subst (λ s. slice_get s n ≡ Some x) (append_assoc before names (int_entries locals)) (place_found in_task name plain.meaning plain.is) in
      let beyond : length before < n = true_lt (length before) n local in
      let p = past before (names ++ int_entries locals) n x (omega (arith, beyond)) there in
      let q = behind_tasks names (int_entries locals) p.0 x tasks p.2 plain.no_task in
      lt_true (n - length (before ++ names)) (length locals)
      (omega (arith, p.1, q.0, q.1, length_both before names, int_length locals ints))

  -- a local is an integer
  pub local_integer : (name : List ℕ) (plain : IsPlain (meaning_in in_task name)) → is_local in_task (length before) name ≡ true →
      plain.meaning ≡ a_value Integer true
  local_integer name plain local =
      let n = place_of in_task name in
      let x = entry name plain.meaning in
      let there : slice_get (before ++ (names ++ int_entries locals)) n ≡ Some x =
      subst (λ s. slice_get s n ≡ Some x) (append_assoc before names (int_entries locals)) (place_found in_task name plain.meaning plain.is) in
      let beyond : length before < n = true_lt (length before) n local in
      let p = past before (names ++ int_entries locals) n x (omega (arith, beyond)) there in
      behind_integer names locals p.0 x tasks p.2 plain.no_task

  -- an object stands before the block
  pub object_outside : (name : List ℕ) (typed : Typed) → object_of in_task name ≡ Some typed →
      slice_get before (place_of in_task name) ≡ Some (entry name (an_object typed.type typed.def))
  object_outside name typed h =
      let m = an_object typed.type typed.def in
      let there = place_found in_task name m (object_meant (meaning_in in_task name) typed h) in
      object_before before (names ++ int_entries locals) (place_of in_task name) (entry name m) typed
      (task_objects names (int_entries locals) tasks (int_objects locals)) refl
      (subst (λ s. slice_get s (place_of in_task name) ≡ Some (entry name m)) (append_assoc before names (int_entries locals)) there)
